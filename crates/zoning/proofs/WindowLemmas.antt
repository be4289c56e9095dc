-- At all of its moments a leg is on its course.
use Rattle.std.proofs.Common.{ℕ, List, ℤ, pos, ◌-ℤ◌, ◌*ℤ◌, ◌<ℤ◌, ◌≤ℤ◌, ◌∙◌, ◌↔◌, arith, sym}
use Rattle.std.proofs.lemmas.Int.{clamps, ints}
use Rattle.timebase.specs.Period.{PeriodView}
use Rattle.legs.specs.Legs.{IsMomentOf, LegView, first_moment, last_moment}
use Rattle.clipping.specs.Inside.{duration}
use Rattle.zones.specs.Places.{Corner}
use Rattle.zones.proofs.Orders.{scale}
use Rattle.zones.proofs.Pieces.{times_difference}
use Rattle.zones.proofs.Products.{scale_strictly, times_comm}
use Rattle.zone_windows.specs.Near.{AgreeOn}
use Rattle.zoning.specs.Stays.{AreStays, IsInAStay, IsInZone, course_of}
use Rattle.zoning.specs.declared.stay.Stay.{Stay}

module _ (leg : LegView) (period : PeriodView) (rises : leg.t0 <ℤ leg.t1) (n : ℤ) (d : ℕ) (m : IsMomentOf leg period n d) where
  d0 : pos 0 <ℤ pos d
  d0 = let h = m.divisor in omega (arith, ints, h)

  whole_positive : pos 0 <ℤ (pos d *ℤ duration leg)
  whole_positive = let s = scale_strictly (pos 0) (pos d) (duration leg) (omega (arith, ints, rises)) d0 in omega (arith, ints, s)

  from_start : pos 0 ≤ℤ (n -ℤ leg.t0 *ℤ pos d)
  from_start =
      let s = scale leg.t0 (first_moment leg period) (pos d) (omega (arith, ints, d0)) (omega (arith, ints, clamps)) in
      let h = m.from in
      omega (arith, ints, s, h)

  to_end : (n -ℤ leg.t0 *ℤ pos d) ≤ℤ (pos d *ℤ duration leg)
  to_end =
      let s = scale (last_moment leg period) leg.t1 (pos d) (omega (arith, ints, d0)) (omega (arith, ints, clamps)) in
      let h = m.to in
      omega (arith, ints, s, h, times_difference (pos d) leg.t1 leg.t0, times_comm (pos d) leg.t1, times_comm (pos d) leg.t0)

-- the stays in rings that are the zone on the leg's course are those in the zone
pub stays_in_whole : (leg : LegView) (period : PeriodView) → leg.t0 <ℤ leg.t1 → (near rings : List (List Corner)) → AgreeOn (course_of leg) near rings
    → (stays : List Stay) → AreStays near leg period stays → AreStays rings leg period stays
stays_in_whole leg period rises near rings agree stays are = record { exact = exact; apart = are.apart; within = are.within; ordered = are.ordered; each = are.each }
  where
    exact : (n : ℤ) (d : ℕ) → IsMomentOf leg period n d → IsInZone rings leg n d ↔ IsInAStay stays n d
    exact n d m =
        let e = agree (n -ℤ leg.t0 *ℤ pos d) (pos d *ℤ duration leg) (whole_positive leg period rises n d m) (from_start leg period rises n d m) (to_end leg period rises n d m) in
        let is = are.exact n d m in
        (λ h. is.0 (e ∙ h), λ h. sym e ∙ is.1 h)
