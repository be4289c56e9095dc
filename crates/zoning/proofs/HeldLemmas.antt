-- Stays over cuts hold the moments at the fractions that the cuts hold.
use Rattle.std.proofs.Common.{ℕ, ◌<◌, ◌++◌, ◌↔◌, All, List, [], ◌∷◌, ℤ, pos, ◌-ℤ◌, ◌*ℤ◌, ◌≤ℤ◌, ◌<ℤ◌, ◌≡◌, arith, sym, subst, true, inl, inr}
use Rattle.std.proofs.lemmas.Int.{clamps, ints}
use Rattle.std.proofs.lemmas.List.{append_assoc, append-nil}
use Rattle.std.proofs.lemmas.List.Elements.{All-nil}
use Rattle.timebase.specs.Period.{PeriodView}
use Rattle.legs.specs.Legs.{LegView, HasMoment, IsMomentOf, first_moment, last_moment}
use Rattle.clipping.specs.Inside.{duration}
use Rattle.clipping.proofs.Fractions.{scale, scale_strictly}
use Rattle.clipping.proofs.Products.{products}
use Rattle.zones.proofs.Products.{difference_times}
use Rattle.zones.specs.Places.{Corner, CourseView, point_at}
use Rattle.zones.specs.Zones.{in_zone}
use Rattle.zones.specs.Cuts.{AllBetween, IsStays, IsWithinCut}
use Rattle.zones.specs.Cuts as cuts
use Rattle.zones.specs.declared.cuts.CoursePlace.{CoursePlace}
use Rattle.zones.specs.declared.cuts.Cut.{Cut}
use Rattle.zoning.specs.Parts.{numerator_of}
use Rattle.zoning.specs.Asking.{IsAsked}
use Rattle.zoning.specs.Lengths.{IsNotAfter}
use Rattle.zoning.specs.Stays.{AllInside, AreOver, AreStays, IsDuring, IsInAStay, IsInZone, IsOf, IsOver, IsInPeriod}
use Rattle.zoning.specs.declared.stay.Stay.{Stay}
use Rattle.zoning.proofs.ApartLemmas.{all_apart, all_forward}
use Rattle.zoning.proofs.PartLemmas.{all_inside}
use Rattle.zoning.proofs.WithinLemmas.{all_within}
use Rattle.zoning.proofs.Orders.{after_from, after_to, before_from, before_to}

grouped : (a b z : ℤ) → (a *ℤ b) *ℤ z ≡ a *ℤ (b *ℤ z)
grouped a b z = omega (arith, ints, products)

den_positive : (k r : ℕ) → r < k → pos 0 <ℤ pos k
den_positive k r h = omega (arith, ints, h)

module _ (leg : LegView) where
  module _ (n : ℤ) (d : ℕ) where
    abbrev pub part : ℤ
    part = n -ℤ leg.t0 *ℤ pos d

    abbrev pub whole : ℤ
    whole = pos d *ℤ duration leg

    within_to : (cut : Cut) (stay : Stay) → IsOver leg cut stay → IsWithinCut cut part whole → IsDuring stay n d
    within_to cut stay over h = record {
      after = after_from (numerator_of stay.enters) cut.lo.num cut.lo.den (pos stay.enters.den) leg.t0 (duration leg) n (pos d) cut.lo.positive (den_positive stay.enters.den stay.enters.rest stay.enters.proper) over.enters.at h.after;
      before = before_from (numerator_of stay.leaves) cut.hi.num cut.hi.den (pos stay.leaves.den) leg.t0 (duration leg) n (pos d) cut.hi.positive (den_positive stay.leaves.den stay.leaves.rest stay.leaves.proper) over.leaves.at h.before;
    }

    within_from : (cut : Cut) (stay : Stay) → IsOver leg cut stay → IsDuring stay n d → IsWithinCut cut part whole
    within_from cut stay over h = record {
      after = after_to (numerator_of stay.enters) cut.lo.num cut.lo.den (pos stay.enters.den) leg.t0 (duration leg) n (pos d) cut.lo.positive (den_positive stay.enters.den stay.enters.rest stay.enters.proper) over.enters.at h.after;
      before = before_to (numerator_of stay.leaves) cut.hi.num cut.hi.den (pos stay.leaves.den) leg.t0 (duration leg) n (pos d) cut.hi.positive (den_positive stay.leaves.den stay.leaves.rest stay.leaves.proper) over.leaves.at h.before;
    }

    pub held_to : (cs : List Cut) (stays : List Stay) → AreOver leg cs stays → cuts.IsHeld cs part whole → IsInAStay stays n d
    held_to [] [] over h = h
    held_to [] (stay ∷ stays) over h = absurd over
    held_to (cut ∷ cs) [] over h = absurd over
    held_to (cut ∷ cs) (stay ∷ stays) over (inl h) = inl (within_to cut stay over.0 h)
    held_to (cut ∷ cs) (stay ∷ stays) over (inr h) = inr (held_to cs stays over.1 h)

    pub held_from : (cs : List Cut) (stays : List Stay) → AreOver leg cs stays → IsInAStay stays n d → cuts.IsHeld cs part whole
    held_from [] [] over h = h
    held_from [] (stay ∷ stays) over h = absurd over
    held_from (cut ∷ cs) [] over h = absurd over
    held_from (cut ∷ cs) (stay ∷ stays) over (inl h) = inl (within_from cut stay over.0 h)
    held_from (cut ∷ cs) (stay ∷ stays) over (inr h) = inr (held_from cs stays over.1 h)

  -- the stays over what is left complete those over all
  abbrev pub IsGoing : List Cut → List Cut → List Stay → Type 0
  IsGoing all left stays = (rest : List Stay) → AreOver leg left rest → AreOver leg all (stays ++ rest)

  pub going : (all left : List Cut) (stays : List Stay) (cut : Cut) (stay : Stay) → IsGoing all (cut ∷ left) stays → IsOver leg cut stay → IsGoing all left (stays ++ stay ∷ [])
  going all left stays cut stay so_far is = λ rest h.
      subst (λ (l : List Stay). AreOver leg all l) (sym (append_assoc stays (stay ∷ []) rest)) (so_far (stay ∷ rest) (is, h))

  pub gone : (all : List Cut) (stays : List Stay) → IsGoing all [] stays → AreOver leg all stays
  gone all stays so_far = subst (λ (l : List Stay). AreOver leg all l) (append-nil stays) (so_far [] tt)

-- between the first and the last moment a leg's place is between those of both
pub from_first : (f t w n d : ℤ) → pos 0 ≤ℤ w → (f *ℤ d) ≤ℤ n → ((f -ℤ t) *ℤ (d *ℤ w)) ≤ℤ ((n -ℤ t *ℤ d) *ℤ w)
from_first f t w n d z h =
    let a = scale ((f -ℤ t) *ℤ d) (n -ℤ t *ℤ d) w z (let e = difference_times f t d in omega (arith, ints, e, h)) in
    let g : ((f -ℤ t) *ℤ d) *ℤ w ≡ (f -ℤ t) *ℤ (d *ℤ w) = grouped (f -ℤ t) d w in
    omega (arith, ints, a, g)

pub to_last : (l t w n d : ℤ) → pos 0 ≤ℤ w → n ≤ℤ (l *ℤ d) → ((n -ℤ t *ℤ d) *ℤ w) ≤ℤ ((l -ℤ t) *ℤ (d *ℤ w))
to_last l t w n d z h =
    let a = scale (n -ℤ t *ℤ d) ((l -ℤ t) *ℤ d) w z (let e = difference_times l t d in omega (arith, ints, e, h)) in
    let g : ((l -ℤ t) *ℤ d) *ℤ w ≡ (l -ℤ t) *ℤ (d *ℤ w) = grouped (l -ℤ t) d w in
    omega (arith, ints, a, g)

positive_product : (a b : ℤ) → pos 0 <ℤ a → pos 0 <ℤ b → pos 0 <ℤ (a *ℤ b)
positive_product a b h g = let s = scale_strictly (pos 0) a b g h in omega (arith, ints, s)

-- a leg without a moment in the period has no stay there
pub none_stays : (rings : List (List Corner)) (leg : LegView) (period : PeriodView) → (HasMoment leg period → ⊥) → AreStays rings leg period []
none_stays rings leg period none =
    record { exact = λ n d m. absurd (none (n, d, m)); apart = tt; within = All-nil (IsInPeriod leg period); ordered = All-nil (λ stay. IsNotAfter stay.enters stay.leaves); each = All-nil (IsOf leg period) }

module _ (leg : LegView) (period : PeriodView) (course : CourseView) (first last : CoursePlace) (asked : IsAsked leg period course first last) where
  w0 : pos 0 <ℤ duration leg
  w0 = let h = asked.rises in omega (arith, ints, h)

  -- the cuts from the first place to the last are parts
  pub asked_inside : (cs : List Cut) → AllBetween first last cs → AllInside cs
  asked_inside cs between =
      all_inside first last cs
      (let e = asked.first_num in omega (arith, ints, clamps, e))
      (let e = asked.last_num in let f = asked.last_den in omega (arith, ints, clamps, e, f))
      between

  pub are_stays : (rings : List (List Corner)) (cs : List Cut) (stays : List Stay) → IsStays rings course first last cs → AreOver leg cs stays → All (IsOf leg period) stays → AreStays rings leg period stays
  are_stays rings cs stays is over each = record { exact = exact; apart = all_apart leg w0 cs stays over is.apart; within = all_within leg period first last asked.first_num asked.first_den asked.last_num asked.last_den cs stays over is.between; ordered = all_forward leg w0 cs stays over; each = each }
    where
      exact : (n : ℤ) (d : ℕ) → IsMomentOf leg period n d → IsInZone rings leg n d ↔ IsInAStay stays n d
      exact n d m =
          let t : ℤ = leg.t0 in
          let w : ℤ = duration leg in
          let part : ℤ = n -ℤ t *ℤ pos d in
          let whole : ℤ = pos d *ℤ w in
          let w1 : pos 0 ≤ℤ w = omega (arith, ints, w0) in
          let d0 : pos 0 <ℤ pos d = let h = m.divisor in omega (arith, ints, h) in
          let from : (first.num *ℤ whole) ≤ℤ (part *ℤ first.den) =
          subst (λ (k : ℤ). (k *ℤ whole) ≤ℤ (part *ℤ first.den)) (sym asked.first_num) (subst (λ (k : ℤ). ((first_moment leg period -ℤ t) *ℤ whole) ≤ℤ (part *ℤ k)) (sym asked.first_den) (from_first (first_moment leg period) t w n (pos d) w1 m.from)) in
          let to : (part *ℤ last.den) ≤ℤ (last.num *ℤ whole) =
          subst (λ (k : ℤ). (part *ℤ last.den) ≤ℤ (k *ℤ whole)) (sym asked.last_num) (subst (λ (k : ℤ). (part *ℤ k) ≤ℤ ((last_moment leg period -ℤ t) *ℤ whole)) (sym asked.last_den) (to_last (last_moment leg period) t w n (pos d) w1 m.to)) in
          let found = is.exact part whole (positive_product (pos d) w d0 w0) from to in (
            λ h. held_to leg n d cs stays over (found.0 (subst (λ (c : CourseView). in_zone rings (point_at c part whole) ≡ true) (sym asked.way) h)),
            λ h. subst (λ (c : CourseView). in_zone rings (point_at c part whole) ≡ true) asked.way (found.1 (held_from leg n d cs stays over h)),
          )
