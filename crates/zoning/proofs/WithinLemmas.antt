-- Stays over cuts are within the moments that were asked for.
use Rattle.std.proofs.Common.{ℕ, ◌<◌, All, List, [], ◌∷◌, ℤ, pos, ◌+ℤ◌, ◌-ℤ◌, ◌*ℤ◌, ◌≤ℤ◌, ◌<ℤ◌, ◌≡◌, arith, subst}
use Rattle.std.proofs.lemmas.Int.{ints}
use Rattle.std.proofs.lemmas.List.Elements.{All-cons, All-nil}
use Rattle.timebase.specs.Period.{PeriodView}
use Rattle.legs.specs.Legs.{LegView, first_moment, last_moment}
use Rattle.clipping.specs.Inside.{duration}
use Rattle.clipping.proofs.Fractions.{cancel, scale}
use Rattle.zones.proofs.Products.{difference_times, swap, times_comm}
use Rattle.zones.specs.Cuts.{AllBetween}
use Rattle.zones.specs.declared.cuts.CoursePlace.{CoursePlace}
use Rattle.zones.specs.declared.cuts.Cut.{Cut}
use Rattle.zoning.specs.Parts.{numerator_of}
use Rattle.zoning.specs.Stays.{AreOver, IsOver, IsInPeriod}
use Rattle.zoning.specs.declared.stay.Stay.{Stay}

positive : (d : ℕ) → 0 < d → pos 0 <ℤ pos d
positive d h = omega (arith, ints, h)

-- s / k is the moment at the part p / q of a duration w, from t on; f is a whole millisecond
module _ (f t w p q s k : ℤ) (q0 : pos 0 <ℤ q) (k0 : pos 0 <ℤ k) (e : s *ℤ q ≡ (t *ℤ q +ℤ w *ℤ p) *ℤ k) where
  k1 : pos 0 ≤ℤ k
  k1 = omega (arith, ints, k0)

  u : (f -ℤ t) *ℤ q ≡ f *ℤ q -ℤ t *ℤ q
  u = difference_times f t q

  g : w *ℤ p ≡ p *ℤ w
  g = times_comm w p

  v : (f *ℤ k) *ℤ q ≡ (f *ℤ q) *ℤ k
  v = swap f k q

  begins : ((f -ℤ t) *ℤ q) ≤ℤ (p *ℤ w) → (f *ℤ k) ≤ℤ s
  begins h =
      let m = scale (f *ℤ q) (t *ℤ q +ℤ w *ℤ p) k k1 (omega (arith, ints, h, u, g)) in
      cancel (f *ℤ k) s q q0 (omega (arith, ints, m, v, e))

  ends : (p *ℤ w) ≤ℤ ((f -ℤ t) *ℤ q) → s ≤ℤ (f *ℤ k)
  ends h =
      let m = scale (t *ℤ q +ℤ w *ℤ p) (f *ℤ q) k k1 (omega (arith, ints, h, u, g)) in
      cancel s (f *ℤ k) q q0 (omega (arith, ints, m, v, e))

module _ (leg : LegView) (period : PeriodView) (first last : CoursePlace)
    (first_num : first.num ≡ first_moment leg period -ℤ leg.t0) (first_den : first.den ≡ duration leg)
    (last_num : last.num ≡ last_moment leg period -ℤ leg.t0) (last_den : last.den ≡ duration leg) where
  is_within : (cut : Cut) (stay : Stay) → IsOver leg cut stay → (first.num *ℤ cut.lo.den) ≤ℤ (cut.lo.num *ℤ first.den) → (cut.hi.num *ℤ last.den) ≤ℤ (last.num *ℤ cut.hi.den) → IsInPeriod leg period stay
  is_within cut stay over from to = record {
    from = begins (first_moment leg period) leg.t0 (duration leg) cut.lo.num cut.lo.den (numerator_of stay.enters) (pos stay.enters.den) cut.lo.positive (positive stay.enters.den stay.enters.positive) over.enters.at
        (subst (λ (m : ℤ). (m *ℤ cut.lo.den) ≤ℤ (cut.lo.num *ℤ duration leg)) first_num (subst (λ (m : ℤ). (first.num *ℤ cut.lo.den) ≤ℤ (cut.lo.num *ℤ m)) first_den from));
    to = ends (last_moment leg period) leg.t0 (duration leg) cut.hi.num cut.hi.den (numerator_of stay.leaves) (pos stay.leaves.den) cut.hi.positive (positive stay.leaves.den stay.leaves.positive) over.leaves.at
        (subst (λ (m : ℤ). (cut.hi.num *ℤ duration leg) ≤ℤ (m *ℤ cut.hi.den)) last_num (subst (λ (m : ℤ). (cut.hi.num *ℤ m) ≤ℤ (last.num *ℤ cut.hi.den)) last_den to));
  }

  pub all_within : (cs : List Cut) (stays : List Stay) → AreOver leg cs stays → AllBetween first last cs → All (IsInPeriod leg period) stays
  all_within [] [] over h = All-nil (IsInPeriod leg period)
  all_within [] (stay ∷ stays) over h = absurd over
  all_within (cut ∷ cs) [] over h = absurd over
  all_within (cut ∷ cs) (stay ∷ stays) over h =
      All-cons (IsInPeriod leg period) stay stays (is_within cut stay over.0 h.0 h.1) (all_within cs stays over.1 h.2)
