-- Between two stays that are apart there is a moment at which the leg is in none of them.
use Rattle.std.proofs.Common.{ℕ, ◌<◌, ◌+◌, inl, inr, ℤ, pos, ◌+ℤ◌, ◌*ℤ◌, ◌≤ℤ◌, ◌<ℤ◌, ◌≡◌, List, [], ◌∷◌, arith}
use Rattle.std.proofs.lemmas.Int.{ints}
use Rattle.timebase.specs.Period.{PeriodView}
use Rattle.legs.specs.Legs.{LegView, IsMomentOf, first_moment, last_moment}
use Rattle.clipping.proofs.Fractions.{through}
use Rattle.zones.proofs.Products.{sum_times, times_comm}
use Rattle.zoning.specs.Lengths.{IsNotAfter}
use Rattle.zoning.specs.Parts.{numerator_of}
use Rattle.zoning.specs.Stays.{AreAfter, AreApart, IsBefore, IsDuring, IsInAStay, IsInPeriod}
use Rattle.zoning.specs.declared.stay.Stay.{Stay}
use Rattle.zoning.proofs.MomentsHeld.{enters_to, leaves_from}

positive : (d : ℕ) → 0 < d → pos 0 <ℤ pos d
positive d h = omega (arith, ints, h)

-- the mediant of a / b and c / d is after the one and before the other
module _ (a b c d : ℤ) (less : (a *ℤ d) <ℤ (c *ℤ b)) where
  pub no_later : ((a +ℤ c) *ℤ b) ≤ℤ (a *ℤ (b +ℤ d)) → ⊥
  no_later h =
      let p = sum_times a c b in
      let q = times_comm a (b +ℤ d) in
      let r = sum_times b d a in
      let s = times_comm b a in
      let t = times_comm d a in
      omega (arith, ints, h, less, p, q, r, s, t)

  pub no_sooner : (c *ℤ (b +ℤ d)) ≤ℤ ((a +ℤ c) *ℤ d) → ⊥
  no_sooner h =
      let p = sum_times a c d in
      let q = times_comm c (b +ℤ d) in
      let r = sum_times b d c in
      let s = times_comm b c in
      let t = times_comm d c in
      omega (arith, ints, h, less, p, q, r, s, t)

module _ (leg : LegView) (period : PeriodView) (stay next : Stay) (rest : List Stay) where
  abbrev pub between : ℤ
  between = numerator_of stay.leaves +ℤ numerator_of next.enters

  abbrev pub parts : ℕ
  parts = stay.leaves.den + next.enters.den

  b0 : pos 0 <ℤ pos stay.leaves.den
  b0 = positive stay.leaves.den stay.leaves.positive

  d0 : pos 0 <ℤ pos next.enters.den
  d0 = positive next.enters.den next.enters.positive

  sum : pos parts ≡ pos stay.leaves.den +ℤ pos next.enters.den
  sum = omega (arith, ints)

  module _ (apart : IsBefore stay.leaves next.enters) where
    not_in_first : IsDuring stay between parts → ⊥
    not_in_first during =
        let h = during.before in
        no_later (numerator_of stay.leaves) (pos stay.leaves.den) (numerator_of next.enters) (pos next.enters.den) apart (rw sum at h)

    not_in_next : IsDuring next between parts → ⊥
    not_in_next during =
        let h = during.after in
        no_sooner (numerator_of stay.leaves) (pos stay.leaves.den) (numerator_of next.enters) (pos next.enters.den) apart (rw sum at h)

    module _ (ordered : IsNotAfter next.enters next.leaves) where
      not_in_later : (later : Stay) → IsBefore next.leaves later.enters → IsDuring later between parts → ⊥
      not_in_later later after during =
          let p0 : pos 0 <ℤ pos parts = omega (arith, ints, b0, d0) in
          let l0 = positive next.leaves.den next.leaves.positive in
          let u0 = positive later.enters.den later.enters.positive in
          let h = during.after in
          let less : (numerator_of next.leaves *ℤ pos later.enters.den) ≤ℤ (numerator_of later.enters *ℤ pos next.leaves.den) = omega (arith, ints, after) in
          let a = through (numerator_of next.enters) (pos next.enters.den) (numerator_of next.leaves) (pos next.leaves.den) (numerator_of later.enters) (pos later.enters.den) d0 l0 u0 ordered less in
          let b = through (numerator_of next.enters) (pos next.enters.den) (numerator_of later.enters) (pos later.enters.den) between (pos parts) d0 u0 p0 a h in
          no_sooner (numerator_of stay.leaves) (pos stay.leaves.den) (numerator_of next.enters) (pos next.enters.den) apart (rw sum at b)

      not_in_rest : (later : List Stay) → AreAfter next.leaves later → IsInAStay later between parts → ⊥
      not_in_rest [] after h = h
      not_in_rest (one ∷ later) after (inl h) = not_in_later one after.0 h
      not_in_rest (one ∷ later) after (inr h) = not_in_rest later after.1 h

  pub in_none : AreApart (stay ∷ next ∷ rest) → IsNotAfter next.enters next.leaves → IsInAStay (stay ∷ next ∷ rest) between parts → ⊥
  in_none apart ordered (inl h) = not_in_first apart.0.0 h
  in_none apart ordered (inr (inl h)) = not_in_next apart.0.0 h
  in_none apart ordered (inr (inr h)) = not_in_rest apart.0.0 ordered rest apart.1.0 h

  pub is_moment : IsInPeriod leg period stay → IsNotAfter stay.enters stay.leaves → IsInPeriod leg period next → IsNotAfter next.enters next.leaves → IsMomentOf leg period between parts
  is_moment here forward there next_forward =
      let f = first_moment leg period in
      let l = last_moment leg period in
      let a = leaves_from leg period stay here forward in
      let b = there.from in
      let c = here.to in
      let d = enters_to leg period next there next_forward in
      let p = sum_times (pos stay.leaves.den) (pos next.enters.den) f in
      let q = sum_times (pos stay.leaves.den) (pos next.enters.den) l in
      let r = times_comm f (pos stay.leaves.den +ℤ pos next.enters.den) in
      let s = times_comm l (pos stay.leaves.den +ℤ pos next.enters.den) in
      let fa = times_comm f (pos stay.leaves.den) in
      let fb = times_comm f (pos next.enters.den) in
      let la = times_comm l (pos stay.leaves.den) in
      let lb = times_comm l (pos next.enters.den) in
      let from : (f *ℤ (pos stay.leaves.den +ℤ pos next.enters.den)) ≤ℤ between = omega (arith, ints, a, b, p, r, fa, fb) in
      let to : between ≤ℤ (l *ℤ (pos stay.leaves.den +ℤ pos next.enters.den)) = omega (arith, ints, c, d, q, s, la, lb) in
      record {
        divisor = let h = stay.leaves.positive in omega (arith, h);
        from = rw sum from;
        to = rw sum to;
      }
