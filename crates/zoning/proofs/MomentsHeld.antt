-- At which of its first, its last and all of its moments a leg is in a stay.
use Rattle.std.proofs.Common.{ℕ, ◌<◌, ◌⊎◌, inl, inr, ℤ, pos, ◌*ℤ◌, ◌≤ℤ◌, ◌<ℤ◌, ◌≡◌, arith, subst, refl, Bool, true, false, cond}
use Rattle.std.specs.Prelude.{int_lt}
use Rattle.std.specs.Int.{int_max, int_min}
use Rattle.std.proofs.lemmas.Bool.{false≢true}
use Rattle.std.proofs.lemmas.Int.{clamps, ints}
use Rattle.timebase.specs.Period.{PeriodView}
use Rattle.legs.specs.Legs.{LegView, IsMomentOf, first_moment, last_moment}
use Rattle.clipping.proofs.Fractions.{scale, through}
use Rattle.visiting.specs.declared.ends.End.{End}
use Rattle.visiting.specs.declared.ends.End.TheVariants.{Leg, Period, Edge}
use Rattle.zoning.specs.Courses.{holds_first, holds_last, is_own}
use Rattle.zoning.specs.Ends.{IsEndBy}
use Rattle.zoning.specs.Lengths.{IsNotAfter}
use Rattle.zoning.specs.Parts.{numerator_of}
use Rattle.zoning.specs.Stays.{IsDuring, IsOf, IsInPeriod}
use Rattle.zoning.specs.declared.moment.Moment.{Moment}
use Rattle.zoning.specs.declared.stay.Stay.{Stay}

positive : (d : ℕ) → 0 < d → pos 0 <ℤ pos d
positive d h = omega (arith, ints, h)

one : (a : ℤ) → a *ℤ pos 1 ≡ a
one a = omega (arith, ints)

one0 : pos 0 <ℤ pos 1
one0 = omega (arith, ints)

max_is : (a b : ℤ) → (int_max a b ≡ a) ⊎ (int_max a b ≡ b)
max_is a b = by (int_lt b a)
  where
    by : (t : Bool) → (cond t a b ≡ a) ⊎ (cond t a b ≡ b)
    by true = inl refl
    by false = inr refl

min_is : (a b : ℤ) → (int_min a b ≡ a) ⊎ (int_min a b ≡ b)
min_is a b = by (int_lt b a)
  where
    by : (t : Bool) → (cond t b a ≡ a) ⊎ (cond t b a ≡ b)
    by true = inr refl
    by false = inl refl

below_max : (a b : ℤ) → (a ≤ℤ int_max a b) × (b ≤ℤ int_max a b)
below_max a b = (omega (arith, ints, clamps), omega (arith, ints, clamps))

above_min : (a b : ℤ) → (int_min a b ≤ℤ a) × (int_min a b ≤ℤ b)
above_min a b = (omega (arith, ints, clamps), omega (arith, ints, clamps))

-- an end that is at the greater of two is one of them, and one of them that is not below is at the greater
module _ (moment : Moment) (leg period : ℤ) (by_end : End) (is : IsEndBy moment leg period by_end) where
  k0 : pos 0 ≤ℤ pos moment.den
  k0 = let h = positive moment.den moment.positive in omega (arith, ints, h)

  own_is : is_own by_end ≡ true → (numerator_of moment ≡ leg *ℤ pos moment.den) ⊎ (numerator_of moment ≡ period *ℤ pos moment.den)
  own_is = by by_end is
    where
      by : (e : End) → IsEndBy moment leg period e → is_own e ≡ true → (numerator_of moment ≡ leg *ℤ pos moment.den) ⊎ (numerator_of moment ≡ period *ℤ pos moment.den)
      by Leg is own = inl is
      by Period is own = inr is.1
      by Edge is own = absurd (false≢true own)

  is_own_of : (numerator_of moment ≡ leg *ℤ pos moment.den) ⊎ (numerator_of moment ≡ period *ℤ pos moment.den) → is_own by_end ≡ true
  is_own_of = by by_end is
    where
      by : (e : End) → IsEndBy moment leg period e → (numerator_of moment ≡ leg *ℤ pos moment.den) ⊎ (numerator_of moment ≡ period *ℤ pos moment.den) → is_own e ≡ true
      by Leg is h = refl
      by Period is h = refl
      by Edge is (inl h) = absurd (is.0 h)
      by Edge is (inr h) = absurd (is.1 h)

  pub own_begins : is_own by_end ≡ true → numerator_of moment ≤ℤ (int_max leg period *ℤ pos moment.den)
  own_begins own = by (own_is own)
    where
      by : (numerator_of moment ≡ leg *ℤ pos moment.den) ⊎ (numerator_of moment ≡ period *ℤ pos moment.den) → numerator_of moment ≤ℤ (int_max leg period *ℤ pos moment.den)
      by (inl h) = let s = scale leg (int_max leg period) (pos moment.den) k0 (below_max leg period).0 in omega (arith, ints, h, s)
      by (inr h) = let s = scale period (int_max leg period) (pos moment.den) k0 (below_max leg period).1 in omega (arith, ints, h, s)

  pub begins_own : numerator_of moment ≡ int_max leg period *ℤ pos moment.den → is_own by_end ≡ true
  begins_own e = is_own_of (by (max_is leg period))
    where
      by : (int_max leg period ≡ leg) ⊎ (int_max leg period ≡ period) → (numerator_of moment ≡ leg *ℤ pos moment.den) ⊎ (numerator_of moment ≡ period *ℤ pos moment.den)
      by (inl h) = inl (subst (λ (m : ℤ). numerator_of moment ≡ m *ℤ pos moment.den) h e)
      by (inr h) = inr (subst (λ (m : ℤ). numerator_of moment ≡ m *ℤ pos moment.den) h e)

  pub own_ends : is_own by_end ≡ true → (int_min leg period *ℤ pos moment.den) ≤ℤ numerator_of moment
  own_ends own = by (own_is own)
    where
      by : (numerator_of moment ≡ leg *ℤ pos moment.den) ⊎ (numerator_of moment ≡ period *ℤ pos moment.den) → (int_min leg period *ℤ pos moment.den) ≤ℤ numerator_of moment
      by (inl h) = let s = scale (int_min leg period) leg (pos moment.den) k0 (above_min leg period).0 in omega (arith, ints, h, s)
      by (inr h) = let s = scale (int_min leg period) period (pos moment.den) k0 (above_min leg period).1 in omega (arith, ints, h, s)

  pub ends_own : numerator_of moment ≡ int_min leg period *ℤ pos moment.den → is_own by_end ≡ true
  ends_own e = is_own_of (by (min_is leg period))
    where
      by : (int_min leg period ≡ leg) ⊎ (int_min leg period ≡ period) → (numerator_of moment ≡ leg *ℤ pos moment.den) ⊎ (numerator_of moment ≡ period *ℤ pos moment.den)
      by (inl h) = inl (subst (λ (m : ℤ). numerator_of moment ≡ m *ℤ pos moment.den) h e)
      by (inr h) = inr (subst (λ (m : ℤ). numerator_of moment ≡ m *ℤ pos moment.den) h e)

module _ (leg : LegView) (period : PeriodView) (stay : Stay) (within : IsInPeriod leg period stay) (ordered : IsNotAfter stay.enters stay.leaves) where
  abbrev f : ℤ
  f = first_moment leg period

  abbrev l : ℤ
  l = last_moment leg period

  abbrev e : ℤ
  e = numerator_of stay.enters

  abbrev v : ℤ
  v = numerator_of stay.leaves

  abbrev ed : ℤ
  ed = pos stay.enters.den

  abbrev vd : ℤ
  vd = pos stay.leaves.den

  ed0 : pos 0 <ℤ ed
  ed0 = positive stay.enters.den stay.enters.positive

  vd0 : pos 0 <ℤ vd
  vd0 = positive stay.leaves.den stay.leaves.positive

  -- both of its moments are between the first and the last
  pub leaves_from : (f *ℤ vd) ≤ℤ v
  leaves_from =
      let a = within.from in
      let t = through f (pos 1) e ed v vd one0 ed0 vd0 (omega (arith, ints, a, one e)) ordered in
      omega (arith, ints, t, one v)

  pub enters_to : e ≤ℤ (l *ℤ ed)
  enters_to =
      let a = within.to in
      let t = through e ed v vd l (pos 1) ed0 vd0 one0 ordered (omega (arith, ints, a, one v)) in
      omega (arith, ints, t, one e)

  pub enters_moment : IsMomentOf leg period e stay.enters.den
  enters_moment = record { divisor = let h = stay.enters.positive in omega (arith, h); from = within.from; to = enters_to }

  pub enters_during : IsDuring stay e stay.enters.den
  enters_during = record { after = omega (arith, ints); before = ordered }

  pub first_during : IsOf leg period stay → holds_first stay ≡ true → IsDuring stay f 1
  first_during is own =
      let a = own_begins stay.enters leg.t0 period.start stay.enters_by is.begun own in
      let b = leaves_from in
      record { after = omega (arith, ints, a, one e); before = omega (arith, ints, b, one v) }

  pub during_first : IsOf leg period stay → IsDuring stay f 1 → holds_first stay ≡ true
  during_first is during =
      let a = during.after in
      let b = within.from in
      begins_own stay.enters leg.t0 period.start stay.enters_by is.begun (omega (arith, ints, a, b, one e))

  pub last_during : IsOf leg period stay → holds_last stay ≡ true → IsDuring stay l 1
  last_during is own =
      let a = own_ends stay.leaves leg.t1 period.end stay.leaves_by is.ended own in
      let b = enters_to in
      record { after = omega (arith, ints, b, one e); before = omega (arith, ints, a, one v) }

  pub during_last : IsOf leg period stay → IsDuring stay l 1 → holds_last stay ≡ true
  during_last is during =
      let a = during.before in
      let b = within.to in
      ends_own stay.leaves leg.t1 period.end stay.leaves_by is.ended (omega (arith, ints, a, b, one v))

  -- a stay that holds the first and the last moment holds all
  pub all_during : IsDuring stay f 1 → IsDuring stay l 1 → (n : ℤ) (d : ℕ) → IsMomentOf leg period n d → IsDuring stay n d
  all_during first last n d moment =
      let d0 = positive d (let h = moment.divisor in omega (arith, h)) in
      let from = moment.from in
      let to = moment.to in
      let a = through e ed f (pos 1) n (pos d) ed0 one0 d0 first.after (omega (arith, ints, from, one n)) in
      let b = through n (pos d) l (pos 1) v vd d0 one0 vd0 (omega (arith, ints, to, one n)) last.before in
      record { after = a; before = b }
