-- A known leaf, read without the test of its form.
use Rattle.std.proofs.Common.{ℕ, zero, suc, ◌≡◌, ◌<◌, List, [], ◌∷◌, length, refl, sym, ap, ◌∙◌, arith, Some, None, slice_get, ℤ, is_lt, int_cmp, cond, true, false, Less, Greater, Equal}
use Rattle.std.specs.Prelude.{int_lt}
use Rattle.timebase.specs.Period.{PeriodView}
use Rattle.legs.specs.Legs.{LegView}
use Rattle.chains.specs.Links.{is_end}
use Rattle.legs.proofs.GroupLemmas.{some_none, some_same}

-- an element is there
pub there_at : {X : Type 0} (xs : List X) (i : ℕ) → i < length xs → (x : X) × (slice_get xs i ≡ Some x)
there_at [] i h = absurd (omega (arith, h))
there_at (x ∷ xs) zero h = (x, refl)
there_at (x ∷ xs) (suc i) h = there_at xs i (omega (arith, h))

pub not_none : {X : Type 0} (xs : List X) (i : ℕ) → i < length xs → None ≡ slice_get xs i → ⊥
not_none xs i h e = let t = there_at xs i h in some_none t.0 (sym (e ∙ t.1))

-- the first leg says whether nothing before is kept
pub ends_by : (period : PeriodView) (legs : List LegView) (first : LegView) → Some first ≡ slice_get legs 0 → int_lt first.t0 period.start ≡ is_end (Some period) legs
ends_by period [] first e = absurd (some_none first e)
ends_by period (leg ∷ legs) first e = ap (λ (l : LegView). int_lt l.t0 period.start) (some_same first leg e)

lt_same : (x y : ℤ) → is_lt (int_cmp x y) ≡ int_lt x y
lt_same x y =
    (elim (int_lt x y) as (λ v. is_lt (cond v Less (cond (int_lt y x) Greater Equal)) ≡ v) [
      | true ↦ refl
      | false ↦ (elim (int_lt y x) as (λ w. is_lt (cond w Greater Equal) ≡ false) [ true ↦ refl | false ↦ refl ])
    ])

pub lt_by : (a b x y : ℤ) → a ≡ x → b ≡ y → is_lt (int_cmp a b) ≡ int_lt x y
lt_by a b x y e f = (λ i. is_lt (int_cmp (e i) (f i))) ∙ lt_same x y
