-- Features whose last leg ends before a period.
use Rattle.std.proofs.Common.{ℕ, ◌≡◌, ◌∙◌, ◌++◌, ◌∷◌, [], List, ap, sym, subst, refl, true, false, cond, eqb, arith, inl, inr, Option, Some, None, ℤ, ◌≤ℤ◌, ◌<ℤ◌, append_assoc, All, Bool, ◌⊎◌, ⊎_elim}
use Rattle.std.specs.Prelude.{filter, fold, int_le, ◌||◌}
use Rattle.std.specs.Int.{int_max, int_min}
use Rattle.std.specs.Option.{ForSome}
use Rattle.std.proofs.lemmas.Bool.Decides.{nat_tests}
use Rattle.std.proofs.lemmas.Int.{ints, clamps}
use Rattle.std.proofs.lemmas.List.{append-nil}
use Rattle.std.proofs.lemmas.List.Elements.{All-weaker, All-push, All-nil, All-head, All-tail}
use Rattle.timebase.specs.Period.{PeriodView}
use Rattle.legs.specs.Legs.{LegView, IsLeg, is_live}
use Rattle.legs.specs.Costs.{reaches}
use Rattle.legs.specs.Index.{CanFollow, CanFollowInTurn, last_end, legs_of, live_legs_of}
use Rattle.legs.proofs.BoxLemmas.{le_from}
use Rattle.legs.proofs.NameLemmas.{cases_bool}
use Rattle.legs.proofs.RecordLemmas.{last_end-push}

-- no leg of the feature ends after that; there is none where there is no end
abbrev EndsBy : ℕ → Option ℤ → LegView → Type 0
EndsBy f None leg = leg.feature ≡ f → ⊥
EndsBy f (Some end) leg = leg.feature ≡ f → leg.t1 ≤ℤ end

same_feature : (a b : ℕ) → eqb a b ≡ true → a ≡ b
same_feature a b e = grind (arith, nat_tests)

self_feature : (a b : ℕ) → a ≡ b → eqb a b ≡ true
self_feature a b e = grind (arith, nat_tests)

later_end : (f : ℕ) (o : Option ℤ) (leg : LegView) → IsLeg leg → ForSome o (λ end. end ≤ℤ leg.t0) → (l : LegView) → EndsBy f o l → EndsBy f (Some leg.t1) l
later_end f None leg is time l by = λ e. absurd (by e)
later_end f (Some end) leg is time l by = λ e.
    let before : l.t1 ≤ℤ end = by e in
    let start : end ≤ℤ leg.t0 = time end refl in
    let rises : leg.t0 <ℤ leg.t1 = is.rises in
    omega (arith, ints)

other_end : (f : ℕ) (o : Option ℤ) (leg : LegView) → (leg.feature ≡ f → ⊥) → EndsBy f o leg
other_end f None leg other = other
other_end f (Some end) leg other = λ e. absurd (other e)

le_self : (z : ℤ) → z ≤ℤ z
le_self z = omega (arith, ints)

-- a leg more
ends_more : (f : ℕ) (before : List LegView) (leg : LegView) → IsLeg leg → CanFollow before leg → All (EndsBy f (last_end f before)) before → All (EndsBy f (last_end f (before ++ leg ∷ []))) (before ++ leg ∷ [])
ends_more f before leg is follows all =
    elim (cases_bool (eqb leg.feature f)) [
      | inl own ↦
          let end : last_end f (before ++ leg ∷ []) ≡ Some leg.t1 = last_end-push f before leg ∙ ap (λ b. cond b (Some leg.t1) (last_end f before)) own in
          let same : leg.feature ≡ f = same_feature leg.feature f own in
          let time : ForSome (last_end f before) (λ end. end ≤ℤ leg.t0) = subst (λ (g : ℕ). ForSome (last_end g before) (λ end. end ≤ℤ leg.t0)) same follows.time in
          rw end (All-push (EndsBy f (Some leg.t1)) before leg (All-weaker (EndsBy f (last_end f before)) (EndsBy f (Some leg.t1)) (later_end f (last_end f before) leg is time) before all) (λ e. le_self leg.t1))
      | inr other ↦
          let end : last_end f (before ++ leg ∷ []) ≡ last_end f before = last_end-push f before leg ∙ ap (λ b. cond b (Some leg.t1) (last_end f before)) other in
          rw end (All-push (EndsBy f (last_end f before)) before leg all (other_end f (last_end f before) leg (λ e. absurd (let t = self_feature leg.feature f e in let s : true ≡ false = sym t ∙ other in cc))))
    ]

ends_all : (f : ℕ) (legs before : List LegView) → All IsLeg legs → CanFollowInTurn before legs → All (EndsBy f (last_end f before)) before → All (EndsBy f (last_end f (before ++ legs))) (before ++ legs)
ends_all f [] before is turn all = rw (append-nil before) all
ends_all f (leg ∷ legs) before is turn all =
    let more = ends_all f legs (before ++ leg ∷ []) (All-tail IsLeg leg legs is) turn.1 (ends_more f before leg (All-head IsLeg leg legs is) turn.0 all) in
    subst (λ (ls : List LegView). All (EndsBy f (last_end f ls)) ls) (append_assoc before (leg ∷ []) legs) more

not_live : (leg : LegView) (end : ℤ) (period : PeriodView) → leg.t1 ≤ℤ end → end <ℤ period.start → is_live period leg ≡ false
not_live leg end period before over =
    elim (cases_bool (is_live period leg)) [
      | inl live ↦
          let order : int_max leg.t0 period.start ≤ℤ int_min leg.t1 period.end = le_from (int_max leg.t0 period.start) (int_min leg.t1 period.end) live in
          absurd (omega (arith, ints, clamps))
      | inr over ↦ over
    ]

none_live : (f : ℕ) (end : ℤ) (period : PeriodView) (legs : List LegView) → end <ℤ period.start → All (EndsBy f (Some end)) legs → live_legs_of f period legs ≡ []
none_live f end period [] over all = refl
none_live f end period (leg ∷ legs) over all =
    let rest = none_live f end period legs over (All-tail (EndsBy f (Some end)) leg legs all) in
    elim (cases_bool (eqb leg.feature f)) [
      | inl own ↦
          let out = not_live leg end period (All-head (EndsBy f (Some end)) leg legs all (same_feature leg.feature f own)) over in
          ap (λ b. filter (is_live period) (cond b (leg ∷ legs_of f legs) (legs_of f legs))) own ∙ ap (λ b. cond b (leg ∷ live_legs_of f period legs) (live_legs_of f period legs)) out ∙ rest
      | inr other ↦ ap (λ b. filter (is_live period) (cond b (leg ∷ legs_of f legs) (legs_of f legs))) other ∙ rest
    ]

-- a feature whose last leg ends before a period has no leg that is live in it
pub over_is : (f : ℕ) (end : ℤ) (period : PeriodView) (legs : List LegView) → All IsLeg legs → CanFollowInTurn [] legs → last_end f legs ≡ Some end → end <ℤ period.start → live_legs_of f period legs ≡ []
over_is f end period legs is turn last over =
    let all = ends_all f legs [] is turn (All-nil (EndsBy f None)) in
    none_live f end period legs over (subst (λ (o : Option ℤ). All (EndsBy f o) legs) last all)

some_true : (b : Bool) → (b || true) ≡ true
some_true true = refl
some_true false = refl

-- the last of the legs of a feature, or that end, is the last end
last_reaches : (f : ℕ) (period : PeriodView) (legs : List LegView) (d : Option ℤ) (end : ℤ) → fold (λ end leg. cond (eqb leg.feature f) (Some leg.t1) end) d legs ≡ Some end → int_le period.start end ≡ true
    → (d ≡ Some end) ⊎ (reaches period (legs_of f legs) ≡ true)
last_reaches f period [] d end e up = inl e
last_reaches f period (leg ∷ legs) d end e up =
    let on = last_reaches f period legs (cond (eqb leg.feature f) (Some leg.t1) d) end e up in
    (elim (eqb leg.feature f) as (λ v. (cond v (Some leg.t1) d ≡ Some end) ⊎ (reaches period (legs_of f legs) ≡ true) → (d ≡ Some end) ⊎ (reaches period (cond v (leg ∷ legs_of f legs) (legs_of f legs)) ≡ true)) [
      | true ↦ λ on. inr (⊎_elim
          (λ (h : Some leg.t1 ≡ Some end). let same : leg.t1 ≡ end = cc in ap (λ t. int_le period.start t || reaches period (legs_of f legs)) same ∙ ap (λ b. b || reaches period (legs_of f legs)) up)
          (λ (h : reaches period (legs_of f legs) ≡ true). ap (λ b. int_le period.start leg.t1 || b) h ∙ some_true (int_le period.start leg.t1))
          on)
      | false ↦ λ on. on
    ]) on

-- so a feature whose last leg ends at or after a period's start has such a leg
pub reaches_last : (f : ℕ) (period : PeriodView) (legs : List LegView) (end : ℤ) → last_end f legs ≡ Some end → int_le period.start end ≡ true → reaches period (legs_of f legs) ≡ true
reaches_last f period legs end e up = ⊎_elim (λ (h : None ≡ Some end). absurd cc) (λ (h : reaches period (legs_of f legs) ≡ true). h) (last_reaches f period legs None end e up)
