-- Where legs enter and leave, the first and the last of them that have a moment say it alone.
use Rattle.std.proofs.Common.{ℕ, ℤ, ◌≡◌, ◌∙◌, ap, sym, refl, subst, Bool, true, false, cond, List, [], ◌∷◌, Option, Some, None, ◌↔◌, ◌⊎◌, ⊎_elim}
use Rattle.std.proofs.lemmas.Bool.{false≢true}
use Rattle.std.specs.Prelude.{is_some, reverse}
use Rattle.std.specs.List.{find, list_any}
use Rattle.std.specs.Option.{IsSomeAnd}
use Rattle.timebase.specs.Period.{PeriodView}
use Rattle.legs.specs.Legs.{LegView, is_live, first_moment, last_moment}
use Rattle.legs.specs.Sieves.{first_live, last_live}
use Rattle.predicates.specs.Courses.{both_of, ends_of}
use Rattle.predicates.specs.Predicates.{HoldsIn, HasAMoment, IsFirstIn, IsLastIn}
use Rattle.predicates.specs.declared.Predicate.{Predicate}
use Rattle.predicates.specs.declared.Predicate.TheVariants.{Enters, Leaves}
use Rattle.predicates.proofs.CourseLemmas.{live_is}
use Rattle.predicates.proofs.ListLemmas.{is_some-find, is_some-find-reverse}

some_same : {X : Type 0} (x y : X) → Some x ≡ Some y → x ≡ y
some_same x y e = cc

-- what is found has the property
found_has : {X : Type 0} (p : X → Bool) (xs : List X) (x : X) → find p xs ≡ Some x → p x ≡ true
found_has p [] x e = absurd cc
found_has p (y ∷ ys) x e = by (found_has p ys x) (p y) refl e
  where
    by : (find p ys ≡ Some x → p x ≡ true) → (b : Bool) → p y ≡ b → cond b (Some y) (find p ys) ≡ Some x → p x ≡ true
    by rest true h e = ap p (sym (some_same y x e)) ∙ h
    by rest false h e = rest e

-- some legs of a list that have its first and its last live leg
module _ (period : PeriodView) (all some : List LegView) (first : first_live period some ≡ first_live period all) where
  live_same : list_any (is_live period) some ≡ list_any (is_live period) all
  live_same = sym (is_some-find (is_live period) some) ∙ ap is_some first ∙ is_some-find (is_live period) all

  pub moment_same : HasAMoment some period ↔ HasAMoment all period
  moment_same = (
    λ h. (live_is all period).0 (sym live_same ∙ (live_is some period).1 h),
    λ h. (live_is some period).0 (live_same ∙ (live_is all period).1 h),
  )

  module _ (Inside : LegView → ℤ → ℕ → Type 0) where
    pub first_same : IsFirstIn Inside some period ≡ IsFirstIn Inside all period
    unfolding IsFirstIn
    first_same = ap (λ o. IsSomeAnd o (λ leg. Inside leg (first_moment leg period) 1)) first

pub last_same : (period : PeriodView) (all some : List LegView) (Inside : LegView → ℤ → ℕ → Type 0) → last_live period some ≡ last_live period all
    → IsLastIn Inside some period ≡ IsLastIn Inside all period
unfolding IsLastIn
last_same period all some Inside last = ap (λ o. IsSomeAnd o (λ leg. Inside leg (last_moment leg period) 1)) last

module _ (period : PeriodView) (all some : List LegView) (first : first_live period some ≡ first_live period all)
    (last : last_live period some ≡ last_live period all) (Inside : LegView → ℤ → ℕ → Type 0) where
  pub enters_same : HoldsIn Inside Enters some period ↔ HoldsIn Inside Enters all period
  unfolding HoldsIn
  enters_same =
      let moment = moment_same period all some first in
      let at_first = first_same period all some first Inside in
      let at_last = last_same period all some Inside last in (
        λ h. (moment.0 h.0, subst (λ P. P → ⊥) at_first h.1, subst (λ P. P) at_last h.2),
        λ h. (moment.1 h.0, subst (λ P. P → ⊥) (sym at_first) h.1, subst (λ P. P) (sym at_last) h.2),
      )

  pub leaves_same : HoldsIn Inside Leaves some period ↔ HoldsIn Inside Leaves all period
  unfolding HoldsIn
  leaves_same =
      let moment = moment_same period all some first in
      let at_first = first_same period all some first Inside in
      let at_last = last_same period all some Inside last in (
        λ h. (moment.0 h.0, subst (λ P. P) at_first h.1, subst (λ P. P → ⊥) at_last h.2),
        λ h. (moment.1 h.0, subst (λ P. P) (sym at_first) h.1, subst (λ P. P → ⊥) (sym at_last) h.2),
      )

  pub ends_same : (predicate : Predicate) → (predicate ≡ Enters) ⊎ (predicate ≡ Leaves) → HoldsIn Inside predicate some period ↔ HoldsIn Inside predicate all period
  ends_same predicate which =
      ⊎_elim
      (λ (e : predicate ≡ Enters). subst (λ p. HoldsIn Inside p some period ↔ HoldsIn Inside p all period) (sym e) enters_same)
      (λ (e : predicate ≡ Leaves). subst (λ p. HoldsIn Inside p some period ↔ HoldsIn Inside p all period) (sym e) leaves_same)
      which

module _ (period : PeriodView) (legs : List LegView) where
  abbrev p : LegView → Bool
  p = is_live period

  -- of the two ends the same are found
  ends_found : (f l : Option LegView) → first_live period legs ≡ f → last_live period legs ≡ l → (first_live period (both_of f l) ≡ f) × (last_live period (both_of f l) ≡ l)
  ends_found (Some f) (Some l) e h = (
    ap (λ b. cond b (Some f) (find p (l ∷ []))) (found_has p legs f e),
    ap (λ b. cond b (Some l) (find p (f ∷ []))) (found_has p (reverse legs) l h),
  )
  ends_found (Some f) None e h =
      absurd (false≢true (ap is_some (sym h) ∙ is_some-find-reverse p legs ∙ sym (is_some-find p legs) ∙ ap is_some e))
  ends_found None None e h = (refl, refl)
  ends_found None (Some l) e h =
      absurd (false≢true (ap is_some (sym e) ∙ is_some-find p legs ∙ sym (is_some-find-reverse p legs) ∙ ap is_some h))

  pub by_ends : (Inside : LegView → ℤ → ℕ → Type 0) (predicate : Predicate) → (predicate ≡ Enters) ⊎ (predicate ≡ Leaves) → HoldsIn Inside predicate (ends_of period legs) period ↔ HoldsIn Inside predicate legs period
  by_ends Inside predicate which =
      let found = ends_found (first_live period legs) (last_live period legs) refl refl in
      ends_same period legs (ends_of period legs) found.0 found.1 Inside predicate which
