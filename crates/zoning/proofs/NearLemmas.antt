-- What legs near a zone say of all legs of a feature, where the others are outside.
use Rattle.std.proofs.Common.{ℕ, suc, ◌≤◌, ◌≡◌, ◌∙◌, ap, sym, refl, subst, Bool, true, false, cond, ◌||◌, ◌&&◌, ◌⊎◌, inl, inr, ◌↔◌, IsTrue, Option, Some, None, List, [], ◌∷◌, length, ℤ, arith}
use Rattle.std.proofs.lemmas.Bool.{false≢true, eqb-true, eqb-false}
use Rattle.std.proofs.lemmas.Option.{none-some}
use Rattle.std.specs.Prelude.{◌==◌, Any, find, is_some, reverse}
use Rattle.std.specs.List.{list_any}
use Rattle.std.specs.Option.{IsSomeAnd, option_or}
use Rattle.timebase.specs.Period.{PeriodView}
use Rattle.legs.specs.Legs.{LegView, first_moment, is_live, last_moment}
use Rattle.legs.specs.Sieves.{LeavesOut, first_live, last_live}
use Rattle.predicates.specs.Courses.{IsCourse, outside_course}
use Rattle.predicates.specs.Predicates.{HasAMoment, IsAllIn, IsFirstIn, IsLastIn, IsThroughoutIn}
use Rattle.predicates.proofs.CourseLemmas.{live_is, outside_leg, then_course}
use Rattle.predicates.proofs.EndLemmas.{first_same, last_same}
use Rattle.predicates.proofs.LegLemmas.{first_is, last_is, live_of_moment}
use Rattle.predicates.proofs.ListLemmas.{Any-after, Any-here, find-reverse-append, is_some-find, is_some-find-reverse, none_of}
use Rattle.predicates.proofs.SieveLemmas.{ever_same}
use Rattle.zoning.specs.Holding.{IsNear, IsNearOf, IsOutside, IsTallyOf, completed, course_with, same_leg}
use Rattle.zoning.proofs.SameLegs.{same_from, same_one}
use Rattle.zoning.specs.declared.holding.Near.{Near}
use Rattle.zoning.specs.declared.holding.Tally.{Tally}

some_same : {X : Type 0} (x y : X) → Some x ≡ Some y → x ≡ y
some_same x y e = cc

or_is : {X : Type 0} (o q : Option X) (x : X) → o ≡ Some x → option_or o q ≡ Some x
or_is o q x e = ap (λ (r : Option _). option_or r q) e

-- one test and another, of which the other is known
with_true : {A : Type 0} (x y : Bool) → y ≡ true → IsTrue x ↔ A → IsTrue (x && y) ↔ A
with_true true y e f = (λ t. f.0 refl, λ a. e)
with_true false y e f = (λ t. absurd (false≢true t), λ a. f.1 a)

with_false : {A : Type 0} (x y : Bool) → y ≡ false → (A → ⊥) → IsTrue (x && y) ↔ A
with_false true y e none = (λ t. absurd (false≢true (sym e ∙ t)), λ a. absurd (none a))
with_false false y e none = (λ t. absurd (false≢true t), λ a. absurd (none a))

module _ (May : LegView → Type 0) where
  shorter : (all near : List LegView) → LeavesOut May all near → length near ≤ length all
  shorter [] near h = let e = ap (λ (l : List LegView). length l) h in omega (arith, e)
  shorter (leg ∷ all) near (inl h) = let e = ap (λ (l : List LegView). length l) h.1 in let s = shorter all h.0 h.2 in omega (arith, e, s)
  shorter (leg ∷ all) near (inr h) = let s = shorter all near h.1 in omega (arith, s)

  -- as many are all
  same_length : (all near : List LegView) → LeavesOut May all near → length near ≡ length all → near ≡ all
  same_length [] near h e = h
  same_length (leg ∷ all) near (inl h) e =
      let l = ap (λ (l : List LegView). length l) h.1 in
      h.1 ∙ ap (λ (l : List LegView). leg ∷ l) (same_length all h.0 h.2 (omega (arith, l, e)))
  same_length (leg ∷ all) near (inr h) e = let s = shorter all near h.1 in absurd (omega (arith, s, e))

  -- fewer leave one out
  left_out : (all near : List LegView) → LeavesOut May all near → (length near ≡ length all → ⊥) → Any May all
  left_out [] near h fewer = absurd (fewer (ap (λ (l : List LegView). length l) h))
  left_out (leg ∷ all) near (inl h) fewer =
      Any-after May leg all (left_out all h.0 h.2 (λ e. fewer (ap (λ (l : List LegView). length l) h.1 ∙ ap suc e)))
  left_out (leg ∷ all) near (inr h) fewer = Any-here May leg all h.0

  module _ (p : LegView → Bool) where
    none_kept : (all near : List LegView) → LeavesOut May all near → list_any p all ≡ false → list_any p near ≡ false
    none_kept [] near h e = ap (list_any p) h
    none_kept (leg ∷ all) near (inl h) e = ap (list_any p) h.1 ∙ by (p leg) e (none_kept all h.0 h.2)
      where
        by : (b : Bool) → (b || list_any p all) ≡ false → (list_any p all ≡ false → list_any p h.0 ≡ false) → (b || list_any p h.0) ≡ false
        by true e next = e
        by false e next = next e
    none_kept (leg ∷ all) near (inr h) e = by (p leg) e (none_kept all near h.1)
      where
        by : (b : Bool) → (b || list_any p all) ≡ false → (list_any p all ≡ false → list_any p near ≡ false) → list_any p near ≡ false
        by true e next = absurd (false≢true (sym e))
        by false e next = next e

    -- the first one is kept, or is one of those that may be left out
    first_kept : (all near : List LegView) (one : LegView) → LeavesOut May all near → find p all ≡ Some one → (find p near ≡ Some one) ⊎ May one
    first_kept [] near one h e = absurd (none-some _ e)
    first_kept (leg ∷ all) near one h e = by (p leg) refl (first_kept all) h e
      where
        by : (b : Bool) → p leg ≡ b → ((near : List LegView) (one : LegView) → LeavesOut May all near → find p all ≡ Some one → (find p near ≡ Some one) ⊎ May one)
            → LeavesOut May (leg ∷ all) near → cond b (Some leg) (find p all) ≡ Some one → (find p near ≡ Some one) ⊎ May one
        by true is next (inl h) e = inl (ap (find p) h.1 ∙ ap (λ (b : Bool). cond b (Some leg) (find p h.0)) is ∙ e)
        by true is next (inr h) e = inr (subst May (some_same leg one e) h.0)
        by false is next (inl h) e = elim (next h.0 one h.2 e) [
          | inl kept ↦ inl (ap (find p) h.1 ∙ ap (λ (b : Bool). cond b (Some leg) (find p h.0)) is ∙ kept)
          | inr may ↦ inr may
        ]
        by false is next (inr h) e = next near one h.1 e

    -- and so is the last
    last_kept : (all near : List LegView) (one : LegView) → LeavesOut May all near → find p (reverse all) ≡ Some one → (find p (reverse near) ≡ Some one) ⊎ May one
    last_kept [] near one h e = absurd (none-some _ e)
    last_kept (leg ∷ all) near one h e = by (find p (reverse all)) refl (last_kept all) h (sym (find-reverse-append p (leg ∷ []) all) ∙ e)
      where
        more : (rest : List LegView) → find p (reverse (leg ∷ rest)) ≡ option_or (find p (reverse rest)) (cond (p leg) (Some leg) None)
        more rest = find-reverse-append p (leg ∷ []) rest

        alone : (b : Bool) → cond b (Some leg) None ≡ Some one → leg ≡ one
        alone true e = some_same leg one e
        alone false e = absurd (none-some _ e)

        by : (o : Option LegView) → find p (reverse all) ≡ o
            → ((near : List LegView) (one : LegView) → LeavesOut May all near → find p (reverse all) ≡ Some one → (find p (reverse near) ≡ Some one) ⊎ May one)
            → LeavesOut May (leg ∷ all) near → option_or o (cond (p leg) (Some leg) None) ≡ Some one → (find p (reverse near) ≡ Some one) ⊎ May one
        by (Some other) is next (inl h) e = elim (next h.0 one h.2 (is ∙ e)) [
          | inl kept ↦ inl (ap (λ (l : List LegView). find p (reverse l)) h.1 ∙ more h.0 ∙ or_is (find p (reverse h.0)) _ one kept)
          | inr may ↦ inr may
        ]
        by (Some other) is next (inr h) e = next near one h.1 (is ∙ e)
        by None is next (inl h) e =
            let no_more : list_any p all ≡ false = sym (is_some-find-reverse p all) ∙ ap is_some is in
            let none : find p (reverse h.0) ≡ None = none_of (find p (reverse h.0)) (is_some-find-reverse p h.0 ∙ none_kept all h.0 h.2 no_more) in
            inl (ap (λ (l : List LegView). find p (reverse l)) h.1 ∙ more h.0 ∙ ap (λ (o : Option LegView). option_or o (cond (p leg) (Some leg) None)) none ∙ e)
        by None is next (inr h) e = inr (subst May (alone (p leg) e) h.0)

module _ (Inside : LegView → ℤ → ℕ → Type 0) (period : PeriodView) where
  abbrev May : LegView → Type 0
  May leg = IsOutside Inside period leg

  -- a leg outside is inside neither at its first moment, nor at its last, nor throughout
  not_first : (leg : LegView) → May leg → Inside leg (first_moment leg period) 1 → ⊥
  not_first leg may h = may.never (first_moment leg period, 1, record { moment = first_is leg period (live_of_moment leg period may.moment); inside = h })

  not_last : (leg : LegView) → May leg → Inside leg (last_moment leg period) 1 → ⊥
  not_last leg may h = may.never (last_moment leg period, 1, record { moment = last_is leg period (live_of_moment leg period may.moment); inside = h })

  not_all : (all : List LegView) → Any May all → IsAllIn Inside all period → ⊥
  unfolding IsAllIn
  not_all all some h =
      let leg = some.1 in
      let may = some.4 in
      let through = subst (λ (l : LegView). IsThroughoutIn Inside l period) some.3 (h some.0 leg some.2) in
      not_first leg may (through (first_moment leg period) 1 (first_is leg period (live_of_moment leg period may.moment)))

  -- where none are near
  pub all_outside : (leg : LegView) (all : List LegView) → LeavesOut May (leg ∷ all) [] → IsCourse Inside outside_course (leg ∷ all) period
  all_outside leg all (inl h) = absurd (let e = ap (λ (l : List LegView). length l) h.1 in omega (arith, e))
  all_outside leg [] (inr h) = outside_leg leg Inside period h.0.moment h.0.never
  all_outside leg (next ∷ all) (inr h) =
      then_course outside_course outside_course (leg ∷ []) (next ∷ all) Inside period (outside_leg leg Inside period h.0.moment h.0.never) (all_outside next all h.1)

  module _ (all near : List LegView) (out : LeavesOut May all near) (tally : Tally) (told : Near) (is : IsTallyOf period tally all) (is_near : IsNearOf Inside period told near) where
    at_first : IsTrue (told.course.first && same_leg told.tally.first tally.first) ↔ IsFirstIn Inside all period
    unfolding IsFirstIn
    at_first = by (same_leg told.tally.first tally.first) refl
      where
        by : (b : Bool) → same_leg told.tally.first tally.first ≡ b → IsTrue (told.course.first && same_leg told.tally.first tally.first) ↔ IsFirstIn Inside all period
        by true e =
            let found : first_live period near ≡ first_live period all = is_near.tally.first ∙ ap (λ (l : LegView). Some l) (same_from told.tally.first tally.first e) ∙ sym is.first in
            with_true told.course.first (same_leg told.tally.first tally.first) e
            (subst (λ (T : Type 0). IsTrue told.course.first ↔ T) (first_same period all near found Inside) is_near.course.first)
        by false e = with_false told.course.first (same_leg told.tally.first tally.first) e none
          where
            none : IsFirstIn Inside all period → ⊥
            none h = elim (first_kept May (is_live period) all near tally.first out is.first) [
              | inl kept ↦ same_one told.tally.first tally.first e (some_same _ _ (sym is_near.tally.first ∙ kept))
              | inr may ↦ not_first tally.first may (subst (λ (o : Option LegView). IsSomeAnd o (λ leg. Inside leg (first_moment leg period) 1)) is.first h)
            ]

    at_last : IsTrue (told.course.last && same_leg told.tally.last tally.last) ↔ IsLastIn Inside all period
    unfolding IsLastIn
    at_last = by (same_leg told.tally.last tally.last) refl
      where
        by : (b : Bool) → same_leg told.tally.last tally.last ≡ b → IsTrue (told.course.last && same_leg told.tally.last tally.last) ↔ IsLastIn Inside all period
        by true e =
            let found : last_live period near ≡ last_live period all = is_near.tally.last ∙ ap (λ (l : LegView). Some l) (same_from told.tally.last tally.last e) ∙ sym is.last in
            with_true told.course.last (same_leg told.tally.last tally.last) e
            (subst (λ (T : Type 0). IsTrue told.course.last ↔ T) (last_same period all near Inside found) is_near.course.last)
        by false e = with_false told.course.last (same_leg told.tally.last tally.last) e none
          where
            none : IsLastIn Inside all period → ⊥
            none h = elim (last_kept May (is_live period) all near tally.last out is.last) [
              | inl kept ↦ same_one told.tally.last tally.last e (some_same _ _ (sym is_near.tally.last ∙ kept))
              | inr may ↦ not_last tally.last may (subst (λ (o : Option LegView). IsSomeAnd o (λ leg. Inside leg (last_moment leg period) 1)) is.last h)
            ]

    throughout : IsTrue (told.course.always && (told.tally.legs == tally.legs)) ↔ IsAllIn Inside all period
    throughout = by (told.tally.legs == tally.legs) refl
      where
        by : (b : Bool) → (told.tally.legs == tally.legs) ≡ b → IsTrue (told.course.always && (told.tally.legs == tally.legs)) ↔ IsAllIn Inside all period
        by true e =
            let as_many : length near ≡ length all = sym is_near.tally.count ∙ eqb-true told.tally.legs tally.legs e ∙ is.count in
            with_true told.course.always (told.tally.legs == tally.legs) e
            (subst (λ (l : List LegView). IsTrue told.course.always ↔ IsAllIn Inside l period) (same_length May all near out as_many) is_near.course.always)
        by false e =
            with_false told.course.always (told.tally.legs == tally.legs) e
            (λ h. not_all all (left_out May all near out (λ same. eqb-false told.tally.legs tally.legs e (is_near.tally.count ∙ same ∙ sym is.count))) h)

    some_live : HasAMoment all period
    some_live = (live_is all period).0 (sym (is_some-find (is_live period) all) ∙ ap is_some is.first)

    pub completed_course : IsCourse Inside (completed tally told) all period
    completed_course =
        let same = ever_same Inside period May (λ leg may. may.never) all near out in record {
          live = (λ t. some_live, λ some. refl);
          first = at_first;
          last = at_last;
          ever = (λ t. same.0 (is_near.course.ever.0 t), λ h. is_near.course.ever.1 (same.1 h));
          always = throughout;
        }

  -- where some may be near
  pub course_is_with : (all near : List LegView) → LeavesOut May all near → (tally : Tally) (told : Option Near) → IsTallyOf period tally all → IsNear Inside period told near
      → IsCourse Inside (course_with tally told) all period
  course_is_with all near out tally (Some told) is is_near = completed_course all near out tally told is is_near
  course_is_with [] near out tally None is none = absurd (none-some _ is.first)
  course_is_with (leg ∷ all) near out tally None is none = all_outside leg all (subst (λ (l : List LegView). LeavesOut May (leg ∷ all) l) none out)
