-- What a sieve leaves out says nothing of a predicate.
use Rattle.std.proofs.Common.{ℕ, ℤ, ◌≡◌, ◌≢◌, ◌∙◌, ap, sym, refl, subst, List, [], ◌∷◌, ◌↔◌, inl, inr}
use Rattle.std.proofs.lemmas.Bool.{false≢true}
use Rattle.std.specs.List.{Any}
use Rattle.timebase.specs.Period.{PeriodView}
use Rattle.legs.specs.Legs.{LegView}
use Rattle.legs.specs.Boxes.{RectView}
use Rattle.legs.specs.Sieves.{IsOff, IsSieved, LeavesOut, first_live, last_live}
use Rattle.legs.specs.declared.sieve.Sieve.TheVariants as sieve
use Rattle.clipping.specs.Inside.{HasMomentIn, HasMomentInside}
use Rattle.predicates.specs.Predicates.{HoldsIn, IsEverIn}
use Rattle.predicates.specs.declared.Predicate.{Predicate}
use Rattle.predicates.specs.declared.Predicate.TheVariants.{Ever, Always, Enters, Leaves, Crosses, Bypasses}
use Rattle.predicates.proofs.LegLemmas.{box_meets}
use Rattle.predicates.proofs.ListLemmas.{Any-nil, Any-here, Any-after, Any-cons}
use Rattle.predicates.proofs.EndLemmas.{moment_same, first_same, last_same}

module _ (May : LegView → Type 0) where
  pub all_kept : ((leg : LegView) → May leg → ⊥) → (all some : List LegView) → LeavesOut May all some → some ≡ all
  all_kept none [] some h = h
  all_kept none (leg ∷ all) some (inl h) = h.1 ∙ ap (λ l. leg ∷ l) (all_kept none all h.0 h.2)
  all_kept none (leg ∷ all) some (inr h) = absurd (none leg h.0)

  module _ (P : LegView → Type 0) where
    pub any_more : (all some : List LegView) → LeavesOut May all some → Any P some → Any P all
    any_more [] some h any = subst (λ l. Any P l) h any
    any_more (leg ∷ all) some (inl h) any = elim (Any-cons P leg h.0 (subst (λ l. Any P l) h.1 any)) [
      | inl p ↦ Any-here P leg all p
      | inr more ↦ Any-after P leg all (any_more all h.0 h.2 more)
    ]
    any_more (leg ∷ all) some (inr h) any = Any-after P leg all (any_more all some h.1 any)

    pub any_kept : ((leg : LegView) → May leg → P leg → ⊥) → (all some : List LegView) → LeavesOut May all some → Any P all → Any P some
    any_kept never [] some h any = absurd (Any-nil P any)
    any_kept never (leg ∷ all) some (inl h) any =
        subst (λ l. Any P l) (sym h.1)
        (elim (Any-cons P leg all any) [
          | inl p ↦ Any-here P leg h.0 p
          | inr more ↦ Any-after P leg h.0 (any_kept never all h.0 h.2 more)
        ])
    any_kept never (leg ∷ all) some (inr h) any = elim (Any-cons P leg all any) [
      | inl p ↦ absurd (never leg h.0 p)
      | inr more ↦ any_kept never all some h.1 more
    ]

-- a leg that is off is inside at no moment
pub off_never : (rect : RectView) (period : PeriodView) (leg : LegView) → IsOff rect period leg → HasMomentInside leg rect period → ⊥
off_never rect period leg off inside = false≢true (sym off.apart ∙ box_meets leg rect period off.rises inside)

-- legs that may be left out are inside at no moment
module _ (Inside : LegView → ℤ → ℕ → Type 0) (period : PeriodView) (May : LegView → Type 0) (never : (leg : LegView) → May leg → HasMomentIn Inside leg period → ⊥)
    (all some : List LegView) (of : LeavesOut May all some) where
  pub ever_same : IsEverIn Inside some period ↔ IsEverIn Inside all period
  unfolding IsEverIn
  ever_same = (
    any_more May (λ leg. HasMomentIn Inside leg period) all some of,
    any_kept May (λ leg. HasMomentIn Inside leg period) never all some of,
  )

  pub near_same : first_live period some ≡ first_live period all → last_live period some ≡ last_live period all
      → (predicate : Predicate) → predicate ≢ Always → predicate ≢ Enters → predicate ≢ Leaves
      → HoldsIn Inside predicate some period ↔ HoldsIn Inside predicate all period
  unfolding HoldsIn
  near_same first last Ever a e l = ever_same
  near_same first last Always a e l = absurd (a refl)
  near_same first last Enters a e l = absurd (e refl)
  near_same first last Leaves a e l = absurd (l refl)
  near_same first last Crosses a e l =
      let moment = moment_same period all some first in
      let at_first = first_same period all some first Inside in
      let at_last = last_same period all some Inside last in
      let ever = ever_same in (
        λ h. (moment.0 h.0, subst (λ P. P → ⊥) at_first h.1, subst (λ P. P → ⊥) at_last h.2, ever.0 h.3),
        λ h. (moment.1 h.0, subst (λ P. P → ⊥) (sym at_first) h.1, subst (λ P. P → ⊥) (sym at_last) h.2, ever.1 h.3),
      )
  near_same first last Bypasses a e l =
      let moment = moment_same period all some first in
      let ever = ever_same in (
        λ h. (moment.0 h.0, λ i. h.1 (ever.1 i)),
        λ h. (moment.1 h.0, λ i. h.1 (ever.0 i)),
      )

pub all_same : (Inside : LegView → ℤ → ℕ → Type 0) (period : PeriodView) (all some : List LegView) (predicate : Predicate) → IsSieved sieve.All period all some
    → HoldsIn Inside predicate some period ↔ HoldsIn Inside predicate all period
all_same Inside period all some predicate s =
    let same = all_kept (λ _. ⊥) (λ _ none. none) all some s.of in
    (λ h. subst (λ l. HoldsIn Inside predicate l period) same h, λ h. subst (λ l. HoldsIn Inside predicate l period) (sym same) h)
