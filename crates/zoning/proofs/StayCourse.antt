-- The course of a leg by its stays in a zone.
use Rattle.std.proofs.Common.{ℕ, ℤ, ◌≡◌, ◌↔◌, IsTrue, ◌⊎◌, inl, inr, All, Bool, true, false, ◌||◌, List, [], ◌∷◌, refl, sym, subst}
use Rattle.std.specs.List.{list_any}
use Rattle.std.proofs.lemmas.Bool.{false≢true}
use Rattle.timebase.specs.Period.{PeriodView}
use Rattle.legs.specs.Legs.{LegView, IsMomentOf, first_moment, is_live, last_moment}
use Rattle.clipping.specs.Inside.{HasMomentIn}
use Rattle.predicates.specs.Courses.{IsCourse}
use Rattle.predicates.specs.Predicates.{IsThroughoutIn}
use Rattle.predicates.proofs.CourseLemmas.{and_parts, and_true, leg_course}
use Rattle.predicates.proofs.LegLemmas.{first_is, last_is}
use Rattle.predicates.proofs.ListLemmas.{All-head, All-tail}
use Rattle.zones.specs.Places.{Corner}
use Rattle.zoning.specs.Courses.{has_some, holds_first, holds_last, is_whole}
use Rattle.zoning.specs.Lengths.{IsNotAfter}
use Rattle.zoning.specs.Stays.{AreApart, AreStays, IsDuring, IsInAStay, IsInZone, IsOf, IsInPeriod}
use Rattle.zoning.specs.declared.stay.Stay.{Stay}
use Rattle.zoning.proofs.GapLemmas.{in_none, is_moment}
use Rattle.zoning.proofs.MomentsHeld.{all_during, during_first, during_last, enters_during, enters_moment, first_during, last_during}

abbrev pub IsForward : Stay → Type 0
IsForward stay = IsNotAfter stay.enters stay.leaves

-- what is so of some stay of a list
some_from : (p : Stay → Bool) (n : ℤ) (d : ℕ) (stays : List Stay) (P : Stay → Type 0) → All P stays → ((stay : Stay) → P stay → p stay ≡ true → IsDuring stay n d)
    → list_any p stays ≡ true → IsInAStay stays n d
some_from p n d [] P all to h = absurd (false≢true h)
some_from p n d (stay ∷ stays) P all to h = by (p stay) refl (some_from p n d stays P (All-tail P stay stays all) to) h
  where
    by : (b : Bool) → p stay ≡ b → (list_any p stays ≡ true → IsInAStay stays n d) → (b || list_any p stays) ≡ true → IsDuring stay n d ⊎ IsInAStay stays n d
    by true e rest h = inl (to stay (All-head P stay stays all) e)
    by false e rest h = inr (rest h)

some_to : (p : Stay → Bool) (n : ℤ) (d : ℕ) (stays : List Stay) (P : Stay → Type 0) → All P stays → ((stay : Stay) → P stay → IsDuring stay n d → p stay ≡ true)
    → IsInAStay stays n d → list_any p stays ≡ true
some_to p n d [] P all to h = absurd h
some_to p n d (stay ∷ stays) P all to (inl h) = by (p stay) (to stay (All-head P stay stays all) h)
  where
    by : (b : Bool) → b ≡ true → (b || list_any p stays) ≡ true
    by true e = refl
    by false e = absurd (false≢true e)
some_to p n d (stay ∷ stays) P all to (inr h) = by (p stay) (some_to p n d stays P (All-tail P stay stays all) to h)
  where
    by : (b : Bool) → list_any p stays ≡ true → (b || list_any p stays) ≡ true
    by true e = refl
    by false e = e

-- a stay is at moments of the leg in the period, forward, and says what it begins and ends by
pub record IsGood (leg : LegView) (period : PeriodView) (stay : Stay) : Type 0 where
  pub within : IsInPeriod leg period stay
  pub ordered : IsForward stay
  pub of : IsOf leg period stay

module _ (rings : List (List Corner)) (leg : LegView) (period : PeriodView) (live : is_live period leg ≡ true) where
  abbrev Good : Stay → Type 0
  Good stay = IsGood leg period stay

  all_good : (stays : List Stay) → AreStays rings leg period stays → All Good stays
  all_good stays are = λ k d less. record { within = are.within k d less; ordered = are.ordered k d less; of = are.each k d less }

  -- where the leg is in the zone all along, its first stay holds the first moment and the last
  whole_of : (stays : List Stay) → All Good stays → AreApart stays → ((n : ℤ) (d : ℕ) → IsMomentOf leg period n d → IsInAStay stays n d) → list_any is_whole stays ≡ true
  whole_of [] good apart all = absurd (all (first_moment leg period) 1 (first_is leg period live))
  whole_of (stay ∷ []) good apart all =
      let one = All-head Good stay [] good in
      let at_first = only (all (first_moment leg period) 1 (first_is leg period live)) in
      let at_last = only (all (last_moment leg period) 1 (last_is leg period live)) in
      by (is_whole stay)
      (and_true (holds_first stay) (holds_last stay) (during_first leg period stay one.within one.ordered one.of at_first) (during_last leg period stay one.within one.ordered one.of at_last))
    where
      only : {n : ℤ} {d : ℕ} → IsInAStay (stay ∷ []) n d → IsDuring stay n d
      only (inl h) = h
      only (inr h) = absurd h

      by : (b : Bool) → b ≡ true → (b || false) ≡ true
      by true e = refl
      by false e = absurd (false≢true e)
  whole_of (stay ∷ next ∷ rest) good apart all =
      let one = All-head Good stay (next ∷ rest) good in
      let two = All-head Good next rest (All-tail Good stay (next ∷ rest) good) in
      absurd (in_none leg period stay next rest apart two.ordered (all _ _ (is_moment leg period stay next rest one.within one.ordered two.within two.ordered)))

  module _ (stays : List Stay) (are : AreStays rings leg period stays) where
    good : All Good stays
    good = all_good stays are

    at_first : IsTrue (list_any holds_first stays) ↔ IsInZone rings leg (first_moment leg period) 1
    at_first =
        let is = are.exact (first_moment leg period) 1 (first_is leg period live) in (
          λ t. is.1 (some_from holds_first (first_moment leg period) 1 stays Good good (λ stay g own. first_during leg period stay g.within g.ordered g.of own) t),
          λ h. some_to holds_first (first_moment leg period) 1 stays Good good (λ stay g during. during_first leg period stay g.within g.ordered g.of during) (is.0 h),
        )

    at_last : IsTrue (list_any holds_last stays) ↔ IsInZone rings leg (last_moment leg period) 1
    at_last =
        let is = are.exact (last_moment leg period) 1 (last_is leg period live) in (
          λ t. is.1 (some_from holds_last (last_moment leg period) 1 stays Good good (λ stay g own. last_during leg period stay g.within g.ordered g.of own) t),
          λ h. some_to holds_last (last_moment leg period) 1 stays Good good (λ stay g during. during_last leg period stay g.within g.ordered g.of during) (is.0 h),
        )

    throughout : IsTrue (list_any is_whole stays) ↔ IsThroughoutIn (IsInZone rings) leg period
    throughout = (
      λ t n d moment. (are.exact n d moment).1
          (some_from is_whole n d stays Good good
          (λ stay g own.
          let both = and_parts (holds_first stay) (holds_last stay) own in
          all_during leg period stay g.within g.ordered (first_during leg period stay g.within g.ordered g.of both.0) (last_during leg period stay g.within g.ordered g.of both.1) n d moment) t),
      λ through. whole_of stays good are.apart (λ n d moment. (are.exact n d moment).0 (through n d moment)),
    )

    ever : IsTrue (has_some stays) ↔ HasMomentIn (IsInZone rings) leg period
    ever = by stays are good
      where
        by : (stays : List Stay) → AreStays rings leg period stays → All Good stays → IsTrue (has_some stays) ↔ HasMomentIn (IsInZone rings) leg period
        by [] are _ = (λ t. absurd (false≢true t), λ some. absurd ((are.exact some.0 some.1 some.2.moment).0 some.2.inside))
        by (stay ∷ stays) are each =
            let one = All-head Good stay stays each in
            let moment = enters_moment leg period stay one.within one.ordered in
            (λ t. (_, _, record { moment = moment; inside = (are.exact _ _ moment).1 (inl (enters_during leg period stay one.within one.ordered)) }), λ some. refl)

    pub stays_course : (f l a e : Bool) → f ≡ list_any holds_first stays → l ≡ list_any holds_last stays → a ≡ list_any is_whole stays → e ≡ has_some stays
        → IsCourse (IsInZone rings) (record { live = true; first = f; last = l; always = a; ever = e }) (leg ∷ []) period
    stays_course f l a e fe le ae ee =
        leg_course leg (IsInZone rings) period f l e a live
        (subst (λ (b : Bool). IsTrue b ↔ IsInZone rings leg (first_moment leg period) 1) (sym fe) at_first)
        (subst (λ (b : Bool). IsTrue b ↔ IsInZone rings leg (last_moment leg period) 1) (sym le) at_last)
        (subst (λ (b : Bool). IsTrue b ↔ HasMomentIn (IsInZone rings) leg period) (sym ee) ever)
        (subst (λ (b : Bool). IsTrue b ↔ IsThroughoutIn (IsInZone rings) leg period) (sym ae) throughout)
