-- Tallies and courses of features, with a leg more.
use Rattle.std.proofs.Common.{ℕ, ◌<◌, ◌≤◌, ◌+◌, suc, ◌≡◌, ◌∙◌, ap, sym, refl, subst, Bool, true, false, cond, Option, Some, None, List, [], ◌∷◌, ◌++◌, length, get_or, take, ℤ, arith}
use Rattle.std.specs.Prelude.{◌==◌, IfSome, filter, find, reverse}
use Rattle.std.specs.Option.{option_map, option_or}
use Rattle.std.specs.BTreeMap.{is_at}
use Rattle.std.specs.Ordering.{nat_cmp}
use Rattle.std.proofs.lemmas.Bool.{eqb-true}
use Rattle.std.proofs.lemmas.List.{append-nil, length-take-le, length_push, take_more}
use Rattle.std.proofs.lemmas.List.Elements.{filter-append}
use Rattle.std.proofs.lemmas.List.Folds.{find-append}
use Rattle.timebase.specs.Period.{PeriodView}
use Rattle.legs.specs.Legs.{LegView, is_live}
use Rattle.visiting.proofs.PlaceLemmas.{same_key}
use Rattle.predicates.specs.Courses.{IsCourse}
use Rattle.predicates.specs.declared.courses.Course.{Course}
use Rattle.predicates.proofs.CourseLemmas.{then_course}
use Rattle.predicates.proofs.ListLemmas.{find-reverse-append}
use Rattle.legs.specs.Index.{legs_of}
use Rattle.zoning.specs.Holding.{IsCounted, IsNear, IsNearOf, IsTallied, IsTallyOf, near_with, tally_with}
use Rattle.zoning.specs.declared.holding.Near.{Near}
use Rattle.zoning.specs.declared.holding.Tally.{Tally}

-- what is so of each feature is so with a leg more
module _ {V : Type 0} (R : Option V → List LegView → Type 0) where
  pub maps_more : (before after : ℕ → Option V) (legs : List LegView) (leg : LegView) (v : V) → ((f : ℕ) → R (before f) (legs_of f legs))
      → ((f : ℕ) → after f ≡ cond (is_at (nat_cmp leg.feature) f) (Some v) (before f))
      → R (Some v) (legs_of leg.feature legs ++ leg ∷ []) → (f : ℕ) → R (after f) (legs_of f (legs ++ leg ∷ []))
  maps_more before after legs leg v so_far put new f = by (leg.feature == f) refl
    where
      parts : legs_of f (legs ++ leg ∷ []) ≡ legs_of f legs ++ cond (leg.feature == f) (leg ∷ []) []
      parts = filter-append (λ (leg : LegView). leg.feature == f) legs (leg ∷ [])

      by : (b : Bool) → (leg.feature == f) ≡ b → R (after f) (legs_of f (legs ++ leg ∷ []))
      by true e =
          let same : leg.feature ≡ f = eqb-true leg.feature f e in
          let a : after f ≡ Some v = put f ∙ ap (λ (t : Bool). cond t (Some v) (before f)) (same_key leg.feature f ∙ e) in
          let l : legs_of f (legs ++ leg ∷ []) ≡ legs_of f legs ++ leg ∷ [] = parts ∙ ap (λ (t : Bool). legs_of f legs ++ cond t (leg ∷ []) []) e in
          subst (λ (o : Option V). R o (legs_of f (legs ++ leg ∷ []))) (sym a)
          (subst (λ (l : List LegView). R (Some v) l) (sym l) (subst (λ (g : ℕ). R (Some v) (legs_of g legs ++ leg ∷ [])) same new))
      by false e =
          let a : after f ≡ before f = put f ∙ ap (λ (t : Bool). cond t (Some v) (before f)) (same_key leg.feature f ∙ e) in
          let l : legs_of f (legs ++ leg ∷ []) ≡ legs_of f legs = parts ∙ ap (λ (t : Bool). legs_of f legs ++ cond t (leg ∷ []) []) e ∙ append-nil (legs_of f legs) in
          subst (λ (o : Option V). R o (legs_of f (legs ++ leg ∷ []))) (sym a) (subst (λ (l : List LegView). R (before f) l) (sym l) (so_far f))

-- the counts
pub counted_with : (o : Option Tally) (legs : List LegView) (leg : LegView) → IsCounted o legs → IsCounted (Some (tally_with o leg)) (legs ++ leg ∷ [])
counted_with None legs leg e = subst (λ (l : List LegView). 1 ≡ length (l ++ leg ∷ [])) (sym e) refl
counted_with (Some tally) legs leg e = ap (λ n. n + 1) e ∙ sym (length_push legs leg)

abbrev pub IsNearCounted : Option Near → List LegView → Type 0
IsNearCounted o legs = IsCounted (option_map (λ (near : Near). near.tally) o) legs

pub near_counted_with : (o : Option Near) (legs : List LegView) (leg : LegView) (course : Course) → IsNearCounted o legs → IsNearCounted (Some (near_with o leg course)) (legs ++ leg ∷ [])
near_counted_with None legs leg course e = counted_with None legs leg e
near_counted_with (Some near) legs leg course e = counted_with (Some near.tally) legs leg e

filter_short : (p : LegView → Bool) (legs : List LegView) → length (filter p legs) ≤ length legs
filter_short p [] = omega arith
filter_short p (leg ∷ legs) = by (p leg) (filter_short p legs)
  where
    by : (b : Bool) → length (filter p legs) ≤ length legs → length (cond b (leg ∷ filter p legs) (filter p legs)) ≤ suc (length legs)
    by true h = omega (arith, h)
    by false h = omega (arith, h)

-- a count is no more than the legs so far
few : (f i n : ℕ) (legs : List LegView) (count : ℕ) → i < length legs → n ≡ length legs → count ≡ length (legs_of f (take i legs)) → count < n
few f i n legs count within is e =
    let short = filter_short (λ (leg : LegView). leg.feature == f) (take i legs) in
    let some = length-take-le i legs (omega (arith, within)) in
    omega (arith, within, is, e, short, some)

pub few_legs : (o p : Option Tally) (f i n : ℕ) (legs : List LegView) → i < length legs → n ≡ length legs → IsCounted o (legs_of f (take i legs)) → p ≡ o → IfSome p (λ tally. tally.legs < n)
few_legs o p f i n legs within is counted same = subst (λ (q : Option Tally). IfSome q (λ tally. tally.legs < n)) (sym same) (by o counted)
  where
    by : (o : Option Tally) → IsCounted o (legs_of f (take i legs)) → IfSome o (λ tally. tally.legs < n)
    by None e = tt
    by (Some tally) e = few f i n legs tally.legs within is e

pub few_near : (o p : Option Near) (f i n : ℕ) (legs : List LegView) → i < length legs → n ≡ length legs → IsNearCounted o (legs_of f (take i legs)) → p ≡ o → IfSome p (λ near. near.tally.legs < n)
few_near o p f i n legs within is counted same = subst (λ (q : Option Near). IfSome q (λ near. near.tally.legs < n)) (sym same) (by o counted)
  where
    by : (o : Option Near) → IsNearCounted o (legs_of f (take i legs)) → IfSome o (λ near. near.tally.legs < n)
    by None e = tt
    by (Some near) e = few f i n legs near.tally.legs within is e

-- one leg more of a list
pub at_one_more : (R : ℕ → List LegView → Type 0) (legs : List LegView) (i : ℕ) (leg : LegView) → i < length legs → leg ≡ get_or legs i leg → ((f : ℕ) → R f (legs_of f (take i legs ++ leg ∷ [])))
    → (f : ℕ) → R f (legs_of f (take (i + 1) legs))
at_one_more R legs i leg within is h = λ f.
    subst (λ (l : List LegView). R f (legs_of f l)) (sym (take_more legs i leg within ∙ ap (λ (one : LegView). take i legs ++ one ∷ []) (sym is))) (h f)

module _ (period : PeriodView) where
  abbrev p : LegView → Bool
  p = is_live period

  pub tallied_with : (o : Option Tally) (legs : List LegView) (leg : LegView) → is_live period leg ≡ true → IsTallied period o legs → IsTallyOf period (tally_with o leg) (legs ++ leg ∷ [])
  tallied_with None legs leg live e =
      subst (λ (l : List LegView). IsTallyOf period (tally_with None leg) (l ++ leg ∷ [])) (sym e)
      (record {
        count = refl;
        first = ap (λ (b : Bool). cond b (Some leg) None) live;
        last = ap (λ (b : Bool). cond b (Some leg) None) live;
      })
  tallied_with (Some tally) legs leg live h = record {
    count = ap (λ n. n + 1) h.count ∙ sym (length_push legs leg);
    first = find-append p legs (leg ∷ []) ∙ ap (λ (o : Option LegView). option_or o (find p (leg ∷ []))) h.first;
    last = find-reverse-append p legs (leg ∷ []) ∙ ap (λ (b : Bool). option_or (cond b (Some leg) None) (find p (reverse legs))) live;
  }

  module _ (Inside : LegView → ℤ → ℕ → Type 0) where
    pub near_is_with : (o : Option Near) (legs : List LegView) (leg : LegView) (course : Course) → is_live period leg ≡ true → IsCourse Inside course (leg ∷ []) period
        → IsNear Inside period o legs → IsNearOf Inside period (near_with o leg course) (legs ++ leg ∷ [])
    near_is_with None legs leg course live is e =
        subst (λ (l : List LegView). IsNearOf Inside period (near_with None leg course) (l ++ leg ∷ [])) (sym e)
        (record { tally = tallied_with None [] leg live refl; course = is })
    near_is_with (Some near) legs leg course live is h = record {
      tally = tallied_with (Some near.tally) legs leg live h.tally;
      course = then_course near.course course legs (leg ∷ []) Inside period h.course is;
    }
