-- The places of features, with one more or one changed.
use Rattle.std.proofs.Common.{ℕ, zero, suc, ◌≡◌, ◌≢◌, ◌≤◌, ◌<◌, ◌+◌, ◌==◌, true, false, cond, refl, ap, sym, ◌∙◌, arith, subst, ⊎_elim, eq-eqb, max, List, [], ◌∷◌, ◌++◌, length, Some, slice_get}
use Rattle.std.proofs.lemmas.Bool.{cases_eq, cases_lt}
use Rattle.std.proofs.lemmas.Bool.Decides.{nat_tests}
use Rattle.std.proofs.lemmas.List.{length_push}
use Rattle.tbtree.specs.Stands.{no_place}
use Rattle.tbtree.specs.declared.tree.Place.{Place}
use Rattle.boxsearch.specs.Index.{with_place}
pub use Rattle.legs.proofs.GroupLemmas.{some_none, some_same}
pub use Rattle.tbtree.proofs.Widening.{get-set_same, get-set_other}

module _ {X : Type 0} where
  pub push_last : (xs : List X) (v x : X) (i : ℕ) → i ≡ length xs → slice_get (xs ++ v ∷ []) i ≡ Some x → v ≡ x
  push_last [] v x zero e h = some_same v x h
  push_last [] v x (suc i) e h = absurd (omega (arith, e))
  push_last (y ∷ xs) v x zero e h = absurd (omega (arith, e))
  push_last (y ∷ xs) v x (suc i) e h = push_last xs v x i (omega (arith, e)) h

  pub push_other : (xs : List X) (v : X) (i : ℕ) → i ≢ length xs → slice_get (xs ++ v ∷ []) i ≡ slice_get xs i
  push_other [] v zero e = absurd (e refl)
  push_other [] v (suc i) e = refl
  push_other (x ∷ xs) v zero e = refl
  push_other (x ∷ xs) v (suc i) e = push_other xs v i (λ u. e (ap suc u))

-- what holds of each place, and of none where the feature is the next one, holds of each place with one made
pub made_places : (P : ℕ → Place → Type 0) (places : List Place) (feature : ℕ) → ((f : ℕ) (place : Place) → slice_get places f ≡ Some place → P f place) → P (length places) no_place
    → (f : ℕ) (place : Place) → slice_get (with_place places feature) f ≡ Some place → P f place
made_places P places feature each next f place =
    elim (feature == length places) as (λ v. slice_get (cond v (places ++ no_place ∷ []) places) f ≡ Some place → P f place) [
      | true ↦ λ h. ⊎_elim
          (λ (e : f ≡ length places). subst (λ f. P f place) (sym e) (subst (λ p. P (length places) p) (push_last places no_place place f e h) next))
          (λ (u : f ≢ length places). each f place (sym (push_other places no_place f u) ∙ h))
          (cases_eq f (length places))
      | false ↦ λ h. each f place h
    ]

-- how many there are, once the place of a feature that is there or is the next one is made
pub length-made : (places : List Place) (feature : ℕ) → feature ≤ length places → length (with_place places feature) ≡ max (length places) (feature + 1)
length-made places feature h =
    ⊎_elim
    (λ (e : feature ≡ length places).
    ap (λ v. length (cond v (places ++ no_place ∷ []) places)) (eq-eqb _ _ e) ∙ (let p = length_push places no_place in omega (arith, p, e)))
    (λ (u : feature ≢ length places).
    let n : (feature == length places) ≡ false = grind (arith, nat_tests, u) in
    ap (λ v. length (cond v (places ++ no_place ∷ []) places)) n ∙ omega (arith, h, u))
    (cases_eq feature (length places))

-- a feature that has no place, with one made of the next one, is above the next one
pub past_made : (places : List Place) (feature : ℕ) → (feature < length (with_place places feature) → ⊥) → length places < feature
past_made places feature none =
    ⊎_elim
    (λ (e : feature ≡ length places).
    absurd (none (let many = length-made places feature (omega (arith, e)) in omega (arith, e, many))))
    (λ (u : feature ≢ length places).
    let n : (feature == length places) ≡ false = grind (arith, nat_tests, u) in
    let same : length (with_place places feature) ≡ length places = ap (λ v. length (cond v (places ++ no_place ∷ []) places)) n in
    ⊎_elim
    (λ (b : feature < length places). absurd (none (omega (arith, b, same))))
    (λ (a : length places ≤ feature).
    ⊎_elim (λ (b : length places < feature). b) (λ (b : feature ≤ length places). absurd (u (omega (arith, a, b)))) (cases_lt (length places) feature))
    (cases_lt feature (length places)))
    (cases_eq feature (length places))
