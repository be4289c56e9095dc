-- Legs in the order of their ordinals.
use Rattle.std.proofs.Common.{ℕ, ◌<◌, ◌≤◌, true, false, cond, nat_lt, List, [], ◌∷◌, map, sym, arith, subst, ⊎_elim, lt-ltb, le-ltb}
use Rattle.std.specs.List.Sorted.{IsPermutation}
use Rattle.std.proofs.lemmas.Bool.{cases_lt}
use Rattle.std.proofs.lemmas.List.Sorted.{IsPermutation-refl, IsPermutation-cons, IsPermutation-trans, IsPermutation-middle}
use Rattle.legs.specs.Legs.{LegView}
use Rattle.tbtree.specs.Descent.{insert_by_ordinal, sort_by_ordinal}
use Rattle.tbtree.proofs.OrdinalOrder.{AreAbove, IsUp, lower}

abbrev pub number : LegView → ℕ
number leg = leg.ordinal

insert_moves : (x : LegView) (xs : List LegView) → IsPermutation (x ∷ xs) (insert_by_ordinal x xs)
insert_moves x [] = IsPermutation-refl (x ∷ [])
insert_moves x (y ∷ ys) =
    elim (nat_lt x.ordinal y.ordinal) as (λ v. IsPermutation (x ∷ y ∷ ys) (cond v (x ∷ y ∷ ys) (y ∷ insert_by_ordinal x ys))) [
      | true ↦ IsPermutation-refl (x ∷ y ∷ ys)
      | false ↦ IsPermutation-trans (x ∷ y ∷ ys) (y ∷ x ∷ ys) (y ∷ insert_by_ordinal x ys) (IsPermutation-middle (x ∷ []) y ys) (IsPermutation-cons y (x ∷ ys) (insert_by_ordinal x ys) (insert_moves x ys))
    ]

pub sort_moves : (xs : List LegView) → IsPermutation xs (sort_by_ordinal xs)
sort_moves [] = IsPermutation-refl []
sort_moves (x ∷ xs) = IsPermutation-trans (x ∷ xs) (x ∷ sort_by_ordinal xs) (insert_by_ordinal x (sort_by_ordinal xs)) (IsPermutation-cons x xs (sort_by_ordinal xs) (sort_moves xs)) (insert_moves x (sort_by_ordinal xs))

insert_above : (a : ℕ) (x : LegView) (xs : List LegView) → a ≤ x.ordinal → AreAbove a (map number xs) → AreAbove a (map number (insert_by_ordinal x xs))
insert_above a x [] h u = (h, tt)
insert_above a x (y ∷ ys) h u =
    elim (nat_lt x.ordinal y.ordinal) as (λ v. AreAbove a (map number (cond v (x ∷ y ∷ ys) (y ∷ insert_by_ordinal x ys)))) [
      | true ↦ (h, u)
      | false ↦ (u.0, insert_above a x ys h u.1)
    ]

insert_up : (x : LegView) (xs : List LegView) → IsUp (map number xs) → IsUp (map number (insert_by_ordinal x xs))
insert_up x [] u = (tt, tt)
insert_up x (y ∷ ys) u =
    ⊎_elim
    (λ (h : x.ordinal < y.ordinal).
    subst (λ v. IsUp (map number (cond v (x ∷ y ∷ ys) (y ∷ insert_by_ordinal x ys)))) (sym (lt-ltb x.ordinal y.ordinal h))
    ((omega (arith, h), lower y.ordinal x.ordinal (map number ys) (omega (arith, h)) u.0), u))
    (λ (h : y.ordinal ≤ x.ordinal).
    subst (λ v. IsUp (map number (cond v (x ∷ y ∷ ys) (y ∷ insert_by_ordinal x ys)))) (sym (le-ltb x.ordinal y.ordinal h))
    (insert_above y.ordinal x ys h u.0, insert_up x ys u.1))
    (cases_lt x.ordinal y.ordinal)

pub sort_up : (xs : List LegView) → IsUp (map number (sort_by_ordinal xs))
sort_up [] = tt
sort_up (x ∷ xs) = insert_up x (sort_by_ordinal xs) (sort_up xs)
