-- Legs of one key that make a run of their own.
use Rattle.std.proofs.Common.{ℕ, suc, ◌+◌, ◌%◌, ◌<◌, ◌≤◌, ◌≡◌, ◌≢◌, All, true, List, [], ◌∷◌, ◌++◌, set, length, refl, sym, ap, ◌∙◌, arith, append_assoc, ⊎_elim, Some, slice_get}
use Rattle.std.proofs.lemmas.Bool.{cases_lt, eqb-true}
use Rattle.std.proofs.lemmas.List.{length_push}
use Rattle.std.proofs.lemmas.Nat.{mod_below}
use Rattle.std.proofs.lemmas.Option.{slice_get_within}
use Rattle.legs.specs.Blocks.{begins, runs}
use Rattle.tbtree.specs.Stands.{owner}
use Rattle.tbtree.proofs.RoomLemmas.{count, mod_below_next, push_same, runs_begun, runs_grown}
use Rattle.tbtree.proofs.BeginLemmas.{get-push_last}

set_last : {X : Type 0} (xs : List X) (a b : X) → set (xs ++ a ∷ []) (length xs) b ≡ xs ++ b ∷ []
set_last [] a b = refl
set_last (x ∷ xs) a b = ap (λ l. x ∷ l) (set_last xs a b)

-- the first begins a run, which the others fill as far as they go
pub runs_made : {X : Type 0} (key : X → ℕ) (m : ℕ) (xs : List X) (y : X) (ys : List X) → begins key (suc m) xs y ≡ true
    → All (λ z. key z ≡ key y) ys → length (y ∷ ys) ≤ suc m → runs key (suc m) (xs ++ y ∷ ys) ≡ runs key (suc m) xs ++ (y ∷ ys) ∷ []
runs_made {X} key m xs y ys b all room =
    let n = suc m in
    let f = key y in
    let rs = runs key n xs in
    let one : runs key n (xs ++ y ∷ []) ≡ rs ++ (y ∷ []) ∷ [] = runs_begun key n xs y (omega arith) b in
    let z : count key m f xs % n ≡ 0 = eqb-true _ 0 b in
    let more : count key m f (xs ++ y ∷ []) ≡ count key m f xs + 1 = push_same key m f xs y refl in
    let next : 1 < n → count key m f (xs ++ y ∷ []) % n ≡ count key m f xs % n + 1 = λ l. ap (λ a. a % n) more ∙ mod_below_next (count key m f xs) 1 n (omega (arith, z, l)) in
    let there : 0 < length ys → 0 < count key m f (xs ++ y ∷ []) % n = λ l. let e = next (omega (arith, l, room)) in omega (arith, e) in
    let room' : count key m f (xs ++ y ∷ []) % n + length ys ≤ n = ⊎_elim
    (λ (l : 0 < length ys). let e = next (omega (arith, l, room)) in omega (arith, e, z, room))
    (λ (l : length ys ≤ 0). let e = mod_below (count key m f (xs ++ y ∷ [])) n (omega arith) in omega (arith, l, e))
    (cases_lt 0 (length ys)) in
    let at : slice_get (runs key n (xs ++ y ∷ [])) (length rs) ≡ Some (y ∷ []) = ap (λ l. slice_get l (length rs)) one ∙ get-push_last rs (y ∷ []) (length rs) refl in
    let many : length (runs key n (xs ++ y ∷ [])) ≡ length rs + 1 = ap length one ∙ length_push rs (y ∷ []) in
    let none : (j : ℕ) (q : List X) → length rs < j → slice_get (runs key n (xs ++ y ∷ [])) j ≡ Some q → owner key q ≢ f =
    λ j q l a. absurd (let w = slice_get_within (runs key n (xs ++ y ∷ [])) j q a in omega (arith, w, l, many)) in
    ap (runs key n) (sym (append_assoc xs (y ∷ []) ys))
    ∙ runs_grown key m (xs ++ y ∷ []) ys (length rs) f y [] all there room' at refl none
    ∙ ap (λ l. set l (length rs) (y ∷ ys)) one
    ∙ set_last rs (y ∷ []) (y ∷ ys)
