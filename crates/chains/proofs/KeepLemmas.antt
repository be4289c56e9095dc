-- What is dropped of a list before one of its elements.
use Rattle.std.proofs.Common.{ℕ, zero, suc, ◌≡◌, List, [], ◌∷◌, drop, sym, ap, Some, slice_get}
use Rattle.legs.proofs.GroupLemmas.{some_none, some_same}

module _ {X : Type 0} where
  -- what is dropped before an element begins with it
  pub drop_at : (xs : List X) (i : ℕ) (x : X) → slice_get xs i ≡ Some x → drop i xs ≡ x ∷ drop (suc i) xs
  drop_at [] i x e = absurd (some_none x (sym e))
  drop_at (y ∷ xs) zero x e = ap (λ z. z ∷ xs) (some_same y x e)
  drop_at (y ∷ xs) (suc i) x e = drop_at xs i x e
