-- What is picked of a list, as far as a loop has come.
use Rattle.std.proofs.Common.{ℕ, zero, suc, ◌≡◌, Bool, true, false, cond, List, [], ◌∷◌, ◌++◌, take, sym, ap, ◌∙◌, append_assoc, Some, slice_get, map}
use Rattle.std.specs.List.{filter}
use Rattle.std.proofs.lemmas.List.{append-nil, map-append}
use Rattle.std.proofs.lemmas.List.Elements.{filter-append}
pub use Rattle.legs.proofs.GroupLemmas.{some_none, some_same}

module _ {X : Type 0} where
  -- what is taken up to an element ends with it
  pub take_at : (xs : List X) (i : ℕ) (x : X) → slice_get xs i ≡ Some x → take (suc i) xs ≡ take i xs ++ x ∷ []
  take_at [] i x e = absurd (some_none x (sym e))
  take_at (y ∷ xs) zero x e = ap (λ z. z ∷ []) (some_same y x e)
  take_at (y ∷ xs) (suc i) x e = ap (λ l. y ∷ l) (take_at xs i x e)

module _ {X Y : Type 0} (keep : X → Bool) (give : X → Y) where
  abbrev picked : List X → List Y
  picked xs = map give (filter keep xs)

  picked-append : (a b : List X) → picked (a ++ b) ≡ picked a ++ picked b
  picked-append a b = ap (map give) (filter-append keep a b) ∙ map-append give (filter keep a) (filter keep b)

  pub picked_more : (xs : List X) (base old new : List Y) (i j : ℕ) (x : X) → slice_get xs i ≡ Some x → j ≡ suc i → keep x ≡ true → new ≡ old ++ give x ∷ []
      → old ≡ base ++ map give (filter keep (take i xs)) → new ≡ base ++ map give (filter keep (take j xs))
  picked_more xs base old new i j x a s k e h =
      let one : picked (x ∷ []) ≡ give x ∷ [] = ap (λ b. map give (cond b (x ∷ []) [])) k in
      let all : picked (take j xs) ≡ picked (take i xs) ++ give x ∷ [] =
      ap (λ n. picked (take n xs)) s ∙ ap picked (take_at xs i x a) ∙ picked-append (take i xs) (x ∷ []) ∙ ap (λ l. picked (take i xs) ++ l) one in
      e ∙ ap (λ l. l ++ give x ∷ []) h ∙ append_assoc base (picked (take i xs)) (give x ∷ []) ∙ ap (λ l. base ++ l) (sym all)

  pub picked_same : (xs : List X) (base old : List Y) (i j : ℕ) (x : X) → slice_get xs i ≡ Some x → j ≡ suc i → keep x ≡ false
      → old ≡ base ++ map give (filter keep (take i xs)) → old ≡ base ++ map give (filter keep (take j xs))
  picked_same xs base old i j x a s k h =
      let none : picked (x ∷ []) ≡ [] = ap (λ b. map give (cond b (x ∷ []) [])) k in
      let all : picked (take j xs) ≡ picked (take i xs) =
      ap (λ n. picked (take n xs)) s ∙ ap picked (take_at xs i x a) ∙ picked-append (take i xs) (x ∷ []) ∙ ap (λ l. picked (take i xs) ++ l) none ∙ append-nil (picked (take i xs)) in
      h ∙ ap (λ l. base ++ l) (sym all)

module _ {X : Type 0} (keep : X → Bool) where
  pub kept_more : (xs base old new : List X) (i j : ℕ) (x : X) → slice_get xs i ≡ Some x → j ≡ suc i → keep x ≡ true → new ≡ old ++ x ∷ []
      → old ≡ base ++ filter keep (take i xs) → new ≡ base ++ filter keep (take j xs)
  kept_more xs base old new i j x a s k e h =
      let one : filter keep (x ∷ []) ≡ x ∷ [] = ap (λ b. cond b (x ∷ []) []) k in
      let all : filter keep (take j xs) ≡ filter keep (take i xs) ++ x ∷ [] =
      ap (λ n. filter keep (take n xs)) s ∙ ap (filter keep) (take_at xs i x a) ∙ filter-append keep (take i xs) (x ∷ []) ∙ ap (λ l. filter keep (take i xs) ++ l) one in
      e ∙ ap (λ l. l ++ x ∷ []) h ∙ append_assoc base (filter keep (take i xs)) (x ∷ []) ∙ ap (λ l. base ++ l) (sym all)

  pub kept_same : (xs base old : List X) (i j : ℕ) (x : X) → slice_get xs i ≡ Some x → j ≡ suc i → keep x ≡ false
      → old ≡ base ++ filter keep (take i xs) → old ≡ base ++ filter keep (take j xs)
  kept_same xs base old i j x a s k h =
      let none : filter keep (x ∷ []) ≡ [] = ap (λ b. cond b (x ∷ []) []) k in
      let all : filter keep (take j xs) ≡ filter keep (take i xs) =
      ap (λ n. filter keep (take n xs)) s ∙ ap (filter keep) (take_at xs i x a) ∙ filter-append keep (take i xs) (x ∷ []) ∙ ap (λ l. filter keep (take i xs) ++ l) none ∙ append-nil (filter keep (take i xs)) in
      h ∙ ap (λ l. base ++ l) (sym all)
