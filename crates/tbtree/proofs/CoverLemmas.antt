-- The least box of a list, from its end on.
use Rattle.std.proofs.Common.{ℕ, zero, suc, ◌≡◌, ◌∙◌, List, [], ◌∷◌, drop, length, map, Some, None, slice_get, refl, sym, ap, arith}
use Rattle.legs.specs.Hull.{Boxes, both, hull}
use Rattle.tbtree.specs.Nodes.{cover_all}

pub drop_at : {X : Type 0} (xs : List X) (i : ℕ) (x : X) → slice_get xs i ≡ Some x → drop i xs ≡ x ∷ drop (suc i) xs
drop_at [] i x e = let none : None ≡ Some x = e in absurd (cc)
drop_at (y ∷ xs) zero x e = let same : Some y ≡ Some x = e in cc
drop_at (y ∷ xs) (suc i) x e = drop_at xs i x e

drop_end : {X : Type 0} (xs : List X) (i : ℕ) → length xs ≡ i → drop i xs ≡ []
drop_end [] zero e = refl
drop_end [] (suc i) e = absurd (omega arith)
drop_end (x ∷ xs) zero e = absurd (omega arith)
drop_end (x ∷ xs) (suc i) e = drop_end xs i (omega arith)

module _ {L B : Type 0} (s : Boxes L B) where
  pub hull_at_end : (ls : List L) (i : ℕ) (l : L) → suc i ≡ length ls → slice_get ls i ≡ Some l → hull s (drop i ls) ≡ Some (s.of l)
  hull_at_end ls i l end at = ap (hull s) (drop_at ls i l at) ∙ ap (λ rest. both s (Some (s.of l)) (hull s rest)) (drop_end ls (suc i) (sym end))

  pub hull_before : (ls : List L) (i : ℕ) (l : L) (b : B) → slice_get ls i ≡ Some l → hull s (drop (suc i) ls) ≡ Some b → hull s (drop i ls) ≡ Some (s.cover (s.of l) b)
  hull_before ls i l b at held = ap (hull s) (drop_at ls i l at) ∙ ap (both s (Some (s.of l))) held

  pub cover_at_end : (bs : List B) (i : ℕ) (b : B) → suc i ≡ length bs → slice_get bs i ≡ Some b → cover_all s (drop i bs) ≡ Some b
  cover_at_end bs i b end at = ap (cover_all s) (drop_at bs i b at) ∙ ap (λ rest. both s (Some b) (cover_all s rest)) (drop_end bs (suc i) (sym end))

  pub cover_before : (bs : List B) (i : ℕ) (a b : B) → slice_get bs i ≡ Some a → cover_all s (drop (suc i) bs) ≡ Some b → cover_all s (drop i bs) ≡ Some (s.cover a b)
  cover_before bs i a b at held = ap (cover_all s) (drop_at bs i a at) ∙ ap (both s (Some a)) held

pub slice_get-map : {X Y : Type 0} (f : X → Y) (xs : List X) (i : ℕ) (x : X) → slice_get xs i ≡ Some x → slice_get (map f xs) i ≡ Some (f x)
slice_get-map f [] i x e = let none : None ≡ Some x = e in absurd (cc)
slice_get-map f (y ∷ xs) zero x e = let same : Some y ≡ Some x = e in cc
slice_get-map f (y ∷ xs) (suc i) x e = slice_get-map f xs i x e
