-- What an index knows of its features' leaves.
use Rattle.std.proofs.Common.{ℕ, zero, suc, ◌≡◌, ◌<◌, ◌⊎◌, inl, inr, ⊎_elim, List, [], ◌∷◌, ◌++◌, length, map, get_or, set, refl, sym, ap, ◌∙◌, arith, subst, Some, slice_get, IsTrue}
use Rattle.legs.specs.Costs.{ShapeView}
use Rattle.pagecache.specs.Cache.{Cache}
use Rattle.tbtree.specs.Nodes.{pages_of_cache}
use Rattle.tbtree.specs.declared.tree.Place.{Place}
use Rattle.chains.specs.Reads.{OnlyReads}
use Rattle.chains.specs.Spans.{IsKnown}
use Rattle.chains.specs.declared.spans.LeafSpan.{LeafSpan}
use Rattle.boxsearch.specs.Known.{AreKnown, Widens}
use Rattle.boxsearch.proofs.PlaceLemmas.{some_none, some_same}

push_has : (known : List (List LeafSpan)) (f : ℕ) (spans : List LeafSpan) → slice_get (known ++ [] ∷ []) f ≡ Some spans → (slice_get known f ≡ Some spans) ⊎ (spans ≡ [])
push_has [] zero spans e = inr (sym (some_same [] spans e))
push_has [] (suc f) spans e = absurd (some_none spans (sym e))
push_has (k ∷ known) zero spans e = inl e
push_has (k ∷ known) (suc f) spans e = push_has known f spans e

-- room for one feature more, of which nothing is known
pub widens_more : (old mid new : List (List LeafSpan)) → Widens old mid → new ≡ mid ++ [] ∷ [] → Widens old new
widens_more old mid new w e = λ f spans h.
    ⊎_elim (λ k. w f spans k) (λ n. inr n) (push_has mid f spans (ap (λ l. slice_get l f) (sym e) ∙ h))

module _ {V : Type 0} (items : V → List LeafSpan) where
  map_get : (xs : List V) (i : ℕ) (d : V) → i < length xs → slice_get (map items xs) i ≡ Some (items (get_or xs i d))
  map_get [] i d l = absurd (omega (arith, l))
  map_get (x ∷ xs) zero d l = refl
  map_get (x ∷ xs) (suc i) d l = map_get xs i d (omega (arith, l))

  set_has : (xs : List V) (i j : ℕ) (v : V) (spans : List LeafSpan) → slice_get (map items (set xs i v)) j ≡ Some spans
      → ((j ≡ i) × (items v ≡ spans)) ⊎ (slice_get (map items xs) j ≡ Some spans)
  set_has [] i j v spans e = absurd (some_none spans (sym e))
  set_has (x ∷ xs) zero zero v spans e = inl (refl, some_same (items v) spans e)
  set_has (x ∷ xs) zero (suc j) v spans e = inr e
  set_has (x ∷ xs) (suc i) zero v spans e = inr e
  set_has (x ∷ xs) (suc i) (suc j) v spans e = ⊎_elim (λ h. inl (ap suc h.0, h.1)) (λ h. inr h) (set_has xs i j v spans e)

  module _ (old : Cache) (shape : ShapeView) (places : List Place) (known : List (List LeafSpan)) (room : List V) (f : ℕ) (place : Place) (h : AreKnown old shape places known) (w : Widens known (map items room)) (at : slice_get places f ≡ Some place) where
    -- what is known of each feature, once there is room
    known_room : AreKnown old shape places (map items room)
    known_room = λ fa g place spans p s. ⊎_elim (λ k. h fa g place spans p k) (λ n. subst (IsKnown (pages_of_cache old) shape g place) (sym n) tt) (w g spans s)

    -- of the feature that is asked about
    pub known_of : (was : V) → f < length room → was ≡ get_or room f was → IsTrue old.store.is_faithful → IsKnown (pages_of_cache old) shape f place (items was)
    known_of was l there fa = subst (λ v. IsKnown (pages_of_cache old) shape f place (items v)) (sym there) (known_room fa f place (items (get_or room f was)) at (map_get room f was l))

    -- and after it was
    pub known_after : (new : Cache) (v : V) → OnlyReads old new → ((g : ℕ) (place : Place) (spans : List LeafSpan) → IsTrue old.store.is_faithful → IsKnown (pages_of_cache old) shape g place spans → IsKnown (pages_of_cache new) shape g place spans)
        → (IsTrue old.store.is_faithful → IsKnown (pages_of_cache old) shape f place (items v)) → AreKnown new shape places (map items (set room f v))
    known_after new v reads lasts is = λ fa g other spans p s.
        let was = sym reads.store.faithful ∙ fa in
        lasts g other spans was
        (⊎_elim
        (λ (e : (g ≡ f) × (items v ≡ spans)).
        let same : place ≡ other = some_same place other (sym at ∙ ap (slice_get places) (sym e.0) ∙ p) in
        subst (λ l. IsKnown (pages_of_cache old) shape g other l) e.1 (subst (λ h. IsKnown (pages_of_cache old) shape h other (items v)) (sym e.0) (subst (λ q. IsKnown (pages_of_cache old) shape f q (items v)) same (is was))))
        (λ k. known_room was g other spans p k)
        (set_has room f g v spans s))
