-- How one more leg widens a box.
use Rattle.std.proofs.Common.{ℕ, zero, suc, ◌≡◌, List, [], ◌∷◌, ◌++◌, set, refl, sym, ap, ◌∙◌, Option, Some, None, slice_get, map, length, ◌<◌, ◌≢◌, arith}
use Rattle.legs.specs.Hull.{Boxes, both, hull, hull_of}
use Rattle.tbtree.proofs.LawfulBoxes.{AreLawful}
use Rattle.legs.specs.Blocks.{joined}
use Rattle.tbtree.specs.Nodes.{cover_all}
use Rattle.tbtree.proofs.Widening.{cons_head, cons_tail, nil_cons}
use Rattle.legs.proofs.GroupLemmas.{some_none, some_same}

module _ {L B : Type 0} (s : Boxes L B) (laws : AreLawful s) where
  both-assoc : (a b c : Option B) → both s (both s a b) c ≡ both s a (both s b c)
  both-assoc None b c = refl
  both-assoc (Some a) None c = refl
  both-assoc (Some a) (Some b) None = refl
  both-assoc (Some a) (Some b) (Some c) = ap Some (laws.assoc a b c)

  both-comm : (a b : Option B) → both s a b ≡ both s b a
  both-comm None None = refl
  both-comm None (Some b) = refl
  both-comm (Some a) None = refl
  both-comm (Some a) (Some b) = ap Some (laws.comm a b)

  hull_append : (ls ys : List L) → hull s (ls ++ ys) ≡ both s (hull s ls) (hull s ys)
  hull_append [] ys = refl
  hull_append (l ∷ ls) ys = ap (both s (Some (s.of l))) (hull_append ls ys) ∙ sym (both-assoc (Some (s.of l)) (hull s ls) (hull s ys))

  -- legs more in one leaf
  pub hull_of_grown : (rs : List (List L)) (i : ℕ) (r ys : List L) → slice_get rs i ≡ Some r → hull_of s (set rs i (r ++ ys)) ≡ both s (hull_of s rs) (hull s ys)
  hull_of_grown [] i r ys e = absurd (some_none r (sym e))
  hull_of_grown (q ∷ rs) zero r ys e =
      ap (λ h. both s h (hull_of s rs)) (hull_append r ys) ∙ both-assoc (hull s r) (hull s ys) (hull_of s rs)
      ∙ ap (both s (hull s r)) (both-comm (hull s ys) (hull_of s rs)) ∙ sym (both-assoc (hull s r) (hull_of s rs) (hull s ys))
      ∙ ap (λ r. both s (both s (hull s r) (hull_of s rs)) (hull s ys)) (sym (some_same q r e))
  hull_of_grown (q ∷ rs) (suc i) r ys e = ap (both s (hull s q)) (hull_of_grown rs i r ys e) ∙ sym (both-assoc (hull s q) (hull_of s rs) (hull s ys))

  hull_of-append : (gs rs : List (List L)) → hull_of s (gs ++ rs) ≡ both s (hull_of s gs) (hull_of s rs)
  hull_of-append [] rs = refl
  hull_of-append (g ∷ gs) rs = ap (both s (hull s g)) (hull_of-append gs rs) ∙ sym (both-assoc (hull s g) (hull_of s gs) (hull_of s rs))

  -- a new leaf
  pub hull_of_push : (rs : List (List L)) (ys : List L) (box : B) → hull s ys ≡ Some box
      → hull_of s (rs ++ ys ∷ []) ≡ both s (hull_of s rs) (Some box)
  hull_of_push rs ys box e = hull_of-append rs (ys ∷ []) ∙ ap (λ o. both s (hull_of s rs) (both s o None)) e

  -- the cover of some blocks' boxes is the box of all their legs
  pub cover_joined : (bs : List B) (gs : List (List (List L))) → map Some bs ≡ map (hull_of s) gs → cover_all s bs ≡ hull_of s (joined gs)
  cover_joined [] [] e = refl
  cover_joined [] (g ∷ gs) e = absurd (nil_cons _ _ e)
  cover_joined (b ∷ bs) [] e = absurd (nil_cons _ _ (sym e))
  cover_joined (b ∷ bs) (g ∷ gs) e =
      ap (both s (Some b)) (cover_joined bs gs (cons_tail (Some b) (hull_of s g) (map Some bs) (map (hull_of s) gs) e))
      ∙ ap (λ o. both s o (hull_of s (joined gs))) (cons_head (Some b) (hull_of s g) (map Some bs) (map (hull_of s) gs) e)
      ∙ sym (hull_of-append g (joined gs))

module _ {L B : Type 0} (s : Boxes L B) where
  -- the box of a leaf is that of the block of it alone
  pub hull_alone : (ys : List L) (box : B) → hull s ys ≡ Some box → hull_of s (ys ∷ []) ≡ Some box
  hull_alone ys box e = ap (λ o. both s o None) e

  pub hull_of_one : (rs : List (List L)) (r : List L) → length rs ≡ 1 → slice_get rs 0 ≡ Some r → hull_of s rs ≡ hull s r
  hull_of_one [] r e a = absurd (omega (arith, e))
  hull_of_one (q ∷ []) r e a = (elim (hull s q) as (λ o. both s o None ≡ o) [ Some b ↦ refl | None ↦ refl ]) ∙ ap (hull s) (some_same q r a)
  hull_of_one (q ∷ q' ∷ rs) r e a = absurd (omega (arith, e))

  both_some : (b : B) (o : Option B) → (c : B) × (both s (Some b) o ≡ Some c)
  both_some b None = (b, refl)
  both_some b (Some a) = (s.cover b a, refl)

  -- a leg has a box, and so have boxes
  pub hull_some : (ls : List L) → ls ≢ [] → (c : B) × (hull s ls ≡ Some c)
  hull_some [] h = absurd (h refl)
  hull_some (l ∷ ls) h = both_some (s.of l) (hull s ls)

  pub cover_some : (bs : List B) → 0 < length bs → (c : B) × (cover_all s bs ≡ Some c)
  cover_some [] h = absurd (omega (arith, h))
  cover_some (b ∷ bs) h = both_some b (cover_all s bs)
