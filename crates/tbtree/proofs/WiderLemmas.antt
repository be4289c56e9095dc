-- A leaf that grows or is begun makes one block of each level wider, and the entry of that block is widened.
use Rattle.std.proofs.Common.{ℕ, suc, ◌+◌, ◌*◌, ◌/◌, ◌%◌, ◌^◌, ◌<◌, ◌≡◌, ◌≢◌, List, [], ◌∷◌, ◌++◌, set, map, length, refl, sym, ap, ◌∙◌, arith, ⊎_elim, Some, None, slice_get, subst}
use Rattle.std.proofs.lemmas.Nat.{div-add-mod'}
use Rattle.std.proofs.lemmas.Bool.{cases_eq}
use Rattle.std.proofs.lemmas.Option.{slice_get_within}
use Rattle.legs.specs.Blocks.{groups, block}
use Rattle.legs.specs.Hull.{Boxes, both, hull, hull_of}
use Rattle.tbtree.proofs.LawfulBoxes.{AreLawful}
use Rattle.tbtree.specs.Nodes.{Pages, Node, Becomes, InnerView, children, boxes, with_wider, Widens}
use Rattle.tbtree.specs.Stands.{page_at, NumbersStand, InnerStands, LevelStands}
use Rattle.tbtree.specs.Way.{Wider}
use Rattle.legs.proofs.GroupLemmas.{some_none, some_same, group_is, get-block, block_set-at, block_set-other}
use Rattle.tbtree.proofs.HullLemmas.{hull_of_push, hull_of_grown}
use Rattle.tbtree.proofs.PushLemmas.{groups_push-same}
use Rattle.tbtree.proofs.Widening.{groups_set, widened_stands, widened_children, inner_same}

module _ {L B : Type 0} (s : Boxes L B) (laws : AreLawful s) where
  -- a leaf begun within a block that has room
  pub wider_begun : (m : ℕ) (runs : List (List L)) (ys : List L) (box : B) → 0 < m → 0 < length runs % m
      → hull s ys ≡ Some box → Wider s m runs (runs ++ ys ∷ []) (length runs / m) box
  wider_begun m runs ys box h r e = record {
    was = block m (length runs / m) runs;
    is = block m (length runs / m) runs ++ ys ∷ [];
    found = group_is m runs (length runs / m) h (let d : length runs / m * m + length runs % m ≡ length runs = div-add-mod' (length runs) m in omega (arith, d, r));
    becomes = groups_push-same m runs ys h r;
    holds = hull_of_push s laws (block m (length runs / m) runs) ys box e;
  }

  -- a leaf that grows
  pub wider_grown : (m : ℕ) (runs : List (List L)) (i : ℕ) (r ys : List L) (box : B) → 0 < m → hull s ys ≡ Some box → slice_get runs i ≡ Some r → Wider s m runs (set runs i (r ++ ys)) (i / m) box
  wider_grown m runs i r ys box h b e =
      let il : i < length runs = slice_get_within runs i r e in
      let d : i / m * m + i % m ≡ i = div-add-mod' i m in
      record {
        was = block m (i / m) runs;
        is = set (block m (i / m) runs) (i % m) (r ++ ys);
        found = group_is m runs (i / m) h (omega (arith, d, il));
        becomes = groups_set m runs i (r ++ ys) h il;
        holds = hull_of_grown s laws (block m (i / m) runs) (i % m) r ys (get-block m runs i h ∙ e) ∙ ap (both s (hull_of s (block m (i / m) runs))) b;
      }

-- a page that has become a node is not without one
pub becomes_held : {L B : Type 0} (old new : Pages L B) (p q : ℕ) (node : Node L B) → Becomes old p node new → new.at q ≡ None → (old.at q ≡ None) × (q ≢ p)
becomes_held old new p q node w e =
    let u : q ≢ p = λ u. some_none (Some node) (sym w.now ∙ ap new.at (sym u) ∙ e) in
    (sym (w.rest q u) ∙ e, u)

module _ {L B : Type 0} (s : Boxes L B) where
  pub keep_inner : (old new : Pages L B) (p h : ℕ) (cs : List ℕ) (bs : List (List (List L))) → new.at p ≡ old.at p → InnerStands s old p h cs bs → InnerStands s new p h cs bs
  keep_inner old new p h cs bs e v = record {
    page = v.page;
    is = e ∙ v.is;
    height_is = v.height_is;
    children_are = v.children_are;
    boxes_are = v.boxes_are;
  }

  pub move_inner : (nodes : Pages L B) (p h : ℕ) (cs cs' : List ℕ) (bs bs' : List (List (List L))) → cs ≡ cs' → bs ≡ bs' → InnerStands s nodes p h cs bs → InnerStands s nodes p h cs' bs'
  move_inner nodes p h cs cs' bs bs' c b v = record {
    page = v.page;
    is = v.is;
    height_is = v.height_is;
    children_are = v.children_are ∙ c;
    boxes_are = v.boxes_are ∙ ap (map (hull_of s)) b;
  }

  widen_inner : (old new : Pages L B) (p h height e : ℕ) (box : B) (c : ℕ) (cs : List ℕ) (bs : List (List (List L))) (was is : List (List L))
      → Widens s old p height e box new c → slice_get bs e ≡ Some was → hull_of s is ≡ both s (hull_of s was) (Some box) → InnerStands s old p h cs bs → InnerStands s new p h cs (set bs e is)
  widen_inner old new p h height e box c cs bs was is w g u v =
      let same : v.page ≡ w.page = inner_same L v.page w.page (some_same _ _ (sym v.is ∙ w.was)) in
      record {
        page = with_wider s.cover e box w.page;
        is = w.becomes.now;
        height_is = sym (ap (λ (x : InnerView B). x.level) same) ∙ v.height_is;
        children_are = widened_children s.cover e box w.page.entries ∙ sym (ap (λ (x : InnerView B). children x) same) ∙ v.children_are;
        boxes_are = widened_stands s (hull_of s) w.page.entries bs e was is box (ap (λ (x : InnerView B). map Some (boxes x)) (sym same) ∙ v.boxes_are) g u;
      }

  -- the level whose block becomes wider
  pub widen_level : (inner levels root count : ℕ) (pages : ℕ → List ℕ) (runs after : List (List L)) (old new : Pages L B) (p height j : ℕ) (box : B) (c k : ℕ) → 0 < inner
      → Widens s old p height (j % inner) box new c → NumbersStand inner levels root count runs pages → page_at pages (suc k) (j / inner) ≡ Some p → Wider s (inner ^ k) runs after j box
      → LevelStands s old inner runs pages k → LevelStands s new inner after pages k
  widen_level inner levels root count pages runs after old new p height j box c k h w n at x v i q a =
      let G = groups (inner ^ k) runs in
      ⊎_elim
      (λ (e : i ≡ j / inner).
      let u : p ≡ q = some_same p q (sym at ∙ ap (page_at pages (suc k)) (sym e) ∙ a) in
      let b = widen_inner old new p (suc k) height (j % inner) box c (block inner (j / inner) (pages k)) (block inner (j / inner) G) x.was x.is w (get-block inner G j h ∙ x.found) x.holds (v (j / inner) p at) in
      let b' = move_inner new p (suc k) _ (block inner (j / inner) (pages k)) _ (block inner (j / inner) (groups (inner ^ k) after)) refl (sym (block_set-at inner G j x.is) ∙ ap (block inner (j / inner)) (sym x.becomes)) b in
      subst (λ z. InnerStands s new q (suc k) (block inner z (pages k)) (block inner z (groups (inner ^ k) after))) (sym e) (subst (λ z. InnerStands s new z (suc k) (block inner (j / inner) (pages k)) (block inner (j / inner) (groups (inner ^ k) after))) u b'))
      (λ (e : i ≢ j / inner).
      let u : q ≢ p = λ u. e (n.apart (suc k) i (suc k) (j / inner) p (a ∙ ap Some u) at).1 in
      move_inner new q (suc k) _ (block inner i (pages k)) _ (block inner i (groups (inner ^ k) after)) refl (sym (block_set-other inner G j x.is i h e) ∙ ap (block inner i) (sym x.becomes))
      (keep_inner old new q (suc k) _ _ (w.becomes.rest q u) (v i q a)))
      (cases_eq i (j / inner))
