-- What a page says of the leaves below it.
use Rattle.std.proofs.Common.{ℕ, suc, ◌+◌, ◌<◌, ◌≤◌, ◌≡◌, List, [], ◌∷◌, ◌++◌, take, drop, map, length, refl, sym, ap, ◌∙◌, arith, ⊎_elim, Some, slice_get, get_or, option_map, Bool, true, false, ℤ, subst, int_eq, ◌&&◌, IsTrue, ◌↔◌}
use Rattle.std.specs.Int.{div_ceil}
use Rattle.std.proofs.lemmas.Bool.{true≢false}
use Rattle.std.proofs.lemmas.Bool.Decides.{Decides-int_eq}
use Rattle.std.proofs.lemmas.List.{length-map}
use Rattle.std.proofs.lemmas.Option.{slice_get-map, slice_get_within, slice_get_cases, slice_get_past, slice_get_read}
use Rattle.legs.specs.Blocks.{block, groups}
use Rattle.legs.specs.Boxes.{BoxView}
use Rattle.legs.specs.Hull.{both, leg_boxes}
use Rattle.tbtree.specs.Nodes.{EntryView, InnerView, boxes, children}
use Rattle.legs.proofs.GroupLemmas.{same_by_get}
use Rattle.legs.proofs.GroupSteps.{group_below, groups_ceil}
use Rattle.boxsearch.proofs.PushLemmas.{some_same, take_at}
use Rattle.treecheck.proofs.WalkLemmas.{drop_at}
use Rattle.treecheck.specs.Levels.{cover_of_leaves, pages_of_leaves}
use Rattle.treecheck.specs.declared.walking.Met.{Met}

-- one leaf more, before the others
pub cover_before : (leaves : List Met) (i j : ℕ) (leaf : Met) → slice_get leaves i ≡ Some leaf → i + 1 ≡ j
    → cover_of_leaves (drop i leaves) ≡ both leg_boxes (Some leaf.bounds) (cover_of_leaves (drop j leaves))
cover_before leaves i j leaf at next =
    ap cover_of_leaves (drop_at leaves i leaf at) ∙ ap (λ k. both leg_boxes (Some leaf.bounds) (cover_of_leaves (drop k leaves))) next

-- one element more of which two lists have the same
pub same_more : (xs ys : List ℕ) (i j x : ℕ) → slice_get xs i ≡ Some x → slice_get ys i ≡ Some x → i + 1 ≡ j → take i xs ≡ take i ys → take j xs ≡ take j ys
same_more xs ys i j x a b next h =
    ap (λ n. take n xs) n ∙ take_at xs i x a ∙ ap (λ l. l ++ x ∷ []) h ∙ sym (take_at ys i x b) ∙ ap (λ n. take n ys) (sym n)
  where
    n : j ≡ suc i
    n = omega (arith, next)

pub child_at : (page : InnerView BoxView) (i : ℕ) (e : EntryView BoxView) → slice_get page.entries i ≡ Some e → slice_get (children page) i ≡ Some e.child
child_at page i e at = slice_get-map (λ (e : EntryView BoxView). e.child) page.entries i ∙ ap (option_map (λ (e : EntryView BoxView). e.child)) at

pub box_at : (page : InnerView BoxView) (i : ℕ) (e : EntryView BoxView) → slice_get page.entries i ≡ Some e → slice_get (boxes page) i ≡ Some e.bounds
box_at page i e at = slice_get-map (λ (e : EntryView BoxView). e.bounds) page.entries i ∙ ap (option_map (λ (e : EntryView BoxView). e.bounds)) at

pub leaf_at : (leaves : List Met) (i : ℕ) (leaf : Met) → slice_get leaves i ≡ Some leaf → slice_get (pages_of_leaves leaves) i ≡ Some leaf.page
leaf_at leaves i leaf at = slice_get-map (λ (m : Met). m.page) leaves i ∙ ap (option_map (λ (m : Met). m.page)) at

-- the boxes of a page are as many as the groups, each that of its group
pub box_count : (bs : List BoxView) (width : ℕ) (leaves : List Met) → 0 < width → map Some bs ≡ map cover_of_leaves (groups width leaves) → length bs ≡ div_ceil (length leaves) width
box_count bs width leaves h e = sym (length-map bs Some) ∙ ap length e ∙ length-map (groups width leaves) cover_of_leaves ∙ groups_ceil width leaves h

pub box_of_group : (bs : List BoxView) (width : ℕ) (leaves : List Met) (i : ℕ) (b : BoxView) → 0 < width → map Some bs ≡ map cover_of_leaves (groups width leaves) → slice_get bs i ≡ Some b
    → Some b ≡ cover_of_leaves (block width i leaves)
box_of_group bs width leaves i b h e at =
    let n : length bs ≡ length (groups width leaves) = box_count bs width leaves h e ∙ sym (groups_ceil width leaves h) in
    let l : i < length (groups width leaves) = (let w = slice_get_within bs i b at in omega (arith, w, n)) in
    some_same (Some b) (cover_of_leaves (block width i leaves))
    (sym (slice_get-map (λ (b : BoxView). Some b) bs i ∙ ap (option_map (λ (b : BoxView). Some b)) at) ∙ ap (λ l. slice_get l i) e ∙ slice_get-map cover_of_leaves (groups width leaves) i ∙ ap (option_map cover_of_leaves) (group_below width leaves i h l))

pub boxes_of_groups : (bs : List BoxView) (width : ℕ) (leaves : List Met) → 0 < width → length bs ≡ div_ceil (length leaves) width
    → ((j : ℕ) (b : BoxView) → slice_get bs j ≡ Some b → Some b ≡ cover_of_leaves (block width j leaves))
    → map Some bs ≡ map cover_of_leaves (groups width leaves)
boxes_of_groups bs width leaves h n all = same_by_get (map Some bs) (map cover_of_leaves (groups width leaves)) at
  where
    same : length bs ≡ length (groups width leaves)
    same = n ∙ sym (groups_ceil width leaves h)

    within : (i : ℕ) (b : BoxView) → slice_get bs i ≡ Some b → slice_get (map Some bs) i ≡ slice_get (map cover_of_leaves (groups width leaves)) i
    within i b e =
        let l : i < length (groups width leaves) = (let w = slice_get_within bs i b e in omega (arith, w, same)) in
        slice_get-map (λ (b : BoxView). Some b) bs i ∙ ap (option_map (λ (b : BoxView). Some b)) e ∙ ap Some (all i b e)
        ∙ sym (slice_get-map cover_of_leaves (groups width leaves) i ∙ ap (option_map cover_of_leaves) (group_below width leaves i h l))

    past : (i : ℕ) → length bs ≤ i → slice_get (map Some bs) i ≡ slice_get (map cover_of_leaves (groups width leaves)) i
    past i l = slice_get_past (map Some bs) i (let m = length-map bs (λ (b : BoxView). Some b) in omega (arith, l, m)) ∙ sym (slice_get_past (map cover_of_leaves (groups width leaves)) i (let m = length-map (groups width leaves) cover_of_leaves in omega (arith, l, m, same)))

    at : (i : ℕ) → slice_get (map Some bs) i ≡ slice_get (map cover_of_leaves (groups width leaves)) i
    at i = ⊎_elim (λ h. within i h.0 h.2) (λ h. past i h.0) (slice_get_cases bs i).1

-- boxes are the same where each of their bounds is
pub same_box : (p q : BoxView) → IsTrue (int_eq p.x_min q.x_min && (int_eq p.y_min q.y_min && (int_eq p.t_min q.t_min && (int_eq p.x_max q.x_max && (int_eq p.y_max q.y_max && int_eq p.t_max q.t_max))))) ↔ (p ≡ q)
same_box p q = (
  λ t.
      let a = parts (int_eq p.x_min q.x_min) _ t in
      let b = parts (int_eq p.y_min q.y_min) _ a.1 in
      let c = parts (int_eq p.t_min q.t_min) _ b.1 in
      let d = parts (int_eq p.x_max q.x_max) _ c.1 in
      let e = parts (int_eq p.y_max q.y_max) _ d.1 in
      λ i. record { x_min = same p.x_min q.x_min a.0 i; y_min = same p.y_min q.y_min b.0 i; t_min = same p.t_min q.t_min c.0 i; x_max = same p.x_max q.x_max d.0 i; y_max = same p.y_max q.y_max e.0 i; t_max = same p.t_max q.t_max e.1 i },
  λ s. subst (λ q. IsTrue (int_eq p.x_min q.x_min && (int_eq p.y_min q.y_min && (int_eq p.t_min q.t_min && (int_eq p.x_max q.x_max && (int_eq p.y_max q.y_max && int_eq p.t_max q.t_max)))))) s
      (rw (again p.x_min, again p.y_min, again p.t_min, again p.x_max, again p.y_max, again p.t_max) refl),
)
  where
    parts : (a b : Bool) → (a && b) ≡ true → (a ≡ true) × (b ≡ true)
    parts true b e = (refl, e)
    parts false b e = absurd (true≢false (sym e))

    same : (x y : ℤ) → int_eq x y ≡ true → x ≡ y
    same x y e = (Decides-int_eq x y).0 e

    again : (x : ℤ) → int_eq x x ≡ true
    again x = (Decides-int_eq x x).1 refl

pub first_leaf : (leaves : List Met) (leaf : Met) (root : ℕ) → 0 < length leaves → leaf ≡ get_or leaves 0 leaf → leaf.page ≡ root → slice_get (pages_of_leaves leaves) 0 ≡ Some root
first_leaf leaves leaf root some is e = leaf_at leaves 0 leaf (slice_get_read leaves (length leaves) 0 leaf refl some is) ∙ ap Some e
