-- The pages of the levels above some leaves, page by page.
use Rattle.std.proofs.Common.{ℕ, zero, suc, ◌+◌, ◌-◌, ◌*◌, ◌<◌, ◌≤◌, ◌≡◌, min, List, [], ◌∷◌, ◌++◌, take, drop, map, length, refl, sym, ap, ◌∙◌, arith, subst, ⊎_elim, ◌/◌, ◌%◌, Some, slice_get, length-append, length-drop}
use Rattle.std.specs.List.{flat_map, All}
use Rattle.std.proofs.lemmas.Bool.{cases_lt}
use Rattle.std.proofs.lemmas.List.{take_all, drop_all, length-take, length-map, take-append-drop, take-map, drop-map, map-append, append-nil}
use Rattle.std.proofs.lemmas.List.Elements.{All-head, All-tail, All-take, All-drop}
use Rattle.std.proofs.Math.Seq.{take-append_seam, drop-append_seam}
use Rattle.legs.specs.Blocks.{block, groups}
use Rattle.legs.specs.Boxes.{BoxView}
use Rattle.legs.specs.Hull.{both, hull_of, leg_boxes}
use Rattle.legs.specs.Legs.{LegView}
use Rattle.tbtree.specs.Descent.{entries_in, legs_in}
use Rattle.tbtree.specs.Nodes.{Pages, EntryView, AnInner, InnerView, boxes, children}
use Rattle.legs.proofs.GroupSteps.{groups_ceil, no_groups, from_none, from_some, groups_step, groups_take, groups_drop, block_groups, drop_drop}
use Rattle.boxsearch.proofs.PushLemmas.{some_same, some_none}
use Rattle.treecheck.specs.Levels.{cover_of_leaves, pages_of_leaves, named_by, AllStandAbove, StandsAbove}
use Rattle.treecheck.specs.Walking.{IsMet}
use Rattle.treecheck.specs.declared.walking.Met.{Met}

nil_of : {X : Type 0} (xs : List X) → length xs ≡ 0 → xs ≡ []
nil_of [] e = refl
nil_of (x ∷ xs) e = absurd (omega (arith, e))

-- a first block, and what is left
seam : (n g : ℕ) (xs ys : List ℕ) → length xs ≡ min n g → length ys ≡ g - n → (take n (xs ++ ys) ≡ xs) × (drop n (xs ++ ys) ≡ ys)
seam n g xs ys a b =
    ⊎_elim
    (λ (l : g < n).
    let none : ys ≡ [] = nil_of ys (omega (arith, b, l)) in
    let few : length (xs ++ ys) ≤ n = (let t = length-append xs ys in omega (arith, a, b, l, t)) in
    (take_all n (xs ++ ys) few ∙ ap (λ l. xs ++ l) none ∙ append-nil xs, drop_all n (xs ++ ys) few ∙ sym none))
    (λ (l : n ≤ g).
    let e : n ≡ length xs = omega (arith, a, l) in
    (ap (λ k. take k (xs ++ ys)) e ∙ take-append_seam xs ys, ap (λ k. drop k (xs ++ ys)) e ∙ drop-append_seam xs ys))
    (cases_lt g n)

module _ {X : Type 0} where
  pub block_first : (n : ℕ) (xs : List X) → block n 0 xs ≡ take n xs
  block_first n xs = let z : 0 * n ≡ 0 = omega arith in ap (λ k. take n (drop k xs)) z

  pub block_later : (n j : ℕ) (xs : List X) → block n (suc j) xs ≡ block n j (drop n xs)
  block_later n j xs = let z : suc j * n ≡ n + j * n = omega arith in ap (λ k. take n (drop k xs)) z ∙ ap (take n) (drop_drop n (j * n) xs)

  pub one_group : (n : ℕ) (xs : List X) → 0 < length xs → length xs ≤ n → length (groups n xs) ≡ 1
  one_group n xs h l =
      let w : 0 < n = omega (arith, h, l) in
      let none : groups n (drop n xs) ≡ [] = no_groups n (drop n xs) w (let d = length-drop n xs in omega (arith, d, l)) in
      ap length (groups_step n xs w h ∙ ap (λ t. take n xs ∷ t) none)

  pub more_groups : (n : ℕ) (xs : List X) → 0 < n → n < length xs → 1 < length (groups n xs)
  more_groups n xs w l =
      let more : 0 < length (drop n xs) = (let d = length-drop n xs in omega (arith, d, l)) in
      let a = ap length (groups_step n xs w (omega (arith, l))) in
      let b = ap length (groups_step n (drop n xs) w more) in
      omega (arith, a, b)

pub same_count : (n : ℕ) (leaves : List Met) → 0 < n → length (groups n (pages_of_leaves leaves)) ≡ length (groups n leaves)
same_count n leaves h = groups_ceil n (pages_of_leaves leaves) h ∙ ap (λ l. l / n + min 1 (l % n)) (length-map leaves (λ (m : Met). m.page)) ∙ sym (groups_ceil n leaves h)

pub block_pages : (n j : ℕ) (leaves : List Met) → block n j (pages_of_leaves leaves) ≡ pages_of_leaves (block n j leaves)
block_pages n j leaves = ap (take n) (drop-map (λ (m : Met). m.page) (j * n) leaves) ∙ take-map (λ (m : Met). m.page) n (drop (j * n) leaves)

module _ (nodes : Pages LegView BoxView) where
  pub named_is : (p : ℕ) (page : InnerView BoxView) → nodes.at p ≡ Some (Some (AnInner page)) → named_by nodes p ≡ children page
  named_is p page e = ap (λ o. map (λ e. e.child) (entries_in o)) e

  count_is : (height w p : ℕ) (leaves : List Met) → StandsAbove nodes height w leaves p → length (named_by nodes p) ≡ length (groups w leaves)
  count_is height w p leaves s =
      ap length (named_is p s.page s.is) ∙ length-map s.page.entries (λ (e : EntryView BoxView). e.child)
      ∙ sym (length-map (boxes s.page) (λ (b : BoxView). Some b) ∙ length-map s.page.entries (λ (e : EntryView BoxView). e.bounds))
      ∙ ap length s.is_above.boxes_are ∙ length-map (groups w leaves) cover_of_leaves

  module _ (inner w : ℕ) (some_inner : 0 < inner) (some_w : 0 < w) (some_span : 0 < inner * w) where
    later : (height : ℕ) (leaves : List Met) (p : ℕ) (ps : List ℕ) → AllStandAbove nodes height w (inner * w) leaves (p ∷ ps) → AllStandAbove nodes height w (inner * w) (drop (inner * w) leaves) ps
    later height leaves p ps all j q at = subst (λ under. StandsAbove nodes height w under q) (block_later (inner * w) j leaves) (all (suc j) q at)

    rest_count : (leaves : List Met) (p : ℕ) (ps : List ℕ) → length (p ∷ ps) ≡ length (groups (inner * w) leaves) → (0 < length leaves) × (length ps ≡ length (groups (inner * w) (drop (inner * w) leaves)))
    rest_count leaves p ps e =
        let some : 0 < length leaves = from_some (inner * w) leaves some_span (omega (arith, e)) in
        let s = ap length (groups_step (inner * w) leaves some_span some) in
        (some, omega (arith, e, s))

    -- what a level names has a page for each group of the leaves: those of a page are a block of them
    pub below : (height : ℕ) (ps : List ℕ) (leaves : List Met) → length ps ≡ length (groups (inner * w) leaves) → AllStandAbove nodes height w (inner * w) leaves ps
        → (length (flat_map (named_by nodes) ps) ≡ length (groups w leaves))
        × ((j p : ℕ) → slice_get ps j ≡ Some p → named_by nodes p ≡ block inner j (flat_map (named_by nodes) ps))
        × (height ≡ 1 → flat_map (named_by nodes) ps ≡ pages_of_leaves leaves)
    below height [] leaves e all =
        let none : leaves ≡ [] = nil_of leaves (from_none (inner * w) leaves some_span (sym e)) in (
          ap (λ l. length (groups w l)) (sym none),
          λ j p at. absurd (some_none p (sym at)),
          λ one. ap pages_of_leaves (sym none),
        )
    below height (p ∷ ps) leaves e all =
        let r = rest_count leaves p ps e in
        let under = drop (inner * w) leaves in
        let rest = flat_map (named_by nodes) ps in
        let b = below height ps under r.1 (later height leaves p ps all) in
        let head : StandsAbove nodes height w (take (inner * w) leaves) p = subst (λ under. StandsAbove nodes height w under p) (block_first (inner * w) leaves) (all 0 p refl) in
        let first : length (named_by nodes p) ≡ min inner (length (groups w leaves)) =
        count_is height w p (take (inner * w) leaves) head ∙ ap length (sym (groups_take inner w leaves some_w)) ∙ length-take inner (groups w leaves) in
        let left : length rest ≡ length (groups w leaves) - inner = b.0 ∙ ap length (sym (groups_drop inner w leaves some_w)) ∙ length-drop inner (groups w leaves) in
        let s = seam inner (length (groups w leaves)) (named_by nodes p) rest first left in (
          (let l = length-append (named_by nodes p) rest in omega (arith, l, first, left)),
          at_block p ps rest s.0 s.1 b.1,
          λ one. (λ i. (named_is p head.page head.is ∙ head.is_above.leaves_are one) i ++ b.2 one i)
              ∙ sym (map-append (λ (m : Met). m.page) (take (inner * w) leaves) under) ∙ ap pages_of_leaves (take-append-drop (inner * w) leaves),
        )
      where
        at_block : (p : ℕ) (ps rest : List ℕ) → take inner (named_by nodes p ++ rest) ≡ named_by nodes p → drop inner (named_by nodes p ++ rest) ≡ rest
            → ((j q : ℕ) → slice_get ps j ≡ Some q → named_by nodes q ≡ block inner j rest)
            → (j q : ℕ) → slice_get (p ∷ ps) j ≡ Some q → named_by nodes q ≡ block inner j (named_by nodes p ++ rest)
        at_block p ps rest t d on zero q at = ap (named_by nodes) (sym (some_same p q at)) ∙ sym t ∙ sym (block_first inner (named_by nodes p ++ rest))
        at_block p ps rest t d on (suc j) q at = on j q at ∙ ap (block inner j) (sym d) ∙ sym (block_later inner j (named_by nodes p ++ rest))

    -- where each page names its block of some pages, together they name those
    pub gathers : (ps ns : List ℕ) (leaves : List Met) → length ps ≡ length (groups (inner * w) leaves) → length ns ≡ length (groups w leaves)
        → ((j p : ℕ) → slice_get ps j ≡ Some p → named_by nodes p ≡ block inner j ns) → flat_map (named_by nodes) ps ≡ ns
    gathers [] ns leaves e n on =
        let none : length leaves ≡ 0 = from_none (inner * w) leaves some_span (sym e) in
        sym (nil_of ns (n ∙ ap length (no_groups w leaves some_w none)))
    gathers (p ∷ ps) ns leaves e n on =
        let r = rest_count leaves p ps e in
        let under = drop (inner * w) leaves in
        let left : length (drop inner ns) ≡ length (groups w under) =
        length-drop inner ns ∙ ap (λ k. k - inner) n ∙ sym (length-drop inner (groups w leaves)) ∙ ap length (groups_drop inner w leaves some_w) in
        (λ i. (on 0 p refl ∙ block_first inner ns) i ++ gathers ps (drop inner ns) under r.1 left (λ j q at. on (suc j) q at ∙ block_later inner j ns) i)
        ∙ take-append-drop inner ns

  -- the least boxes of groups of leaves are those of their legs
  abbrev legs_of_leaf : Met → List LegView
  legs_of_leaf m = legs_in (nodes.at m.page)

  hull_is : (leaves : List Met) → All (λ (m : Met). IsMet (nodes.at m.page) m) leaves → hull_of leg_boxes (map legs_of_leaf leaves) ≡ cover_of_leaves leaves
  hull_is [] all = refl
  hull_is (m ∷ leaves) all = λ i. both leg_boxes ((All-head (λ (m : Met). IsMet (nodes.at m.page) m) m leaves all).bounds i) (hull_is leaves (All-tail (λ (m : Met). IsMet (nodes.at m.page) m) m leaves all) i)

  hulls_are : (w n : ℕ) (leaves : List Met) → 0 < w → length leaves ≤ n → All (λ (m : Met). IsMet (nodes.at m.page) m) leaves
      → map (hull_of leg_boxes) (groups w (map legs_of_leaf leaves)) ≡ map cover_of_leaves (groups w leaves)
  hulls_are w n [] h l all = refl
  hulls_are w zero (m ∷ leaves) h l all = absurd (omega (arith, l))
  hulls_are w (suc n) (m ∷ leaves) h l all =
      let xs = m ∷ leaves in
      let P = λ (m : Met). IsMet (nodes.at m.page) m in
      let some : 0 < length xs = omega arith in
      let some_legs : 0 < length (map legs_of_leaf xs) = (let k = length-map xs legs_of_leaf in omega (arith, k, some)) in
      let few : length (drop w xs) ≤ n = (let d = length-drop w xs in omega (arith, d, l, h)) in
      ap (map (hull_of leg_boxes)) (groups_step w (map legs_of_leaf xs) h some_legs)
      ∙ (λ i. hull_of leg_boxes (take-map legs_of_leaf w xs i) ∷ map (hull_of leg_boxes) (groups w (drop-map legs_of_leaf w xs i)))
      ∙ (λ i. hull_is (take w xs) (All-take P w xs all) i ∷ hulls_are w n (drop w xs) h few (All-drop P w xs all) i)
      ∙ sym (ap (map cover_of_leaves) (groups_step w xs h some))

  map_page : (leaves : List Met) → map (λ p. legs_in (nodes.at p)) (pages_of_leaves leaves) ≡ map legs_of_leaf leaves
  map_page [] = refl
  map_page (m ∷ leaves) = ap (λ l. legs_of_leaf m ∷ l) (map_page leaves)

  pub boxes_over : (inner w j : ℕ) (leaves : List Met) → 0 < w → All (λ (m : Met). IsMet (nodes.at m.page) m) leaves
      → map cover_of_leaves (groups w (block (inner * w) j leaves)) ≡ map (hull_of leg_boxes) (block inner j (groups w (map (λ p. legs_in (nodes.at p)) (pages_of_leaves leaves))))
  boxes_over inner w j leaves h all =
      let P = λ (m : Met). IsMet (nodes.at m.page) m in
      let n = inner * w in
      let under = block n j leaves in
      sym (hulls_are w (length under) under h (omega arith) (All-take P n (drop (j * n) leaves) (All-drop P (j * n) leaves all)))
      ∙ ap (λ l. map (hull_of leg_boxes) (groups w l)) (sym (take-map legs_of_leaf n (drop (j * n) leaves)) ∙ ap (take n) (sym (drop-map legs_of_leaf (j * n) leaves)))
      ∙ ap (map (hull_of leg_boxes)) (sym (block_groups inner w j (map legs_of_leaf leaves) h))
      ∙ ap (λ l. map (hull_of leg_boxes) (block inner j (groups w l))) (sym (map_page leaves))
