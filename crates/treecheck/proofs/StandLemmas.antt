-- A tree over its leaves: what its levels say, and the other way round.
use Rattle.std.proofs.Common.{ℕ, zero, suc, ◌+◌, ◌-◌, ◌*◌, ◌^◌, ◌<◌, ◌≤◌, ◌≡◌, cond, nat_lt, List, [], ◌∷◌, map, length, refl, sym, ap, ◌∙◌, arith, subst, ⊎_elim, Some, slice_get, lt-ltb, le-ltb}
use Rattle.std.specs.List.{flat_map, All}
use Rattle.std.proofs.lemmas.Bool.{cases_lt}
use Rattle.std.proofs.lemmas.List.{length-map}
use Rattle.std.proofs.lemmas.List.Elements.{All-get_or}
use Rattle.std.proofs.lemmas.Option.{slice_get_within, get_or_from_slice_get}
use Rattle.std.proofs.Math.Nat.{pow-succ', pow-zero, mul-one}
use Rattle.legs.specs.Blocks.{block, groups, level}
use Rattle.legs.specs.Boxes.{BoxView}
use Rattle.legs.specs.Hull.{leg_boxes}
use Rattle.legs.specs.Legs.{LegView}
use Rattle.treecheck.specs.Check.{IsTreeOver}
use Rattle.tbtree.specs.Descent.{legs_in}
use Rattle.tbtree.specs.Nodes.{Pages}
use Rattle.tbtree.specs.Stands.{page_at, InnerStands}
use Rattle.tbtree.specs.declared.tree.TbTree.{TbTree}
use Rattle.legs.proofs.GroupSteps.{from_some}
use Rattle.treecheck.proofs.OverLemmas.{below, gathers, named_is, boxes_over, block_pages, same_count, one_group, more_groups}
use Rattle.boxsearch.proofs.PushLemmas.{some_same, some_none}
use Rattle.treecheck.proofs.SpanLemmas.{pow_above}
use Rattle.treecheck.specs.Levels.{cover_of_leaves, pages_of_leaves, named_by, named_below, AllStandAbove, IsHeight, LevelsStandAbove, StandsOver}
use Rattle.treecheck.specs.Walking.{IsMet}
use Rattle.treecheck.specs.declared.walking.Met.{Met}

one_element : (xs : List ℕ) (x : ℕ) → length xs ≡ 1 → slice_get xs 0 ≡ Some x → x ∷ [] ≡ xs
one_element [] x n e = absurd (some_none x (sym e))
one_element (y ∷ []) x n e = λ i. some_same x y (sym e) i ∷ []
one_element (y ∷ z ∷ xs) x n e = absurd (omega (arith, n))

module _ (nodes : Pages LegView BoxView) (tree : TbTree) (leaves : List Met) (h : ℕ) (levels_are : tree.levels ≡ suc h) (some : 0 < tree.shape.inner)
    (leaves_are : tree.leaves ≡ length leaves) (met : All (λ (m : Met). IsMet (nodes.at m.page) m) leaves) where
  abbrev inner : ℕ
  inner = tree.shape.inner

  abbrev root : ℕ
  root = tree.root

  span_is : (k : ℕ) → inner ^ suc k ≡ inner * inner ^ k
  span_is k = pow-succ' inner k

  span_above : (k : ℕ) → 0 < inner * inner ^ k
  span_above k = subst (λ n. 0 < n) (span_is k) (pow_above inner (suc k) some)

  -- the pages of each level, as those above name them
  abbrev pages_down : ℕ → List ℕ
  pages_down k = cond (nat_lt k (suc h)) (named_below nodes root (h - k)) []

  down_at : (k n : ℕ) → n + k ≡ h → pages_down k ≡ named_below nodes root n
  down_at k n e =
      let s : h - k ≡ n = omega (arith, e) in
      ap (λ b. cond b (named_below nodes root (h - k)) []) (lt-ltb k (suc h) (omega (arith, e))) ∙ ap (named_below nodes root) s

  down_past : (k : ℕ) → suc h ≤ k → pages_down k ≡ []
  down_past k l = ap (λ b. cond b (named_below nodes root (h - k)) []) (le-ltb k (suc h) l)

  module _ (high : IsHeight inner (length leaves) h) (top : h ≡ 0 → slice_get (pages_of_leaves leaves) 0 ≡ Some root) (stand : LevelsStandAbove nodes inner h root leaves) where
    stand_at : (k n : ℕ) → n + suc k ≡ h → AllStandAbove nodes (suc k) (inner ^ k) (inner * inner ^ k) leaves (named_below nodes root n)
    stand_at k n e = subst (λ m. AllStandAbove nodes (suc k) (inner ^ k) m leaves (named_below nodes root n)) (span_is k) (stand k n e)

    counted : (n k : ℕ) → n + k ≡ h → length (named_below nodes root n) ≡ length (groups (inner ^ k) leaves)
    counted zero k e = sym (one_group (inner ^ k) leaves high.some (let s : h ≡ k = omega (arith, e) in subst (λ k. length leaves ≤ inner ^ k) s high.enough))
    counted (suc n) k e =
        let up : n + suc k ≡ h = omega (arith, e) in
        (below nodes inner (inner ^ k) some (pow_above inner k some) (span_above k) (suc k) (named_below nodes root n) leaves (counted n (suc k) up ∙ ap (λ m. length (groups m leaves)) (span_is k)) (stand_at k n up)).0

    level_below : (n k : ℕ) → n + suc k ≡ h
        → ((j p : ℕ) → slice_get (named_below nodes root n) j ≡ Some p → named_by nodes p ≡ block inner j (named_below nodes root (suc n)))
        × (suc k ≡ 1 → named_below nodes root (suc n) ≡ pages_of_leaves leaves)
    level_below n k e =
        let b = below nodes inner (inner ^ k) some (pow_above inner k some) (span_above k) (suc k) (named_below nodes root n) leaves (counted n (suc k) e ∙ ap (λ m. length (groups m leaves)) (span_is k)) (stand_at k n e) in
        (b.1, b.2)

    base_of : (n : ℕ) → n ≡ h → named_below nodes root n ≡ pages_of_leaves leaves
    base_of zero e =
        let z : h ≡ 0 = omega (arith, e) in
        let one : length leaves ≡ 1 = (let a = high.some in let b = subst (λ k. length leaves ≤ inner ^ k) z high.enough in let p = pow-zero inner in omega (arith, a, b, p)) in
        one_element (pages_of_leaves leaves) root (length-map leaves (λ (m : Met). m.page) ∙ one) (top z)
    base_of (suc n) e = (level_below n 0 (omega (arith, e))).1 refl

    inner_stands : (k n j p : ℕ) → n + suc k ≡ h → slice_get (named_below nodes root n) j ≡ Some p
        → InnerStands leg_boxes nodes p (suc k) (block inner j (pages_down k)) (block inner j (level inner k (map (λ p. legs_in (nodes.at p)) (pages_of_leaves leaves))))
    inner_stands k n j p e at =
        let s = stand_at k n e j p at in
        record {
          page = s.page;
          is = s.is;
          height_is = s.is_above.height_is;
          children_are = sym (named_is nodes p s.page s.is) ∙ (level_below n k e).0 j p at ∙ ap (block inner j) (sym (down_at k (suc n) (omega (arith, e))));
          boxes_are = s.is_above.boxes_are ∙ boxes_over nodes inner (inner ^ k) j leaves (pow_above inner k some) met;
        }

    pub stands_over : All (λ p. (0 < p) × (p < nodes.count)) (pages_of_leaves leaves) → StandsOver nodes tree (pages_of_leaves leaves)
    stands_over within = record {
      pages = pages_down;
      is_over = record {
        leaves_are = leaves_are ∙ sym (length-map leaves (λ (m : Met). m.page));
        base = λ l. down_at 0 h (omega arith) ∙ base_of h refl;
        one_each = λ k l.
            let e : (h - k) + k ≡ h = omega (arith, l, levels_are) in
            ap length (down_at k (h - k) e) ∙ counted (h - k) k e ∙ sym (same_count (inner ^ k) leaves (pow_above inner k some));
        no_more = λ k l. down_past k (omega (arith, l, levels_are));
        below_top = λ k l.
            let more = more_groups (inner ^ k) leaves (pow_above inner k some) (high.fewer k (omega (arith, l, levels_are))) in
            let same = same_count (inner ^ k) leaves (pow_above inner k some) in
            omega (arith, more, same);
        top = λ k e.
            let s : 0 + k ≡ h = omega (arith, e, levels_are) in
            (same_count (inner ^ k) leaves (pow_above inner k some) ∙ sym (counted 0 k s), ap (λ l. slice_get l 0) (down_at k 0 s));
        empty = λ e. absurd (omega (arith, e, levels_are));
        within = λ k j p at. page_within within k j p at;
        inners = λ k j p at.
            ⊎_elim
            (λ (l : suc k < suc h).
            let e : (h - suc k) + suc k ≡ h = omega (arith, l) in
            inner_stands k (h - suc k) j p e (ap (λ xs. slice_get xs j) (sym (down_at (suc k) (h - suc k) e)) ∙ at))
            (λ (l : suc h ≤ suc k). absurd (some_none p (sym at ∙ ap (λ xs. slice_get xs j) (down_past (suc k) l))))
            (cases_lt (suc k) (suc h));
      };
    }
      where
        page_within : All (λ p. (0 < p) × (p < nodes.count)) (pages_of_leaves leaves) → (k j p : ℕ) → page_at pages_down k j ≡ Some p → (0 < p) × (p < nodes.count)
        page_within within zero j p at =
            let here : slice_get (pages_of_leaves leaves) j ≡ Some p = ap (λ xs. slice_get xs j) (sym (base_of h refl) ∙ sym (down_at 0 h (omega arith))) ∙ at in
            subst (λ p. (0 < p) × (p < nodes.count)) (get_or_from_slice_get (pages_of_leaves leaves) j p 0 here) (All-get_or (λ p. (0 < p) × (p < nodes.count)) (pages_of_leaves leaves) j 0 (slice_get_within (pages_of_leaves leaves) j p here) within)
        page_within within (suc k) j p at =
            ⊎_elim
            (λ (l : suc k < suc h).
            let e : (h - suc k) + suc k ≡ h = omega (arith, l) in
            let s = stand k (h - suc k) e j p (ap (λ xs. slice_get xs j) (sym (down_at (suc k) (h - suc k) e)) ∙ at) in
            (s.above, s.within))
            (λ (l : suc h ≤ suc k). absurd (some_none p (sym at ∙ ap (λ xs. slice_get xs j) (down_past (suc k) l))))
            (cases_lt (suc k) (suc h))

  -- of any pages that are over those leaves
  module _ (pages : ℕ → List ℕ) (over : IsTreeOver nodes tree (pages_of_leaves leaves) pages) where
    pub height_of : IsHeight inner (length leaves) h
    height_of =
        let t = over.top h (sym levels_are) in
        let w = pow_above inner h some in
        let one : length (groups (inner ^ h) leaves) ≡ 1 = sym (same_count (inner ^ h) leaves w) ∙ t.0 in
        record {
          some = from_some (inner ^ h) leaves w (omega (arith, one));
          fewer = λ k l.
              ⊎_elim (λ (b : inner ^ k < length leaves). b)
              (λ (b : length leaves ≤ inner ^ k). absurd (
              let m = over.below_top k (omega (arith, l, levels_are)) in
              let s = same_count (inner ^ k) leaves (pow_above inner k some) in
              let a = one_group (inner ^ k) leaves (from_some (inner ^ h) leaves w (omega (arith, one))) b in
              omega (arith, m, s, a)))
              (cases_lt (inner ^ k) (length leaves));
          enough =
              ⊎_elim (λ (b : inner ^ h < length leaves). absurd (let m = more_groups (inner ^ h) leaves w b in omega (arith, m, one)))
              (λ (b : length leaves ≤ inner ^ h). b)
              (cases_lt (inner ^ h) (length leaves));
        }

    same_down : (n k : ℕ) → n + k ≡ h → named_below nodes root n ≡ pages k
    same_down zero k e =
        let s : suc k ≡ tree.levels = omega (arith, e, levels_are) in
        let t = over.top k s in
        one_element (pages k) root (over.one_each k (omega (arith, s)) ∙ t.0) t.1
    same_down (suc n) k e =
        let up : n + suc k ≡ h = omega (arith, e) in
        let w = pow_above inner k some in
        ap (flat_map (named_by nodes)) (same_down n (suc k) up)
        ∙ gathers nodes inner (inner ^ k) some w (span_above k) (pages (suc k)) (pages k) leaves
        (over.one_each (suc k) (omega (arith, e, levels_are)) ∙ same_count (inner ^ suc k) leaves (pow_above inner (suc k) some) ∙ ap (λ m. length (groups m leaves)) (span_is k))
        (over.one_each k (omega (arith, e, levels_are)) ∙ same_count (inner ^ k) leaves w)
        (λ j p at. let s = over.inners k j p at in named_is nodes p s.page s.is ∙ s.children_are)

    pub levels_of : LevelsStandAbove nodes inner h root leaves
    levels_of k n e j p at =
        let here : page_at pages (suc k) j ≡ Some p = ap (λ xs. slice_get xs j) (sym (same_down n (suc k) e)) ∙ at in
        let s = over.inners k j p here in
        let w = over.within (suc k) j p here in
        record {
          above = w.0;
          within = w.1;
          page = s.page;
          is = s.is;
          is_above = record {
            height_is = s.height_is;
            boxes_are = s.boxes_are ∙ sym (boxes_over nodes inner (inner ^ k) j leaves (pow_above inner k some) met) ∙ ap (λ m. map cover_of_leaves (groups (inner ^ k) (block m j leaves))) (sym (span_is k));
            leaves_are = λ one.
                let z : k ≡ 0 = omega (arith, one) in
                let m : inner ≡ inner ^ suc k = sym (mul-one inner) ∙ ap (λ n. inner * n) (sym (pow-zero inner)) ∙ ap (λ k. inner * inner ^ k) (sym z) ∙ sym (span_is k) in
                s.children_are ∙ ap (block inner j) (ap pages z ∙ over.base (omega (arith, levels_are))) ∙ block_pages inner j leaves ∙ ap (λ n. pages_of_leaves (block n j leaves)) m;
          };
        }

-- without a leaf
pub stands_empty : (nodes : Pages LegView BoxView) (tree : TbTree) (leaves : List Met) → tree.leaves ≡ length leaves → tree.levels ≡ 0 → tree.leaves ≡ 0 → tree.root ≡ 0 → StandsOver nodes tree (pages_of_leaves leaves)
stands_empty nodes tree (m ∷ leaves) n l z r = absurd (omega (arith, n, z))
stands_empty nodes tree [] n l z r = record {
  pages = λ k. [];
  is_over = record {
    leaves_are = z;
    base = λ b. absurd (omega (arith, b, l));
    one_each = λ k b. absurd (omega (arith, b, l));
    no_more = λ k b. refl;
    below_top = λ k b. absurd (omega (arith, b, l));
    top = λ k b. absurd (omega (arith, b, l));
    empty = λ e. (refl, r);
    within = λ k j p at. absurd (some_none p (sym at));
    inners = λ k j p at. absurd (some_none p (sym at));
  };
}
