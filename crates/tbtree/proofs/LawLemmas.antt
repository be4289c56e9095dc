-- What is said of pages that stand for legs.
use Rattle.std.proofs.Common.{ℕ, zero, suc, ◌+◌, ◌*◌, ◌-◌, ◌<◌, ◌≤◌, ◌≡◌, ◌==◌, nat_lt, lt-ltb, le-ltb, Bool, true, false, cond, List, [], ◌∷◌, ◌++◌, length, map, refl, sym, ap, ◌∙◌, arith, subst, ⊎_elim, Option, None, Some, slice_get}
use Rattle.std.specs.List.{filter, flat_map, count_by, range_with_len, All}
use Rattle.std.specs.List.Sorted.{IsPermutation}
use Rattle.std.proofs.lemmas.Bool.{cases_lt, true≢false}
use Rattle.std.proofs.lemmas.List.{length-append, length_push}
use Rattle.std.proofs.lemmas.List.Sums.{length-filter, sum_by-cons}
use Rattle.std.proofs.lemmas.List.Sorted.{IsPermutation-trans, IsPermutation-sym, length_permutation}
use Rattle.std.proofs.lemmas.Nat.{mul-le}
use Rattle.legs.specs.Blocks.{runs, level, joined, groups}
use Rattle.legs.specs.Boxes.{BoxView, box_of}
use Rattle.legs.specs.Costs.{cost, height, leaves_of, leg_feature}
use Rattle.legs.specs.Hull.{IsPruning, leg_boxes}
use Rattle.legs.specs.Index.{CanFollowInTurn, legs_of}
use Rattle.legs.specs.Legs.{LegView}
use Rattle.tbtree.specs.Descent.{legs_met, pages_met, met_count, IsInOrder, HasInner, sort_by_ordinal, content_of, found_legs, children_met, entries_in, legs_in, node_at, node_in, IsSameTree}
use Rattle.tbtree.specs.Insert.{Stands, IsPlace}
use Rattle.tbtree.specs.Joining.{Holds}
use Rattle.tbtree.specs.Nodes.{EntryView, Node, ALeaf, AnInner, Pages, HasLeaf}
use Rattle.tbtree.specs.Shape.{IsShape}
use Rattle.tbtree.specs.Stands.{owner, pages_of, marks, leaf_of, no_place, head_or_zero, last_or}
use Rattle.tbtree.specs.declared.tree.TbTree.{TbTree}
use Rattle.legs.proofs.BlockLemmas.{all_pass}
use Rattle.legs.proofs.GroupLemmas.{some_none, some_same}
use Rattle.tbtree.proofs.BlockLevels.{one_above}
use Rattle.tbtree.proofs.BoundLemmas.{few_leaves, run_short}
use Rattle.tbtree.proofs.DescentLemmas.{legs_found, all_asked, fewer, inners_met, leaves_met, few_levels, top_block, some_run}
use Rattle.tbtree.proofs.KeyRuns.{runs_permuted}
use Rattle.tbtree.proofs.LawfulBoxes.{lawful}
use Rattle.tbtree.proofs.OrdinalOrder.{IsUp, in_order, up_from_sorted}
use Rattle.tbtree.proofs.OwnRuns.{own_runs}
use Rattle.tbtree.proofs.PlaceLemmas.{as_many}
use Rattle.tbtree.proofs.SortLemmas.{sort_moves, sort_up}
use Rattle.tbtree.proofs.Widening.{nil_cons}

-- each leg's ordinal is its place
ordinals : (before legs : List LegView) → CanFollowInTurn before legs → (i : ℕ) (l : LegView) → slice_get legs i ≡ Some l → l.ordinal ≡ length before + i
ordinals before [] h i l e = absurd (some_none l (sym e))
ordinals before (x ∷ xs) h zero l e = let o = h.0.ordinal in let s : x.ordinal ≡ l.ordinal = ap (λ (l : LegView). l.ordinal) (some_same x l e) in omega (arith, o, s)
ordinals before (x ∷ xs) h (suc i) l e = let o = ordinals (before ++ x ∷ []) xs h.1 i l e in let p = length_push before x in omega (arith, o, p)

abbrev number : LegView → ℕ
number leg = leg.ordinal

-- the way down by a test of boxes, over pages that stand for legs
pub record Descends (meets : BoxView → Bool) (nodes : Pages LegView BoxView) (tree : TbTree)
    (legs : List LegView) : Type 0 where
  -- it finds the legs whose boxes meet
  pub found : (sorted : List LegView)
      → IsInOrder (legs_met leg_boxes meets nodes tree.root tree.levels) sorted
      → sorted ≡ filter (λ leg. meets (box_of leg)) legs
  -- by one page for the root and one for each other block whose box meets
  pub asked : met_count meets nodes tree.root tree.levels
      ≡ cost leg_boxes meets tree.shape.inner (leaves_of tree.shape legs)
  -- each page on it is an inner page of its level, or a leaf at its end
  pub inners : (n k : ℕ) → n + suc (suc k) ≡ tree.levels
      → All (λ p. HasInner nodes p (suc k)) (pages_met meets nodes tree.root n)
  pub leaves : (n : ℕ) → suc n ≡ tree.levels
      → All (λ p. HasLeaf nodes p) (pages_met meets nodes tree.root n)
  -- and there are more pages than are met
  pub fewer : (n : ℕ) → n ≤ tree.levels → met_count meets nodes tree.root n < nodes.count

module _ (meets : BoxView → Bool) (prune : IsPruning leg_boxes meets) (nodes : Pages LegView BoxView) (tree : TbTree) (legs : List LegView) (pages : ℕ → List ℕ) (shape : IsShape tree.shape) (st : Stands nodes tree legs pages) where
  abbrev test : LegView → Bool
  test leg = meets (box_of leg)

  wide : 1 < tree.shape.inner
  wide = let h = shape.least_inner in omega (arith, h)

  some_leaf : 0 < tree.shape.leaf
  some_leaf = let h = shape.least_leaf in omega (arith, h)

  moved : (sorted : List LegView) → IsPermutation (legs_met leg_boxes meets nodes tree.root tree.levels) sorted → IsPermutation (filter test legs) sorted
  moved sorted m =
      let found = legs_found leg_boxes lawful meets prune nodes leg_feature tree.shape.inner tree.levels tree.root wide (leaves_of tree.shape legs) pages st.tree_stands in
      let p = runs_permuted leg_feature tree.shape.leaf test legs some_leaf in
      IsPermutation-trans (filter test legs) (filter test (joined (leaves_of tree.shape legs))) sorted
      (IsPermutation-sym (filter test (joined (leaves_of tree.shape legs))) (filter test legs) p)
      (subst (λ l. IsPermutation l sorted) found m)

  kept : (sorted : List LegView) → IsPermutation (legs_met leg_boxes meets nodes tree.root tree.levels) sorted → IsUp (map number sorted) → sorted ≡ filter test legs
  kept sorted m u = in_order number test legs sorted (λ i l e. ordinals [] legs st.in_turn i l e ∙ omega arith) (moved sorted m) u

  pub descends : Descends meets nodes tree legs
  descends = record {
    found = λ sorted o. kept sorted o.same (up_from_sorted number sorted o.rises);
    asked = all_asked leg_boxes lawful meets prune nodes leg_feature tree.shape.inner tree.levels tree.root wide (leaves_of tree.shape legs) pages st.tree_stands;
    inners = λ n k e. inners_met leg_boxes lawful meets prune nodes leg_feature tree.shape.inner tree.levels tree.root wide (leaves_of tree.shape legs) pages st.tree_stands n k e;
    leaves = λ n e. subst (λ m. All (λ p. HasLeaf nodes p) (pages_met meets nodes tree.root m)) (let z : tree.levels - 1 ≡ n = omega (arith, e) in z)
        (leaves_met leg_boxes lawful meets prune nodes leg_feature tree.shape.inner tree.levels tree.root wide (leaves_of tree.shape legs) pages st.tree_stands (omega (arith, e)));
    fewer = λ n h. fewer leg_boxes lawful meets prune nodes leg_feature tree.shape.inner tree.levels tree.root wide (leaves_of tree.shape legs) pages st.tree_stands n h;
  }

pub content_is : (nodes : Pages LegView BoxView) (tree : TbTree) (legs : List LegView) (pages : ℕ → List ℕ) → IsShape tree.shape → Stands nodes tree legs pages → content_of nodes tree ≡ legs
unfolding found_legs
content_is nodes tree legs pages shape st =
    let met = legs_met leg_boxes (λ _. true) nodes tree.root tree.levels in
    kept (λ _. true) (λ p q e. absurd (true≢false e)) nodes tree legs pages shape st (sort_by_ordinal met) (sort_moves met) (sort_up met)
    ∙ all_pass legs

abbrev weight : Bool → ℕ
weight b = cond b 1 0

-- how many numbers from a on pass, where those below T do
none_pass : (p : ℕ → Bool) (a n T : ℕ) → T ≤ a → ((k : ℕ) → T ≤ k → p k ≡ false) → count_by p (range_with_len a n) ≡ 0
none_pass p a zero T h above = refl
none_pass p a (suc n) T h above =
    let c = sum_by-cons (λ k. weight (p k)) a (range_with_len (a + 1) n) in
    let here : weight (p a) ≡ 0 = ap weight (above a h) in
    let on = none_pass p (a + 1) n T (omega (arith, h)) above in
    omega (arith, c, here, on)

some_pass : (p : ℕ → Bool) (a n T : ℕ) → a ≤ T → T ≤ a + n → ((k : ℕ) → k < T → p k ≡ true) → ((k : ℕ) → T ≤ k → p k ≡ false) → count_by p (range_with_len a n) + a ≡ T
some_pass p a zero T low high below above = omega (arith, low, high)
some_pass p a (suc n) T low high below above =
    let c = sum_by-cons (λ k. weight (p k)) a (range_with_len (a + 1) n) in
    ⊎_elim
    (λ (h : a < T).
    let here : weight (p a) ≡ 1 = ap weight (below a h) in
    let on = some_pass p (a + 1) n T (omega (arith, h)) (omega (arith, high)) below above in
    omega (arith, c, here, on))
    (λ (h : T ≤ a). let z = none_pass p a (suc n) T h above in omega (arith, z, h, low))
    (cases_lt a T)

module _ (nodes : Pages LegView BoxView) (tree : TbTree) (legs : List LegView) (pages : ℕ → List ℕ) (shape : IsShape tree.shape) (st : Stands nodes tree legs pages) where
  abbrev leaves' : List (List LegView)
  leaves' = leaves_of tree.shape legs

  high : 1 < tree.shape.inner
  high = let h = shape.least_inner in omega (arith, h)

  pub height_is : tree.levels - 1 ≡ height tree.shape.inner leaves'
  height_is =
      let t = st.tree_stands in
      let n = t.numbers in
      ⊎_elim
      (λ (h : 0 < tree.levels).
      let T = tree.levels - 1 in
      let e : suc T ≡ tree.levels = omega (arith, h) in
      let test : ℕ → Bool = λ k. nat_lt 1 (length (level tree.shape.inner k leaves')) in
      let top = top_block leg_boxes lawful (λ _. true) (λ p q e. absurd (true≢false e)) nodes leg_feature tree.shape.inner tree.levels tree.root high leaves' pages t T e in
      let some = some_run leg_boxes lawful (λ _. true) (λ p q e. absurd (true≢false e)) nodes leg_feature tree.shape.inner tree.levels tree.root high leaves' pages t T e in
      let few = few_levels leg_boxes lawful (λ _. true) (λ p q e. absurd (true≢false e)) nodes leg_feature tree.shape.inner tree.levels tree.root high leaves' pages t T e in
      let c = some_pass test 0 (length leaves') T (omega arith) (omega (arith, few))
      (λ k l. lt-ltb 1 (length (level tree.shape.inner k leaves')) (n.below_top k (omega (arith, l))))
      (λ k l. le-ltb 1 (length (level tree.shape.inner k leaves')) (let o = one_above tree.shape.inner high leaves' T k some top l in omega (arith, o))) in
      omega (arith, c))
      (λ (h : tree.levels ≤ 0). let z : tree.levels ≡ 0 = omega (arith, h) in
      (let y : tree.levels - 1 ≡ 0 = omega (arith, h) in y) ∙ sym (ap (height tree.shape.inner) (n.empty z).0))
      (cases_lt 0 tree.levels)

short_joined : (n : ℕ) (rs : List (List LegView)) → ((i : ℕ) (r : List LegView) → slice_get rs i ≡ Some r → length r ≤ n) → length (joined rs) ≤ length rs * n
short_joined n [] h = omega arith
short_joined n (r ∷ rs) h =
    let here = h 0 r refl in
    let on = short_joined n rs (λ i. h (suc i)) in
    let split : suc (length rs) * n ≡ n + length rs * n = omega arith in
    let sum = length-append r (joined rs) in
    omega (arith, here, on, split, sum)

runs_short : (n : ℕ) (legs : List LegView) → 0 < n → (i : ℕ) (r : List LegView) → slice_get (runs leg_feature n legs) i ≡ Some r → length r ≤ n
runs_short zero legs h i r e = absurd (omega (arith, h))
runs_short (suc m) legs h i r e = run_short leg_feature m [] legs i r e

pub held_fit : (nodes : Pages LegView BoxView) (tree : TbTree) (legs : List LegView) (pages : ℕ → List ℕ) → IsShape tree.shape → Holds nodes tree legs pages → length legs ≤ nodes.count * tree.shape.leaf
held_fit nodes tree legs pages shape st =
    let n = st.tree_stands.numbers in
    let rs = leaves_of tree.shape legs in
    let some : 0 < tree.shape.leaf = let h = shape.least_leaf in omega (arith, h) in
    let p = length_permutation (filter (λ _. true) (joined rs)) (filter (λ _. true) legs) (runs_permuted leg_feature tree.shape.leaf (λ _. true) legs some) in
    let a : length (filter (λ _. true) legs) ≡ length legs = ap length (all_pass legs) in
    let b : length (filter (λ _. true) (joined rs)) ≡ length (joined rs) = ap length (all_pass (joined rs)) in
    let c = short_joined tree.shape.leaf rs (runs_short tree.shape.leaf legs some) in
    let d = as_many tree.shape.inner tree.levels tree.root nodes.count rs pages n in
    let few = few_leaves tree.shape.inner tree.levels tree.root nodes.count rs pages n in
    let e : length rs * tree.shape.leaf ≤ nodes.count * tree.shape.leaf = mul-le (length rs) tree.shape.leaf nodes.count tree.shape.leaf (omega (arith, d, few)) (omega arith) in
    omega (arith, p, a, b, c, e)

pub legs_fit : (nodes : Pages LegView BoxView) (tree : TbTree) (legs : List LegView) (pages : ℕ → List ℕ) → IsShape tree.shape → Stands nodes tree legs pages → length legs ≤ nodes.count * tree.shape.leaf
legs_fit nodes tree legs pages shape st = held_fit nodes tree legs pages shape (record { tree_stands = st.tree_stands; leaves_are = st.leaves_are })

-- no page is of a feature that has no run
no_pages : (f : ℕ) (rs : List (List LegView)) (ps : List ℕ) → filter (λ r. owner leg_feature r == f) rs ≡ [] → pages_of f (marks leg_feature rs ps) ≡ []
no_pages f [] ps e = refl
no_pages f (r ∷ rs) [] e = refl
no_pages f (r ∷ rs) (p ∷ ps) e =
    (elim (owner leg_feature r == f) as (λ v. cond v (r ∷ filter (λ r. owner leg_feature r == f) rs) (filter (λ r. owner leg_feature r == f) rs) ≡ [] → cond v (p ∷ pages_of f (marks leg_feature rs ps)) (pages_of f (marks leg_feature rs ps)) ≡ []) [
      | true ↦ λ e. absurd (nil_cons r (filter (λ r. owner leg_feature r == f) rs) (sym e))
      | false ↦ λ e. no_pages f rs ps e
    ]) e

pub none_of : (tree : TbTree) (legs : List LegView) (pages : ℕ → List ℕ) (f : ℕ) → IsShape tree.shape → legs_of f legs ≡ [] → IsPlace tree legs pages f no_place
none_of tree legs pages f shape e =
    let some : 0 < tree.shape.leaf = let h = shape.least_leaf in omega (arith, h) in
    let rs = leaves_of tree.shape legs in
    let own : filter (λ r. owner leg_feature r == f) rs ≡ [] = own_runs leg_feature tree.shape.leaf f legs some ∙ ap (groups tree.shape.leaf) e in
    let z : pages_of f (marks leg_feature rs (pages 0)) ≡ [] = no_pages f rs (pages 0) own in
    record {
      first = sym (ap head_or_zero z);
      last = sym (ap (last_or 0) z);
      legs_are = sym (ap length e) ∙ length-filter (λ l. leg_feature l == f) legs;
      last_index = λ h. absurd (omega (arith, h));
      none = λ h. (refl, refl, refl);
    }

pub absent_is : (nodes : Pages LegView BoxView) (tree : TbTree) (legs : List LegView) (pages : ℕ → List ℕ) (f : ℕ) → IsShape tree.shape → Stands nodes tree legs pages → legs_of f legs ≡ [] → IsPlace tree legs pages f no_place
absent_is nodes tree legs pages f shape st e = none_of tree legs pages f shape e

module _ {L B : Type 0} where
  abbrev entries_of : Option (Node L B) → List (EntryView B)
  entries_of (Some (AnInner page)) = page.entries
  entries_of (Some (ALeaf leaf)) = []
  entries_of None = []

  abbrev legs_of_node : Option (Node L B) → List L
  legs_of_node (Some (ALeaf leaf)) = leaf.legs
  legs_of_node (Some (AnInner page)) = []
  legs_of_node None = []

  by_entries : (x : Option (Option (Node L B))) → entries_in x ≡ entries_of (node_in x)
  by_entries (Some (Some (AnInner page))) = refl
  by_entries (Some (Some (ALeaf leaf))) = refl
  by_entries (Some None) = refl
  by_entries None = refl

  by_legs : (x : Option (Option (Node L B))) → legs_in x ≡ legs_of_node (node_in x)
  by_legs (Some (Some (AnInner page))) = refl
  by_legs (Some (Some (ALeaf leaf))) = refl
  by_legs (Some None) = refl
  by_legs None = refl

  said : (x : Option (Option (Node L B))) (n : Node L B) → node_in x ≡ Some n → x ≡ Some (Some n)
  said (Some o) n e = ap Some e
  said None n e = absurd (some_none n (sym e))

module _ (old new : Pages LegView BoxView) (t : IsSameTree old new) where
  same_nodes : (p : ℕ) → node_in (node_at new p) ≡ node_in (node_at old p)
  same_nodes zero = refl
  same_nodes (suc p) = t.rest (suc p) (omega arith)

  same_entries : (p : ℕ) → entries_in (node_at new p) ≡ entries_in (node_at old p)
  same_entries p = by_entries (node_at new p) ∙ ap entries_of (same_nodes p) ∙ sym (by_entries (node_at old p))

  same_legs_in : (p : ℕ) → legs_in (node_at new p) ≡ legs_in (node_at old p)
  same_legs_in p = by_legs (node_at new p) ∙ ap legs_of_node (same_nodes p) ∙ sym (by_legs (node_at old p))

  same_pages : (meets : BoxView → Bool) (root n : ℕ) → pages_met meets new root n ≡ pages_met meets old root n
  unfolding children_met
  same_pages meets root zero = refl
  same_pages meets root (suc n) = λ i. flat_map (λ p. map (λ (e : EntryView BoxView). e.child) (filter (λ e. meets e.bounds) (same_entries p i))) (same_pages meets root n i)

  same_legs : (meets : BoxView → Bool) (root levels : ℕ) → legs_met leg_boxes meets new root levels ≡ legs_met leg_boxes meets old root levels
  same_legs meets root zero = refl
  same_legs meets root (suc n) = λ i. flat_map (λ p. filter (λ leg. meets (leg_boxes.of leg)) (same_legs_in p i)) (same_pages meets root n i)

  pub same_found : (tree : TbTree) (meets : BoxView → Bool) → found_legs meets new tree ≡ found_legs meets old tree
  unfolding found_legs
  same_found tree meets = ap sort_by_ordinal (same_legs meets tree.root tree.levels)

  -- what a page above page 0 says of a tree, it still says
  still : (p : ℕ) (n : Node LegView BoxView) → 0 < p → old.at p ≡ Some (Some n) → new.at p ≡ Some (Some n)
  still p n h e = said (new.at p) n (t.rest p h ∙ ap node_in e)

  pub still_stands : (tree : TbTree) (legs : List LegView) (pages : ℕ → List ℕ) → Stands old tree legs pages → Stands new tree legs pages
  still_stands tree legs pages s =
      let tr = s.tree_stands in
      let n = tr.numbers in
      let more = t.count in
      record {
        in_turn = s.in_turn;
        leaves_are = s.leaves_are;
        tree_stands = record {
          held = λ p l e. let h = t.held p l e in tr.held p h.0 h.1;
          numbers = record {
            page_0 = (let z = n.page_0 in omega (arith, z, more));
            one_each = n.one_each;
            no_more = n.no_more;
            below_top = n.below_top;
            top = n.top;
            empty = n.empty;
            within = λ k j p e. let w = n.within k j p e in (w.0, omega (arith, w.1, more));
            apart = n.apart;
          };
          leaves = λ i p r e f. still p (ALeaf (leaf_of (owner leg_feature r) (marks leg_feature (leaves_of tree.shape legs) (pages 0)) i r)) (n.within 0 i p e).0 (tr.leaves i p r e f);
          inners = λ k j p e. let h = tr.inners k j p e in record { page = h.page; is = still p (AnInner h.page) (n.within (suc k) j p e).0 h.is; height_is = h.height_is; children_are = h.children_are; boxes_are = h.boxes_are };
        };
      }
