-- Pages that hold a list of legs pass a check: the chain of each feature has its leaves in the order of the tree.
use Rattle.std.proofs.Common.{◌≡◌, ℕ, suc, ◌+◌, ◌<◌, ◌≤◌, List, [], ◌∷◌, ◌++◌, length, map, take, drop, Some, None, slice_get, refl, sym, ap, ◌∙◌, arith, subst, ⊎_elim}
use Rattle.std.specs.List.{filter, range_with_len}
use Rattle.std.specs.List.Sorted.{IsPermutation}
use Rattle.std.specs.Option.{option_map}
use Rattle.std.proofs.lemmas.Bool.{cases_lt, eqb-true}
use Rattle.std.proofs.lemmas.List.{length-map}
use Rattle.std.proofs.lemmas.List.FromFn.{length-map-range_with_len}
use Rattle.std.proofs.lemmas.List.Sorted.{IsPermutation-map}
use Rattle.std.proofs.lemmas.List.Sums.{length-filter}
use Rattle.legs.specs.Blocks.{groups, joined}
use Rattle.legs.specs.Boxes.{BoxView}
use Rattle.legs.specs.Costs.{leg_feature, leaves_of}
use Rattle.legs.specs.Hull.{leg_boxes}
use Rattle.legs.specs.Index.{is_of, legs_of}
use Rattle.legs.specs.Legs.{LegView}
use Rattle.legs.specs.declared.tracks.Track.{Track}
use Rattle.treecheck.specs.Check.{HoldChains, legs_on, first_on, AreLeavesFrom, AreLeavesOf, AreChains, IsChecked, IsTreeOver, HoldLegs}
use Rattle.tbtree.specs.Turn.{first_ordinal, last_leg, ComeInTurn, IsRising}
use Rattle.tbtree.specs.Descent.{legs_in}
use Rattle.tbtree.specs.Nodes.{Pages, ALeaf}
use Rattle.tbtree.specs.Stands.{owner, marks, pages_of, head_or_zero, last_or, leaf_of, TreeStands}
use Rattle.tbtree.specs.declared.tree.Place.{Place}
use Rattle.tbtree.specs.declared.tree.TbTree.{TbTree}
use Rattle.treecheck.proofs.CheckLemmas.{get_of_map, get_map, get_few, runs_rising}
use Rattle.treecheck.proofs.CheckTree.{level_map}
use Rattle.legs.proofs.GroupLemmas.{some_same}
use Rattle.treecheck.proofs.HeldChains.{same_map, map_none, rising_unmap, flat_joined, filter_of, owned_range, get_range, rising_range, joined_groups, length_none, AreLinked, leaves_from, chains_from}
use Rattle.tbtree.proofs.HeldLemmas.{split_filter, come_in_turn, numbers_are, numbers_rise, firsts_rise, none_beyond}
use Rattle.tbtree.proofs.KeyRuns.{is, gathered}
use Rattle.treecheck.proofs.LeafChains.{legs_at, own, pair, marks_pair, pages_own, take_pair, drop_pair, filter_legs}
use Rattle.tbtree.proofs.OwnRuns.{own_runs}
use Rattle.tbtree.proofs.OwnedLists.{AreOwned, joined_map, owned_at, owned_beyond}
use Rattle.tbtree.proofs.PlaceLemmas.{as_many}
use Rattle.tbtree.proofs.SortLemmas.{number}
use Rattle.tbtree.proofs.TurnLemmas.{ends_at, get_split}

take_split : {X : Type 0} (xs : List X) (x : X) (ys : List X) → take (length xs) (xs ++ x ∷ ys) ≡ xs
take_split [] x ys = refl
take_split (z ∷ xs) x ys = ap (λ l. z ∷ l) (take_split xs x ys)

drop_split : {X : Type 0} (xs : List X) (x : X) (ys : List X) → drop (suc (length xs)) (xs ++ x ∷ ys) ≡ ys
drop_split [] x ys = refl
drop_split (z ∷ xs) x ys = drop_split xs x ys

module _ (nodes : Pages LegView BoxView) (tree : TbTree) (rows total : ℕ) (places : List Place) (tracks : List Track) (some_leaf : 0 < tree.shape.leaf) (c : HoldLegs nodes tree rows total places tracks) where
  abbrev n : ℕ
  n = tree.shape.leaf

  abbrev order : List ℕ
  order = c.pages 0

  abbrev rs : List (List LegView)
  rs = map (legs_at nodes) order

  -- each leaf has its run
  runs_are : rs ≡ leaves_of tree.shape c.legs
  runs_are =
      let t = c.stands.tree_stands in
      let runs = leaves_of tree.shape c.legs in
      same_map (legs_at nodes) order runs (as_many tree.shape.inner tree.levels tree.root nodes.count runs c.pages t.numbers) (λ i p r e g. ap legs_in (t.leaves i p r e g))

  tree_stands : TreeStands leg_boxes leg_feature tree.shape.inner tree.levels tree.root nodes rs c.pages
  tree_stands = subst (λ rs. TreeStands leg_boxes leg_feature tree.shape.inner tree.levels tree.root nodes rs c.pages) (sym runs_are) c.stands.tree_stands

  marks_are : marks leg_feature (leaves_of tree.shape c.legs) order ≡ map (pair nodes) order
  marks_are = ap (λ r. marks leg_feature r order) (sym runs_are) ∙ marks_pair nodes order

  -- the pages of a feature
  abbrev chain : ℕ → List ℕ
  chain f = filter (is (own nodes) f) order

  pages_are : (f : ℕ) → pages_of f (marks leg_feature (leaves_of tree.shape c.legs) order) ≡ chain f
  pages_are f = ap (pages_of f) marks_are ∙ pages_own nodes f order

  chain_groups : (f : ℕ) → map (legs_at nodes) (chain f) ≡ groups n (legs_of f c.legs)
  chain_groups f = sym (filter_legs nodes f order) ∙ ap (filter (is (owner leg_feature) f)) runs_are ∙ own_runs leg_feature n f c.legs some_leaf

  chain_legs : (f : ℕ) → legs_on nodes (chain f) ≡ legs_of f c.legs
  chain_legs f = flat_joined (legs_at nodes) (chain f) ∙ ap joined (chain_groups f) ∙ joined_groups n (legs_of f c.legs) some_leaf

  chain_none : (f : ℕ) → length places ≤ f → chain f ≡ []
  chain_none f l = map_none (legs_at nodes) (chain f) (chain_groups f ∙ ap (groups n) (none_beyond c.legs f (let k = c.features in omega (arith, k, l))))

  -- a leaf of a feature, by the feature's pages before and after it
  linked : (f : ℕ) → AreLinked nodes f 0 (chain f)
  linked f xs p ys e =
      let s = split_filter (is (own nodes) f) order xs p ys e in
      let i = length s.before in
      let mine : own nodes p ≡ f = eqb-true (own nodes p) f s.passes in
      let here : slice_get order i ≡ Some p = ap (λ l. slice_get l i) s.is ∙ get_split s.before p s.after in
      let within = tree_stands.numbers.within 0 i p here in
      let leaf = tree_stands.leaves i p (legs_at nodes p) here (get_map (legs_at nodes) order i p here) in
      let ms = marks leg_feature rs order in
      let before : pages_of f (take i ms) ≡ xs = ap (λ l. pages_of f (take i l)) (marks_pair nodes order) ∙ ap (pages_of f) (take_pair nodes i order) ∙ pages_own nodes f (take i order)
      ∙ ap (λ l. filter (is (own nodes) f) (take i l)) s.is ∙ ap (filter (is (own nodes) f)) (take_split s.before p s.after) ∙ s.firsts_are in
      let after : pages_of f (drop (suc i) ms) ≡ ys = ap (λ l. pages_of f (drop (suc i) l)) (marks_pair nodes order) ∙ ap (pages_of f) (drop_pair nodes (suc i) order) ∙ pages_own nodes f (drop (suc i) order)
      ∙ ap (λ l. filter (is (own nodes) f) (drop (suc i) l)) s.is ∙ ap (filter (is (own nodes) f)) (drop_split s.before p s.after) ∙ s.rest_are in (
        within.0,
        within.1,
        leaf
            ∙ (λ j. Some (Some (ALeaf (leaf_of (mine j) ms i (legs_at nodes p)))))
            ∙ (λ j. Some (Some (ALeaf (record { feature = f; previous = last_or 0 (before j); next = head_or_zero (after j); legs = legs_at nodes p })))),
      )

  leaves_are : (f : ℕ) (place : Place) (track : Track) → slice_get places f ≡ Some place → slice_get tracks f ≡ Some track → AreLeavesOf nodes n rows f place track (chain f)
  leaves_are f place track e g =
      let at = c.placed f place e in
      let of = c.tracked f track g in
      let turn = come_in_turn f rows c.legs c.stands.in_turn c.in_rows in
      let first : head_or_zero (chain f) ≡ place.first = ap head_or_zero (sym (pages_are f)) ∙ sym at.first in
      let left : length (legs_of f c.legs) ≡ place.legs = length-filter (is_of f) c.legs ∙ sym at.legs_are in
      record {
        leaves = subst (λ page. AreLeavesFrom nodes n f 0 page place.legs (chain f)) first
            (subst (λ left. AreLeavesFrom nodes n f 0 (head_or_zero (chain f)) left (chain f)) left (leaves_from nodes n f 0 (chain f) (legs_of f c.legs) some_leaf (linked f) (chain_groups f)));
        last = ap (last_or 0) (sym (pages_are f)) ∙ sym at.last;
        in_turn = subst (ComeInTurn f rows None) (sym (chain_legs f)) turn;
        end = λ leg h. some_same leg.t1 track.end
            (ap (λ l. option_map (λ (leg : LegView). leg.t1) l) (sym h ∙ ap (last_leg None) (chain_legs f)) ∙ sym (ends_at f c.legs) ∙ of.end);
        legs = sym of.count ∙ sym at.legs_are;
      }

  abbrev chains : List (List ℕ)
  chains = map chain (range_with_len 0 (length places))

  are_chains : AreChains nodes n rows 0 places tracks chains
  are_chains = chains_from nodes n rows chain 0 places tracks c.paired
      (λ i g place track s e h. (let q : i ≡ g = omega (arith, s) in subst (λ g. AreLeavesOf nodes n rows g place track (chain g)) q (leaves_are i place track e h)))

  some_legs : (f : ℕ) (place : Place) → slice_get places f ≡ Some place → 0 < place.legs
  some_legs f place e =
      let at = c.placed f place e in
      let left : length (legs_of f c.legs) ≡ place.legs = length-filter (is_of f) c.legs ∙ sym at.legs_are in
      ⊎_elim
      (λ (l : 0 < place.legs). l)
      (λ (l : place.legs ≤ 0). absurd (c.led f (get_few places f place e) (length_none (legs_of f c.legs) (omega (arith, l, left)))))
      (cases_lt 0 place.legs)

  -- the pages in chains are those of the tree
  ordered : IsPermutation (joined chains) order
  ordered = gathered (own nodes) (joined chains) order each
    where
      owned : AreOwned (own nodes) 0 chains
      owned = owned_range (own nodes) chain 0 (length places) (λ f. filter_of (own nodes) f order)

      each : (f : ℕ) → filter (is (own nodes) f) (joined chains) ≡ chain f
      each f =
          ⊎_elim
          (λ (l : f < length places). owned_at (own nodes) f 0 f chains (chain f) owned (get_range chain 0 (length places) f f l (omega arith)) (omega arith))
          (λ (l : length places ≤ f). owned_beyond (own nodes) f 0 chains owned (let m = length-map-range_with_len chain 0 (length places) in omega (arith, m, l)) ∙ sym (chain_none f l))
          (cases_lt f (length places))

  abbrev lists : List (List LegView)
  lists = map (legs_on nodes) chains

  -- the legs in chains are those that the pages hold
  moved : IsPermutation (legs_on nodes (joined chains)) c.legs
  moved = gathered leg_feature (legs_on nodes (joined chains)) c.legs each
    where
      same_lists : (ns : List ℕ) → map (legs_on nodes) (map chain ns) ≡ map (λ f. legs_of f c.legs) ns
      same_lists [] = refl
      same_lists (f ∷ ns) = λ i. chain_legs f i ∷ same_lists ns i

      are : lists ≡ map (λ f. legs_of f c.legs) (range_with_len 0 (length places))
      are = same_lists (range_with_len 0 (length places))

      owned : AreOwned leg_feature 0 lists
      owned = subst (AreOwned leg_feature 0) (sym are) (owned_range leg_feature (λ f. legs_of f c.legs) 0 (length places) (λ f. filter_of leg_feature f c.legs))

      each : (f : ℕ) → filter (is leg_feature f) (legs_on nodes (joined chains)) ≡ legs_of f c.legs
      each f =
          ap (filter (is leg_feature f)) (sym (joined_map (legs_at nodes) chains))
          ∙ ⊎_elim
          (λ (l : f < length places). owned_at leg_feature f 0 f lists (legs_of f c.legs) owned (ap (λ l. slice_get l f) are ∙ get_range (λ f. legs_of f c.legs) 0 (length places) f f l (omega arith)) (omega arith))
          (λ (l : length places ≤ f).
          owned_beyond leg_feature f 0 lists owned (let m = length-map chains (legs_on nodes) in let k = length-map-range_with_len chain 0 (length places) in omega (arith, m, k, l))
          ∙ sym (none_beyond c.legs f (let k = c.features in omega (arith, k, l))))
          (cases_lt f (length places))

  once : IsPermutation (map number (legs_on nodes (joined chains))) (range_with_len 0 (length c.legs))
  once = subst (IsPermutation (map number (legs_on nodes (joined chains)))) (numbers_are c.legs c.stands.in_turn) (IsPermutation-map number (legs_on nodes (joined chains)) c.legs moved)

  firsts : IsRising (λ pages. first_ordinal (legs_on nodes pages)) chains
  firsts = rising_range (λ pages. first_ordinal (legs_on nodes pages)) chain 0 (length places) rise
    where
      rise : (f g : ℕ) → f < g → g < 0 + length places → first_ordinal (legs_on nodes (chain f)) < first_ordinal (legs_on nodes (chain g))
      rise f g l k =
          let low = firsts_rise c.legs c.stands.in_turn f g l (c.led g (omega (arith, k))) in
          let a : first_ordinal (legs_on nodes (chain f)) ≡ first_ordinal (legs_of f c.legs) = ap first_ordinal (chain_legs f) in
          let b : first_ordinal (legs_on nodes (chain g)) ≡ first_ordinal (legs_of g c.legs) = ap first_ordinal (chain_legs g) in
          omega (arith, low, a, b)

  rises : IsRising (first_on nodes) order
  rises = rising_unmap (legs_at nodes) first_ordinal order (subst (IsRising first_ordinal) (sym runs_are) (runs_rising n c.legs some_leaf (numbers_rise c.legs c.stands.in_turn)))

  over : IsTreeOver nodes tree order c.pages
  over =
      let m = tree_stands.numbers in
      record {
        leaves_are = c.stands.leaves_are ∙ sym (ap length runs_are) ∙ length-map order (legs_at nodes);
        base = λ l. refl;
        one_each = λ k l. m.one_each k l ∙ level_map (legs_at nodes) tree.shape.inner k order;
        no_more = m.no_more;
        below_top = λ k l. (let a = m.below_top k l in let b = level_map (legs_at nodes) tree.shape.inner k order in omega (arith, a, b));
        top = λ k e. (let t = m.top k e in (sym (level_map (legs_at nodes) tree.shape.inner k order) ∙ t.0, t.1));
        empty = λ e. (let t = m.empty e in (map_none (legs_at nodes) order t.0, t.1));
        within = m.within;
        inners = tree_stands.inners;
      }

  last_index : (f : ℕ) (place : Place) → slice_get places f ≡ Some place → slice_get order place.last_index ≡ Some place.last
  last_index f place e =
      let at = (c.placed f place e).last_index (some_legs f place e) in
      let r = get_of_map (pair nodes) order place.last_index (f, place.last) (ap (λ l. slice_get l place.last_index) (sym marks_are) ∙ at.0) in
      r.1 ∙ ap Some (ap (λ (m : ℕ × ℕ). m.1) r.2)

  pub checked : IsChecked nodes tree rows total places tracks
  checked = record {
    page_0 = tree_stands.numbers.page_0;
    held = tree_stands.held;
    chains = chains;
    are_chains = are_chains;
    some = some_legs;
    once = subst (λ n. IsPermutation (map number (legs_on nodes (joined chains))) (range_with_len 0 n)) c.counted once;
    firsts = firsts;
    order = order;
    ordered = ordered;
    rises = rises;
    pages = c.pages;
    over = over;
    last_index = last_index;
  }

  -- what the chains hold are the legs
  pub chains_hold : HoldChains nodes n rows total places tracks c.legs
  chains_hold = record {
    chains = chains;
    are_chains = are_chains;
    some = some_legs;
    moved = moved;
    numbered = numbers_are c.legs c.stands.in_turn ∙ ap (range_with_len 0) c.counted;
    firsts = firsts;
  }
