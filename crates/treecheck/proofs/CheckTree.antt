-- Pages that a check finds whole hold a list of legs: their tree, and the places and tracks of its features.
use Rattle.std.proofs.Common.{◌≡◌, ◌≢◌, ℕ, zero, suc, ◌+◌, ◌-◌, ◌*◌, ◌^◌, ◌<◌, ◌≤◌, List, [], ◌∷◌, ◌++◌, length, map, take, drop, Option, Some, None, slice_get, refl, sym, ap, ◌∙◌, arith, subst, ⊎_elim}
use Rattle.std.specs.List.{filter, count_by, range_with_len}
use Rattle.std.specs.Option.{option_map}
use Rattle.std.specs.Cmp.{nat_eq_equiv}
use Rattle.std.proofs.lemmas.Bool.{cases_lt, cases_eq}
use Rattle.std.proofs.lemmas.List.{length-map}
use Rattle.std.proofs.lemmas.List.Sums.{length-filter}
use Rattle.legs.specs.Blocks.{block, level}
use Rattle.legs.specs.Boxes.{BoxView}
use Rattle.legs.specs.Costs.{leg_feature, leaves_of}
use Rattle.legs.specs.Hull.{leg_boxes}
use Rattle.legs.specs.Index.{feature_count, is_of, legs_of}
use Rattle.legs.specs.Legs.{LegView}
use Rattle.legs.specs.Tracks.{IsTrack}
use Rattle.legs.specs.declared.tracks.Track.{Track}
use Rattle.treecheck.specs.Check.{legs_on, first_on, IsChecked, HoldLegs}
use Rattle.tbtree.specs.Turn.{first_ordinal, last_leg, IsRising}
use Rattle.tbtree.specs.Insert.{IsPlace, Stands}
use Rattle.tbtree.specs.Nodes.{Pages, InnerView, children}
use Rattle.tbtree.specs.Shape.{IsShape}
use Rattle.tbtree.specs.Stands.{marks, pages_of, page_at, head_or_zero, last_or, LeavesStand, NumbersStand, TreeStands}
use Rattle.tbtree.specs.declared.tree.Place.{Place}
use Rattle.tbtree.specs.declared.tree.TbTree.{TbTree}
use Rattle.legs.proofs.BlockLemmas.{groups-map}
use Rattle.legs.proofs.GroupLemmas.{some_none, some_same, group_beyond, get-take, get-drop}
use Rattle.tbtree.proofs.BlockLevels.{groups_of_level}
use Rattle.treecheck.proofs.CheckLemmas.{get_map, get_some, get_few, none_behind, legs, numbers, chain, own_legs, few, led, not_none, as_many, legs_in_turn, runs_are, runs_rising, legs_rise, leaves_stand, own_pages, leaf_firsts, first_is, Chain, turn_row, order_chain, as_many_places, h}
use Rattle.tbtree.proofs.KeyRuns.{is}
use Rattle.treecheck.proofs.LeafChains.{legs_at, own, pair, marks_pair, pages_own, drop_pair, all_legs, leaves_own}
use Rattle.tbtree.proofs.OwnedLists.{of_get}
use Rattle.tbtree.proofs.RisingLists.{rising_once, not_own, in_filter}
use Rattle.tbtree.proofs.SortLemmas.{number}
use Rattle.tbtree.proofs.TurnLemmas.{counted, count_most, ends_at, turn_rising}
use Rattle.tbtree.proofs.Widening.{leaf_inner, inner_same, nil_cons}

-- a level has as many blocks, whatever it is of
pub level_map : {X Y : Type 0} (h : X → Y) (inner k : ℕ) (xs : List X) → length (level inner k (map h xs)) ≡ length (level inner k xs)
level_map h inner k xs = ap length (groups-map h (inner ^ k) [] xs) ∙ length-map (level inner k xs) (map h)

times_same : (n a b : ℕ) → 0 < n → a * n ≡ b * n → a ≡ b
times_same n a b h e = ⊎_elim (λ (l : a < b). absurd (more a b l e)) (λ (l : b ≤ a). ⊎_elim (λ (k : b < a). absurd (more b a k (sym e))) (λ (k : a ≤ b). omega (arith, l, k)) (cases_lt b a)) (cases_lt a b)
  where
    mul_add : (a d : ℕ) → (a + d) * n ≡ a * n + d * n
    mul_add a d = omega arith

    more : (a b : ℕ) → a < b → a * n ≡ b * n → ⊥
    more a b l e =
        let d = b - a - 1 in
        let s : b ≡ a + suc d = omega (arith, l) in
        let t : b * n ≡ a * n + suc d * n = ap (λ b. b * n) s ∙ mul_add a (suc d) in
        let u : suc d * n ≡ n + d * n = omega arith in
        omega (arith, t, u, e, h)

some_last : (d : Option LegView) (legs : List LegView) → 0 < length legs → (leg : LegView) × (last_leg d legs ≡ Some leg)
some_last d [] l = absurd (omega (arith, l))
some_last d (x ∷ []) l = (x, refl)
some_last d (x ∷ y ∷ legs) l = some_last (Some x) (y ∷ legs) (omega arith)

length-range : (a n : ℕ) → length (range_with_len a n) ≡ n
length-range a zero = refl
length-range a (suc n) = ap (λ n. suc n) (length-range (a + 1) n)

module _ (nodes : Pages LegView BoxView) (tree : TbTree) (rows total : ℕ) (places : List Place) (tracks : List Track) (shape : IsShape tree.shape) (c : IsChecked nodes tree rows total places tracks) where
  abbrev inner : ℕ
  inner = tree.shape.inner

  some_inner : 0 < inner
  some_inner = let l = shape.least_inner in omega (arith, l)

  abbrev rs : List (List LegView)
  rs = map (legs_at nodes) c.order

  pub base : c.pages 0 ≡ c.order
  base =
      ⊎_elim
      (λ (l : 0 < tree.levels). c.over.base l)
      (λ (l : tree.levels ≤ 0). c.over.no_more 0 l ∙ sym ((c.over.empty (omega (arith, l))).0))
      (cases_lt 0 tree.levels)

  runs_up : IsRising first_ordinal rs
  runs_up = subst (IsRising first_ordinal) (sym (runs_are nodes tree rows total places tracks shape c)) (runs_rising tree.shape.leaf (legs nodes tree rows total places tracks shape c) (h nodes tree rows total places tracks shape c) (legs_rise nodes tree rows total places tracks shape c))

  leaf_once : (i j p : ℕ) → slice_get c.order i ≡ Some p → slice_get c.order j ≡ Some p → i ≡ j
  leaf_once i j p e g = rising_once first_ordinal rs i j (legs_at nodes p) (legs_at nodes p) runs_up (get_map (legs_at nodes) c.order i p e) (get_map (legs_at nodes) c.order j p g) refl

  below_levels : (k j p : ℕ) → page_at c.pages k j ≡ Some p → k < tree.levels
  below_levels k j p e =
      ⊎_elim (λ (l : k < tree.levels). l)
      (λ (l : tree.levels ≤ k). absurd (some_none p (sym (ap (λ l. slice_get l j) (sym (c.over.no_more k l)) ∙ e))))
      (cases_lt k tree.levels)

  -- the first child of a page of a level
  first_child : (k j p : ℕ) → page_at c.pages (suc k) j ≡ Some p → (q : ℕ) × (page_at c.pages k (j * inner) ≡ Some q) × (slice_get (block inner j (c.pages k)) 0 ≡ Some q)
  first_child k j p e =
      let l : suc k < tree.levels = below_levels (suc k) j p e in
      let jl : j < length (c.pages (suc k)) = get_few (c.pages (suc k)) j p e in
      let up : length (c.pages (suc k)) ≡ length (level inner (suc k) c.order) = c.over.one_each (suc k) l in
      let low : length (c.pages k) ≡ length (level inner k c.order) = c.over.one_each k (omega (arith, l)) in
      let g = groups_of_level inner some_inner c.order k in
      let w : j * inner < length (level inner k c.order) = group_beyond inner (level inner k c.order) j some_inner (omega (arith, jl, up, g)) in
      let q = get_some (c.pages k) (j * inner) (omega (arith, w, low)) in
      (q.0, q.1, get-take inner (drop (j * inner) (c.pages k)) 0 some_inner ∙ get-drop (j * inner) (c.pages k) 0 (j * inner) (omega arith) ∙ q.1)

  one_page : (k i j p : ℕ) → page_at c.pages k i ≡ Some p → page_at c.pages k j ≡ Some p → i ≡ j
  one_page zero i j p e g = leaf_once i j p (ap (λ l. slice_get l i) (sym base) ∙ e) (ap (λ l. slice_get l j) (sym base) ∙ g)
  one_page (suc k) i j p e g =
      let a = c.over.inners k i p e in
      let b = c.over.inners k j p g in
      let same : a.page ≡ b.page = inner_same LegView a.page b.page (some_same _ _ (sym a.is ∙ b.is)) in
      let x = first_child k i p e in
      let y = first_child k j p g in
      let blocks : block inner i (c.pages k) ≡ block inner j (c.pages k) = sym a.children_are ∙ ap children same ∙ b.children_are in
      let q : x.0 ≡ y.0 = some_same x.0 y.0 (sym x.2 ∙ ap (λ l. slice_get l 0) blocks ∙ y.2) in
      times_same inner i j some_inner (one_page k (i * inner) (j * inner) x.0 x.1 (y.1 ∙ ap Some (sym q)))

  abbrev apart_at : (k j k' j' : ℕ) → Type 0
  apart_at k j k' j' = (p : ℕ) → page_at c.pages k j ≡ Some p → page_at c.pages k' j' ≡ Some p → (k ≡ k') × (j ≡ j')

  no_leaf : (k j i p : ℕ) → page_at c.pages 0 i ≡ Some p → page_at c.pages (suc k) j ≡ Some p → ⊥
  no_leaf k j i p e g =
      let at : slice_get c.order i ≡ Some p = ap (λ l. slice_get l i) (sym base) ∙ e in
      let leaf = leaves_stand nodes tree rows total places tracks shape c i p (legs_at nodes p) at (get_map (legs_at nodes) c.order i p at) in
      let a = c.over.inners k j p g in
      leaf_inner _ a.page (some_same _ _ (sym leaf ∙ a.is))

  apart : (k j k' j' : ℕ) → apart_at k j k' j'
  apart zero j zero j' p e g = (refl, one_page 0 j j' p e g)
  apart zero j (suc k') j' p e g = absurd (no_leaf k' j' j p e g)
  apart (suc k) j zero j' p e g = absurd (no_leaf k j j' p g e)
  apart (suc k) j (suc k') j' p e g =
      let a = c.over.inners k j p e in
      let b = c.over.inners k' j' p g in
      let same : a.page ≡ b.page = inner_same LegView a.page b.page (some_same _ _ (sym a.is ∙ b.is)) in
      let q : suc k ≡ suc k' = sym a.height_is ∙ ap (λ (x : InnerView BoxView). x.level) same ∙ b.height_is in
      (q, one_page (suc k) j j' p e (ap (λ k. page_at c.pages k j') q ∙ g))

  numbers_stand : NumbersStand inner tree.levels tree.root nodes.count rs c.pages
  numbers_stand = record {
    page_0 = c.page_0;
    one_each = λ k l. c.over.one_each k l ∙ sym (level_map (legs_at nodes) inner k c.order);
    no_more = c.over.no_more;
    below_top = λ k l. (let a = c.over.below_top k l in let b = level_map (legs_at nodes) inner k c.order in omega (arith, a, b));
    top = λ k e. let t = c.over.top k e in (level_map (legs_at nodes) inner k c.order ∙ t.0, t.1);
    empty = λ e. let t = c.over.empty e in (ap (map (legs_at nodes)) t.0, t.1);
    within = c.over.within;
    apart = λ k j k' j' p. apart k j k' j' p;
  }

  abbrev ls : List LegView
  ls = legs nodes tree rows total places tracks shape c

  same_runs : rs ≡ leaves_of tree.shape ls
  same_runs = runs_are nodes tree rows total places tracks shape c

  tree_stands : TreeStands leg_boxes leg_feature inner tree.levels tree.root nodes (leaves_of tree.shape ls) c.pages
  tree_stands = subst (λ rs. TreeStands leg_boxes leg_feature inner tree.levels tree.root nodes rs c.pages) same_runs (record {
    held = c.held;
    numbers = numbers_stand;
    leaves = subst (LeavesStand nodes leg_feature rs) (sym base) (leaves_stand nodes tree rows total places tracks shape c);
    inners = c.over.inners;
  })

  stands : Stands nodes tree ls c.pages
  stands = record {
    in_turn = legs_in_turn nodes tree rows total places tracks shape c;
    tree_stands = tree_stands;
    leaves_are = c.over.leaves_are ∙ sym (length-map c.order (legs_at nodes)) ∙ ap length same_runs;
  }

  abbrev ms : List (ℕ × ℕ)
  ms = marks leg_feature (leaves_of tree.shape ls) (c.pages 0)

  marks_are : ms ≡ map (pair nodes) c.order
  marks_are = ap (λ p. marks leg_feature (leaves_of tree.shape ls) p) base ∙ ap (λ r. marks leg_feature r c.order) (sym same_runs) ∙ marks_pair nodes c.order

  chain_of : (f : ℕ) → f < length places → (ps : List ℕ) × (slice_get c.chains f ≡ Some ps)
  chain_of f l = get_some c.chains f (let m = as_many nodes tree rows total places tracks shape c in let k = length-map c.chains (legs_on nodes) in omega (arith, l, m, k))

  pages_are : (f : ℕ) (ps : List ℕ) → slice_get c.chains f ≡ Some ps → pages_of f ms ≡ ps
  pages_are f ps e = ap (pages_of f) marks_are ∙ pages_own nodes f c.order ∙ own_pages nodes tree rows total places tracks shape c f ps e

  abbrev ch : (f : ℕ) (ps : List ℕ) → slice_get c.chains f ≡ Some ps → Chain nodes tree.shape.leaf rows (h nodes tree rows total places tracks shape c) f places tracks f ps
  ch f ps e = chain nodes tree rows total places tracks shape c f ps e

  count_is : (f : ℕ) (ps : List ℕ) (e : slice_get c.chains f ≡ Some ps) → count_by (is_of f) ls ≡ (ch f ps e).place.legs
  count_is f ps e =
      let k = ch f ps e in
      sym (length-filter (is_of f) ls) ∙ ap length (own_legs nodes tree rows total places tracks shape c f ps e)
      ∙ all_legs nodes tree.shape.leaf f 0 k.place.first k.place.legs ps k.leaves.leaves

  placed : (f : ℕ) (place : Place) → slice_get places f ≡ Some place → IsPlace tree ls c.pages f place
  placed f place e =
      let k = chain_of f (get_few places f place e) in
      let ps = k.0 in
      let w = ch f ps k.1 in
      let same : w.place ≡ place = some_same w.place place (sym w.placed ∙ e) in
      subst (IsPlace tree ls c.pages f) same (record {
        first = first_is nodes tree.shape.leaf rows (h nodes tree rows total places tracks shape c) f 0 w.place.first w.place.legs ps w.leaves.leaves ∙ ap head_or_zero (sym (pages_are f ps k.1));
        last = sym w.leaves.last ∙ ap (last_or 0) (sym (pages_are f ps k.1));
        legs_are = sym (count_is f ps k.1);
        last_index = λ _. last_index f ps k.1 w;
        none = λ z. absurd (let s = c.some f w.place w.placed in omega (arith, s, z));
      })
    where
      last_index : (f : ℕ) (ps : List ℕ) (e : slice_get c.chains f ≡ Some ps) (w : Chain nodes tree.shape.leaf rows (h nodes tree rows total places tracks shape c) f places tracks f ps)
          → (slice_get ms w.place.last_index ≡ Some (f, w.place.last)) × (pages_of f (drop (suc w.place.last_index) ms) ≡ [])
      last_index f ps e w =
          let i = w.place.last_index in
          let p = w.place.last in
          let at : slice_get c.order i ≡ Some p = c.last_index f w.place w.placed in
          let oc = order_chain nodes tree rows total places tracks shape c i p at in
          let mine : own nodes p ≡ f = owner_is (last_in 0 ps some) in
          let split : ps ≡ filter (is (own nodes) f) (take i c.order) ++ p ∷ filter (is (own nodes) f) (drop (suc i) c.order) =
          some_same ps oc.0 (sym e ∙ ap (slice_get c.chains) (sym mine) ∙ oc.1) ∙ oc.2 ∙ ap (λ f. filter (is (own nodes) f) (take i c.order) ++ p ∷ filter (is (own nodes) f) (drop (suc i) c.order)) mine in
          let none : filter (is (own nodes) f) (drop (suc i) c.order) ≡ [] =
          none_behind (first_on nodes) 0 (filter (is (own nodes) f) (take i c.order)) p (filter (is (own nodes) f) (drop (suc i) c.order))
          (subst (IsRising (first_on nodes)) split rising) (ap (last_or 0) (sym split) ∙ w.leaves.last) in (
            ap (λ l. slice_get l i) marks_are ∙ get_map (pair nodes) c.order i p at ∙ (λ j. Some (mine j, p)),
            ap (λ l. pages_of f (drop (suc i) l)) marks_are ∙ ap (pages_of f) (drop_pair nodes (suc i) c.order) ∙ pages_own nodes f (drop (suc i) c.order) ∙ none,
          )
        where
          rising : IsRising (first_on nodes) ps
          rising = leaf_firsts nodes tree.shape.leaf rows (h nodes tree rows total places tracks shape c) f 0 w.place.first w.place.legs ps w.leaves.leaves (turn_rising f rows None (legs_on nodes ps) w.leaves.in_turn)

          some : 0 < length ps
          some = some_pages ps (all_legs nodes tree.shape.leaf f 0 w.place.first w.place.legs ps w.leaves.leaves)
            where
              some_pages : (ps : List ℕ) → length (legs_on nodes ps) ≡ w.place.legs → 0 < length ps
              some_pages [] m = absurd (let s = c.some f w.place w.placed in omega (arith, s, m))
              some_pages (q ∷ qs) m = omega arith

          last_in : (d : ℕ) (ps : List ℕ) → 0 < length ps → (i : ℕ) × (slice_get ps i ≡ Some (last_or d ps))
          last_in d [] l = absurd (omega (arith, l))
          last_in d (q ∷ []) l = (0, refl)
          last_in d (q ∷ r ∷ ps) l = let k = last_in q (r ∷ ps) (omega arith) in (suc k.0, k.1)

          owner_is : (i : ℕ) × (slice_get ps i ≡ Some (last_or 0 ps)) → own nodes w.place.last ≡ f
          owner_is k = ap (own nodes) (sym w.leaves.last) ∙ of_get (own nodes) f ps k.0 (last_or 0 ps) (leaves_own nodes tree.shape.leaf rows f 0 w.place.first w.place.legs None ps (h nodes tree rows total places tracks shape c) w.leaves.leaves w.leaves.in_turn) k.1

  tracked : (f : ℕ) (track : Track) → slice_get tracks f ≡ Some track → f < length places → IsTrack track ls f
  tracked f track e l =
      let k = chain_of f l in
      let ps = k.0 in
      let w = ch f ps k.1 in
      let same : w.track ≡ track = some_same w.track track (sym w.tracked ∙ e) in
      subst (λ track. IsTrack track ls f) same (record {
        end = ends_at f ls ∙ ap (λ l. option_map (λ (leg : LegView). leg.t1) (last_leg None l)) (own_legs nodes tree rows total places tracks shape c f ps k.1)
            ∙ (let d = some_last None (legs_on nodes ps) (led nodes tree rows total places tracks shape c f ps k.1) in ap (λ l. option_map (λ (leg : LegView). leg.t1) l) d.1 ∙ ap Some (w.leaves.end d.0 d.1));
        count = count_is f ps k.1 ∙ sym w.leaves.legs;
      })

  some_leg : (f : ℕ) → f < length places → legs_of f ls ≢ []
  some_leg f l =
      let k = chain_of f l in
      subst (λ l. l ≢ []) (sym (own_legs nodes tree rows total places tracks shape c f k.0 k.1)) (not_none (legs_on nodes k.0) (led nodes tree rows total places tracks shape c f k.0 k.1))

  -- a feature with legs is counted
  feature_in : (f : ℕ) (xs : List LegView) → legs_of f xs ≢ [] → f + 1 ≤ feature_count xs
  feature_in f xs u = with_head (filter (is leg_feature f) xs) refl
    where
      found : (ys : List LegView) (x : LegView) (zs : List LegView) → filter (is leg_feature f) ys ≡ x ∷ zs → (i : ℕ) × (y : LegView) × (slice_get ys i ≡ Some y) × (y.feature ≡ f)
      found [] x zs e = absurd (nil_cons x zs e)
      found (y ∷ ys) x zs e =
          ⊎_elim
          (λ (o : leg_feature y ≡ f). (0, y, refl, o))
          (λ (o : leg_feature y ≢ f). let r = found ys x zs (sym (not_own leg_feature f y ys o) ∙ e) in (suc r.0, r.1, r.2, r.3))
          (cases_eq (leg_feature y) f)

      with_head : (c : List LegView) → filter (is leg_feature f) xs ≡ c → f + 1 ≤ feature_count xs
      with_head [] e = absurd (u e)
      with_head (x ∷ zs) e = let r = found xs x zs e in let k = counted xs r.0 r.1 r.2 in let g = r.3 in omega (arith, k, g)

  features : length places ≡ feature_count ls
  features =
      let m = as_many nodes tree rows total places tracks shape c in
      let k = length-map c.chains (legs_on nodes) in
      let most : feature_count ls ≤ length places = count_most (length places) ls (λ i leg e. (let l = few nodes tree rows total places tracks shape c i leg e in omega (arith, l, m, k))) in
      ⊎_elim
      (λ (l : 0 < length places).
      let f = length places - 1 in
      let least = feature_in f ls (some_leg f (omega (arith, l))) in omega (arith, most, least, l))
      (λ (l : length places ≤ 0). omega (arith, most, l))
      (cases_lt 0 (length places))

  in_rows : (i : ℕ) (leg : LegView) → slice_get ls i ≡ Some leg → leg.row < rows
  in_rows i leg e =
      let f = leg.feature in
      let k = get_some c.chains f (few nodes tree rows total places tracks shape c i leg e) in
      let w = ch f k.0 k.1 in
      let q = in_filter (is leg_feature f) ls i leg e (nat_eq_equiv.refl f) in
      turn_row f rows None (legs_on nodes k.0) q.0 leg w.leaves.in_turn (ap (λ l. slice_get l q.0) (sym (own_legs nodes tree rows total places tracks shape c f k.0 k.1)) ∙ q.1)

  pub hold : HoldLegs nodes tree rows total places tracks
  hold = record {
    legs = ls;
    counted = sym (length-map ls number) ∙ ap length (numbers nodes tree rows total places tracks shape c) ∙ length-range 0 total;
    pages = c.pages;
    stands = stands;
    features = features;
    placed = placed;
    paired = (as_many_places nodes tree.shape.leaf rows (h nodes tree rows total places tracks shape c) 0 places tracks c.chains c.are_chains).1;
    tracked = λ f track e. tracked f track e (let l = get_few tracks f track e in let m = (as_many_places nodes tree.shape.leaf rows (h nodes tree rows total places tracks shape c) 0 places tracks c.chains c.are_chains).1 in omega (arith, l, m));
    led = some_leg;
    in_rows = in_rows;
  }
