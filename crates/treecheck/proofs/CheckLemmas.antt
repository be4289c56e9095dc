-- Pages that a check finds whole hold a list of legs.
use Rattle.std.proofs.Common.{◌≡◌, ℕ, suc, ◌<◌, ◌≤◌, List, [], ◌∷◌, ◌++◌, length, map, take, drop, Some, None, slice_get, refl, sym, ap, ◌∙◌, arith, subst, ⊎_elim}
use Rattle.std.specs.List.{filter, range_with_len}
use Rattle.std.specs.Cmp.{nat_eq_equiv}
use Rattle.std.proofs.lemmas.Bool.{cases_lt}
use Rattle.std.proofs.lemmas.List.Elements.{filter-append}
use Rattle.legs.specs.Blocks.{runs, groups, joined}
use Rattle.legs.specs.Boxes.{BoxView}
use Rattle.legs.specs.Costs.{leg_feature, leaves_of}
use Rattle.legs.specs.Index.{legs_of, CanFollowInTurn}
use Rattle.legs.specs.Legs.{LegView}
use Rattle.legs.specs.declared.tracks.Track.{Track}
use Rattle.treecheck.specs.Check.{HoldChains, legs_on, first_on, AreLeavesFrom, IsChecked}
use Rattle.tbtree.specs.Turn.{first_ordinal, IsRising}
use Rattle.tbtree.specs.Descent.{sort_by_ordinal}
use Rattle.tbtree.specs.Nodes.{Pages, ALeaf}
use Rattle.tbtree.specs.Shape.{IsShape}
use Rattle.tbtree.specs.Stands.{owner, marks, pages_of, head_or_zero, last_or, LeavesStand}
use Rattle.tbtree.specs.declared.tree.Place.{Place}
use Rattle.tbtree.specs.declared.tree.TbTree.{TbTree}
use Rattle.legs.proofs.GroupLemmas.{some_none, some_same}
use Rattle.tbtree.proofs.KeyRuns.{is}
use Rattle.treecheck.proofs.LeafChains.{split_at, legs_at, own, marks_pair, pages_own, take_pair, drop_pair, filter_legs, up_legs, leaf_groups, leaf_split}
use Rattle.tbtree.proofs.OrdinalOrder.{IsUp}
use Rattle.tbtree.proofs.OwnRuns.{own_runs}
use Rattle.tbtree.proofs.OwnedLists.{owned_at, owned_beyond, numbered}
pub use Rattle.tbtree.proofs.RisingLists.{get_few}
use Rattle.tbtree.proofs.RisingLists.{one_order, own_order, own_first, in_filter, rising_up}
use Rattle.tbtree.proofs.SortLemmas.{number, sort_moves}
use Rattle.tbtree.proofs.TurnLemmas.{turn_rising}
pub use Rattle.treecheck.proofs.ChainLemmas.{get_of_map, get_map, get_some, none_behind, runs_rising, turn_row, leaf_firsts, first_is, Chain, chain_at, as_many_places, not_none}
use Rattle.treecheck.proofs.ChainLemmas.{owned_pages}
use Rattle.treecheck.proofs.ChainLemmas as chains

module _ (nodes : Pages LegView BoxView) (tree : TbTree) (rows total : ℕ) (places : List Place) (tracks : List Track) (shape : IsShape tree.shape) (c : IsChecked nodes tree rows total places tracks) where
  abbrev n : ℕ
  n = tree.shape.leaf

  pub h : 0 < n
  h = let l = shape.least_leaf in omega (arith, l)

  abbrev all : List LegView
  all = legs_on nodes (joined c.chains)

  abbrev pub legs : List LegView
  legs = sort_by_ordinal all

  pub numbers : map number legs ≡ range_with_len 0 total
  numbers = numbered all total c.once

  abbrev held : HoldChains nodes n rows total places tracks legs
  held = record { chains = c.chains; are_chains = c.are_chains; some = c.some; moved = sort_moves all; numbered = numbers; firsts = c.firsts }

  pub legs_rise : IsRising number legs
  legs_rise = chains.legs_rise nodes n rows total places tracks h legs held

  pub chain : (f : ℕ) (ps : List ℕ) → slice_get c.chains f ≡ Some ps → Chain nodes n rows h f places tracks f ps
  chain = chains.chain nodes n rows total places tracks h legs held

  pub as_many : length (map (legs_on nodes) c.chains) ≡ length places
  as_many = chains.as_many nodes n rows total places tracks h legs held

  pub own_legs : (f : ℕ) (ps : List ℕ) → slice_get c.chains f ≡ Some ps → legs_of f legs ≡ legs_on nodes ps
  own_legs = chains.own_legs nodes n rows total places tracks h legs held

  no_legs : (f : ℕ) → length c.chains ≤ f → legs_of f legs ≡ []
  no_legs = chains.no_legs nodes n rows total places tracks h legs held

  pub few : (i : ℕ) (leg : LegView) → slice_get legs i ≡ Some leg → leg.feature < length c.chains
  few = chains.few nodes n rows total places tracks h legs held

  pub led : (f : ℕ) (ps : List ℕ) → slice_get c.chains f ≡ Some ps → 0 < length (legs_on nodes ps)
  led = chains.led nodes n rows total places tracks h legs held

  pub legs_in_turn : CanFollowInTurn [] legs
  legs_in_turn = chains.chained nodes n rows total places tracks h legs held

  order_up : IsUp (map (first_on nodes) c.order)
  order_up = rising_up (first_on nodes) c.order c.rises

  pub own_pages : (f : ℕ) (ps : List ℕ) → slice_get c.chains f ≡ Some ps → filter (is (own nodes) f) c.order ≡ ps
  own_pages f ps e =
      let k = chain f ps e in
      own_order (first_on nodes) (is (own nodes) f) ps (joined c.chains) c.order
      (leaf_firsts nodes n rows h f 0 k.place.first k.place.legs ps k.leaves.leaves (turn_rising f rows None (legs_on nodes ps) k.leaves.in_turn)) c.ordered
      (owned_at (own nodes) f 0 f c.chains ps (owned_pages nodes n rows h 0 places tracks c.chains c.are_chains) e (omega arith)) order_up

  no_pages : (f : ℕ) → length c.chains ≤ f → filter (is (own nodes) f) c.order ≡ []
  no_pages f l =
      own_order (first_on nodes) (is (own nodes) f) [] (joined c.chains) c.order tt c.ordered
      (owned_beyond (own nodes) f 0 c.chains (owned_pages nodes n rows h 0 places tracks c.chains c.are_chains) (omega (arith, l))) order_up

  pub runs_are : map (legs_at nodes) c.order ≡ leaves_of tree.shape legs
  runs_are =
      one_order first_ordinal (owner leg_feature) (map (legs_at nodes) c.order) (runs leg_feature n legs) (up_legs nodes c.order order_up) (runs_rising n legs h legs_rise)
      (λ f. filter_legs nodes f c.order ∙ each f ∙ sym (own_runs leg_feature n f legs h))
    where
      each : (f : ℕ) → map (legs_at nodes) (filter (is (own nodes) f) c.order) ≡ groups n (filter (is leg_feature f) legs)
      each f =
          ⊎_elim
          (λ (l : f < length c.chains).
          let e = get_some c.chains f l in
          let k = chain f e.0 e.1 in
          ap (map (legs_at nodes)) (own_pages f e.0 e.1) ∙ sym (leaf_groups nodes n f 0 k.place.first k.place.legs e.0 h k.leaves.leaves) ∙ ap (groups n) (sym (own_legs f e.0 e.1)))
          (λ (l : length c.chains ≤ f). ap (map (legs_at nodes)) (no_pages f l) ∙ ap (groups n) (sym (no_legs f l)))
          (cases_lt f (length c.chains))

  -- each leaf has its place among those of its feature
  pub order_chain : (i p : ℕ) → slice_get c.order i ≡ Some p → (ps : List ℕ) × (slice_get c.chains (own nodes p) ≡ Some ps) × (ps ≡ filter (is (own nodes) (own nodes p)) (take i c.order) ++ p ∷ filter (is (own nodes) (own nodes p)) (drop (suc i) c.order))
  order_chain i p e =
      let f = own nodes p in
      let split : filter (is (own nodes) f) c.order ≡ filter (is (own nodes) f) (take i c.order) ++ p ∷ filter (is (own nodes) f) (drop (suc i) c.order) =
      ap (filter (is (own nodes) f)) (split_at c.order i p e) ∙ filter-append (is (own nodes) f) (take i c.order) (p ∷ drop (suc i) c.order)
      ∙ ap (λ l. filter (is (own nodes) f) (take i c.order) ++ l) (own_first (own nodes) f p (drop (suc i) c.order) refl) in
      ⊎_elim
      (λ (l : f < length c.chains). let k = get_some c.chains f l in (k.0, k.1, sym (own_pages f k.0 k.1) ∙ split))
      (λ (l : length c.chains ≤ f).
      let k = in_filter (is (own nodes) f) c.order i p e (nat_eq_equiv.refl f) in
      absurd (some_none p (sym (ap (λ l. slice_get l k.0) (sym (no_pages f l)) ∙ k.1))))
      (cases_lt f (length c.chains))

  pub leaves_stand : LeavesStand nodes leg_feature (map (legs_at nodes) c.order) c.order
  leaves_stand i p r e g =
      let f = own nodes p in
      let same : legs_at nodes p ≡ r = some_same (legs_at nodes p) r (sym (get_map (legs_at nodes) c.order i p e) ∙ g) in
      let k = order_chain i p e in
      let ch = chain f k.0 k.1 in
      let leaf = leaf_split nodes n f 0 ch.place.first ch.place.legs (filter (is (own nodes) f) (take i c.order)) p (filter (is (own nodes) f) (drop (suc i) c.order)) (subst (AreLeavesFrom nodes n f 0 ch.place.first ch.place.legs) k.2 ch.leaves.leaves) in
      let ms = marks leg_feature (map (legs_at nodes) c.order) c.order in
      let before : filter (is (own nodes) f) (take i c.order) ≡ pages_of f (take i ms) = sym (pages_own nodes f (take i c.order)) ∙ ap (pages_of f) (sym (take_pair nodes i c.order) ∙ ap (take i) (sym (marks_pair nodes c.order))) in
      let after : filter (is (own nodes) f) (drop (suc i) c.order) ≡ pages_of f (drop (suc i) ms) = sym (pages_own nodes f (drop (suc i) c.order)) ∙ ap (pages_of f) (sym (drop_pair nodes (suc i) c.order) ∙ ap (drop (suc i)) (sym (marks_pair nodes c.order))) in
      subst (λ r. nodes.at p ≡ Some (Some (ALeaf (record { feature = owner leg_feature r; previous = last_or 0 (pages_of (owner leg_feature r) (take i ms)); next = head_or_zero (pages_of (owner leg_feature r) (drop (suc i) ms)); legs = r })))) same
      (leaf ∙ (λ j. Some (Some (ALeaf (record { feature = f; previous = last_or 0 (before j); next = head_or_zero (after j); legs = legs_at nodes p })))))
