-- The place of a feature in pages that stand for a list, and what a walk from it gives.
use Rattle.std.proofs.Common.{ℕ, zero, suc, ◌+◌, ◌*◌, ◌-◌, ◌≡◌, ◌<◌, ◌≤◌, ◌==◌, List, [], ◌∷◌, length, refl, sym, ap, ◌∙◌, arith, subst, ⊎_elim, Option, Some, None}
use Rattle.std.specs.Prelude.{min}
use Rattle.std.specs.Int.{div_ceil}
use Rattle.std.specs.List.{filter}
use Rattle.std.proofs.lemmas.Bool.{cases_lt}
use Rattle.std.proofs.lemmas.List.Sums.{length-filter}
use Rattle.std.proofs.Math.Nat.{pow-zero}
use Rattle.timebase.specs.Period.{PeriodView}
use Rattle.legs.specs.Blocks.{groups, joined}
use Rattle.legs.specs.Boxes.{BoxView}
use Rattle.legs.specs.Costs.{ShapeView, leg_feature, leaves_of, track_cost}
use Rattle.legs.specs.Index.{legs_of, is_of}
use Rattle.legs.specs.Legs.{LegView}
use Rattle.tbtree.specs.Nodes.{Pages}
use Rattle.tbtree.specs.Stands.{owner, marks, pages_of, last_or, NumbersStand}
use Rattle.tbtree.specs.declared.tree.Place.{Place}
use Rattle.chains.specs.Chains.{IsPlaceChain, IsChain, NamesNoneIfEmpty, last_link, walk, walked, previous_of}
use Rattle.chains.specs.Trajectory.{HasFeature}
use Rattle.chains.proofs.BackLemmas.{IsBack, Counted, StopsRight, onto, length_onto, back_of, back_none, counted_onto, is_chain, walk_blocks}
use Rattle.legs.proofs.BlockLemmas.{all_pass}
use Rattle.legs.proofs.GroupLemmas.{group_beyond}
use Rattle.legs.proofs.GroupSteps.{groups_of_one, groups_ceil, joined_groups, length_group}
use Rattle.tbtree.proofs.OwnRuns.{own_runs}
use Rattle.chains.proofs.StepLemmas.{true_false}

-- each leaf has a page
as_many : {L : Type 0} (inner levels root count : ℕ) (rs : List (List L)) (pages : ℕ → List ℕ) → NumbersStand inner levels root count rs pages → length (pages 0) ≡ length rs
as_many inner levels root count rs pages n =
    ⊎_elim
    (λ (h : 0 < levels). n.one_each 0 h ∙ ap (λ n. length (groups n rs)) (pow-zero inner) ∙ groups_of_one rs)
    (λ (h : levels ≤ 0). let z : levels ≡ 0 = omega (arith, h) in ap length (n.no_more 0 h) ∙ sym (ap length (n.empty z).0))
    (cases_lt 0 levels)

pub never_stops : (nodes : Pages LegView BoxView) (rs : List (List LegView)) → StopsRight nodes None rs
never_stops nodes [] = tt
never_stops nodes (r ∷ rs) = (λ e. absurd (true_false (sym e)), never_stops nodes rs)

-- without a period each leaf is read
pub walked_all : (nodes : Pages LegView BoxView) (n p : ℕ) → walked nodes None n p ≡ n
walked_all nodes zero p = refl
walked_all nodes (suc n) p = ap (λ k. 1 + k) (walked_all nodes n (previous_of (nodes.at p))) ∙ omega arith

module _ (nodes : Pages LegView BoxView) (shape : ShapeView) (place : Place) (f : ℕ) (legs : List LegView) (l : 0 < shape.leaf) (h : HasFeature nodes shape place f legs) where
  -- the feature's leaves
  abbrev pub blocks : List (List LegView)
  blocks = groups shape.leaf (legs_of f legs)

  pub place_back : IsBack nodes f place.first 0 place.last (onto (groups shape.leaf (legs_of f legs)) [])
  place_back =
      let tree = h.tree in
      let rs = leaves_of tree.shape legs in
      let ms = marks leg_feature rs (h.pages 0) in
      let t = h.stands.tree_stands in
      let l' : 0 < tree.shape.leaf = subst (λ (s : ShapeView). 0 < s.leaf) (sym h.shape_is) l in
      let many : length (h.pages 0) ≡ length rs = as_many tree.shape.inner tree.levels tree.root nodes.count rs h.pages t.numbers in
      let b = back_of nodes leg_feature f (h.pages 0) rs many t.leaves (λ j p e. (t.numbers.within 0 j p e).0) in
      let first = subst (λ q. IsBack nodes f q 0 (last_or 0 (pages_of f ms)) (onto (filter (λ r. owner leg_feature r == f) rs) [])) (sym h.placed.first) b in
      let last = subst (λ q. IsBack nodes f place.first 0 q (onto (filter (λ r. owner leg_feature r == f) rs) [])) (sym h.placed.last) first in
      let own = subst (λ gs. IsBack nodes f place.first 0 place.last (onto gs [])) (own_runs leg_feature tree.shape.leaf f legs l') last in
      subst (λ (s : ShapeView). IsBack nodes f place.first 0 place.last (onto (groups s.leaf (legs_of f legs)) [])) h.shape_is own

  pub legs_count : length (legs_of f legs) ≡ place.legs
  legs_count = length-filter (is_of f) legs ∙ sym h.placed.legs_are

  pub block_count : length (groups shape.leaf (legs_of f legs)) ≡ div_ceil place.legs shape.leaf
  block_count = groups_ceil shape.leaf (legs_of f legs) l ∙ ap (λ n. div_ceil n shape.leaf) legs_count

  pub counted : Counted shape.leaf place.legs (onto (groups shape.leaf (legs_of f legs)) [])
  counted =
      counted_onto shape.leaf place.legs (groups shape.leaf (legs_of f legs)) []
      (λ j g e. length_group shape.leaf (legs_of f legs) j g l e ∙ ap (λ n. min shape.leaf (n - j * shape.leaf)) legs_count
      ∙ ap (λ k. min shape.leaf (place.legs - k * shape.leaf)) (let z : j ≡ 0 + j = omega arith in z))
      tt

  -- without a leg there is no leaf
  names_none : NamesNoneIfEmpty place
  names_none z =
      let gs = groups shape.leaf (legs_of f legs) in
      let none : length gs ≡ 0 =
      ⊎_elim
      (λ (k : 0 < length gs). absurd (let b : 0 * shape.leaf < length (legs_of f legs) = group_beyond shape.leaf (legs_of f legs) 0 l k in let c = legs_count in omega (arith, b, c, z)))
      (λ (k : length gs ≤ 0). omega (arith, k))
      (cases_lt 0 (length gs)) in
      let n : length (onto gs []) ≡ 0 = let o = length_onto gs [] in omega (arith, o, none) in
      let b = back_none nodes f place.first 0 place.last (onto gs []) n place_back in
      (sym b.1, b.0)

  -- they are a chain
  pub whole_chain : (period : Option PeriodView) → IsPlaceChain nodes period shape f place
  whole_chain period =
      let gs = groups shape.leaf (legs_of f legs) in
      let n : length (onto gs []) ≡ div_ceil place.legs shape.leaf = length_onto gs [] ∙ (let z : length gs + 0 ≡ length gs = omega arith in z) ∙ block_count in (
        names_none,
        subst (λ n. IsChain nodes period shape.leaf place.legs place.first n (last_link f place)) n
            (is_chain nodes period f place.first shape.leaf place.legs (onto gs []) (last_link f place) place_back counted refl),
      )

  -- with exactly the feature's legs
  pub whole_walk : walk nodes None (div_ceil place.legs shape.leaf) place.last ≡ legs_of f legs
  whole_walk =
      let gs = groups shape.leaf (legs_of f legs) in
      ap (λ n. walk nodes None n place.last) (sym block_count)
      ∙ walk_blocks nodes None f place.first 0 place.last gs place_back (never_stops nodes (onto gs []))
      ∙ all_pass (joined gs) ∙ joined_groups shape.leaf (legs_of f legs) l

  -- in as many leaves as the cost function says
  pub whole_cost : div_ceil place.legs shape.leaf ≡ track_cost f (Some shape) legs
  unfolding track_cost
  whole_cost = ap (λ n. div_ceil n shape.leaf) (sym legs_count)
