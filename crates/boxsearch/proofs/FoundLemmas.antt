-- What a search finds in pages that stand for legs.
use Rattle.std.proofs.Common.{ℕ, zero, suc, ◌≡◌, ◌+◌, List, [], sym, ap, ◌∙◌, arith, subst, refl, false, Some, All, IsTrue, Result, Ok, Err, OnOk}
use Rattle.std.specs.List.Sorted.{IsPermutation, IsNonDecreasingBy}
use Rattle.std.proofs.lemmas.List.Sorted.{IsPermutation-refl}
use Rattle.std.proofs.lemmas.Grind.{common_steps}
use Rattle.legs.specs.Boxes.{BoxView}
use Rattle.legs.specs.Costs.{ShapeView, RisesBy, cost, leaves_of, search_cost}
use Rattle.legs.specs.Hull.{leg_boxes}
use Rattle.legs.specs.Index.{legs_in_box}
use Rattle.legs.specs.Legs.{LegView}
use Rattle.pagecache.specs.Cache.{Cache}
use Rattle.chains.proofs.ReadLemmas.{allowed_by}
use Rattle.tbtree.specs.Descent.{pages_met, legs_met, IsInOrder}
use Rattle.tbtree.specs.Faults.{GivesRead}
use Rattle.tbtree.specs.Nodes.{Pages, pages_of_cache}
use Rattle.tbtree.specs.declared.fault.TreeFault.{TreeFault}
use Rattle.tbtree.specs.declared.tree.TbTree.{TbTree}
use Rattle.tbtree.proofs.LawLemmas.{Descends}
use Rattle.boxsearch.specs.Way.{meets, IsOffWay, IsOnLevel, IsWay, Searches}
use Rattle.boxsearch.proofs.WayLemmas.{way_off}

pub cost_is : (query : BoxView) (shape : ShapeView) (legs : List LegView) → search_cost query (Some shape) legs ≡ cost leg_boxes (meets query) shape.inner (leaves_of shape legs)
unfolding search_cost
cost_is query shape legs = refl

-- the way down through pages that stand for legs is as a search expects it
module _ (query : BoxView) (nodes : Pages LegView BoxView) (tree : TbTree) (legs : List LegView) (d : Descends (meets query) nodes tree legs) where
  on_level : (n k : ℕ) → n + suc k ≡ tree.levels → All (λ p. IsOnLevel nodes k p) (pages_met (meets query) nodes tree.root n)
  on_level n zero e = d.leaves n (let s : suc n ≡ tree.levels = omega (arith, e) in s)
  on_level n (suc k) e = d.inners n k e

  pub way_of : IsWay query nodes tree.root tree.levels
  way_of = record { fit = on_level; few = λ n h. let fewer = d.fewer n h in omega (arith, fewer) }

-- what a search finds in pages that stand for legs, and what it asks for
module _ {T : Type 0} (query : BoxView) (tree : TbTree) (old new : Cache) (items : T → List LegView) (legs : List LegView) (d : Descends (meets query) (pages_of_cache old) tree legs) where
  pub search_gives : (r : Result T TreeFault) → Searches query tree old new items r → tree.spent ≡ false → IsTrue old.store.is_faithful → GivesRead r (λ found. items found ≡ legs_in_box query legs)
  search_gives (Ok found) k works f = d.found (items found) (k.met f)
  search_gives (Err fault) k works f =
      allowed_by old new (IsOffWay query (pages_of_cache old) tree.root tree.levels) fault
      (way_off query (pages_of_cache old) tree.root tree.levels (way_of query (pages_of_cache old) tree legs d)) (k.caused works) (k.named f)

  pub search_asks : (r : Result T TreeFault) → Searches query tree old new items r → IsTrue old.store.is_faithful → OnOk r (RisesBy old.asked new.asked (search_cost query (Some tree.shape) legs))
  search_asks r k f = subst (λ n. OnOk r (RisesBy old.asked new.asked n)) (d.asked ∙ sym (cost_is query tree.shape legs)) (k.asked f)

-- a tree without levels has no legs that meet
pub none_met : (query : BoxView) (nodes : Pages LegView BoxView) (root levels : ℕ) (found : List LegView) → levels ≡ 0 → found ≡ [] → IsInOrder (legs_met leg_boxes (meets query) nodes root levels) found
none_met query nodes root levels found e f =
    let none = ap (legs_met leg_boxes (meets query) nodes root) e in
    subst (λ l. IsInOrder (legs_met leg_boxes (meets query) nodes root levels) l) (sym f)
    (record { same = subst (λ l. IsPermutation l []) (sym none) (IsPermutation-refl []); rises = grind (arith, common_steps) })

-- what is found is in the order of its ordinals
pub in_order : (met found sorted : List LegView) → found ≡ met → IsPermutation found sorted → IsNonDecreasingBy (λ leg. leg.ordinal) sorted → IsInOrder met sorted
in_order met found sorted e p o = record { same = subst (λ l. IsPermutation l sorted) e p; rises = o }
