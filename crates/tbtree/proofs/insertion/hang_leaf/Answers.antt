use Rattle.std.proofs.Common.{◌≡◌, ap, arith, subst, sym}
use Rattle.std.specs.Prelude.{Ok}
use Rattle.legs.specs.Boxes.{BoxView}
use Rattle.legs.specs.Hull.{leg_boxes}
use Rattle.legs.specs.Costs.{leg_feature}
use Rattle.tbtree.specs.Nodes.{pages_of_cache, EntryView}
use Rattle.tbtree.specs.Way.{Hangs}
use Rattle.tbtree.proofs.InsertLemmas.{first_hung}
use Rattle.tbtree.proofs.PassLemmas.{touches_none}
use Rattle.tbtree.proofs.insertion.hang_leaf.Goals as goal

pub returns-then-tree-eq0 : goal.returns-then-tree-eq0
returns-then-tree-eq0 g c =
    let tree = c.args.tree.now in
    let pages = pages_of_cache c.args.cache.now in
    let page = c.args.page.now in
    let same : page.child ≡ c.page.inside.child = ap (λ (e : EntryView BoxView). e.child) (sym c.page.view_is) in
    record {
      says = λ fa.
          subst (λ n. Hangs leg_boxes leg_feature tree.shape.inner tree.levels tree.root pages pages 0 tree.leaves page.child page.bounds (Ok (record { root = n; levels = 1 }))) same
          (first_hung leg_boxes leg_feature tree.shape.inner tree.levels tree.root pages tree.leaves page.child page.bounds c.if-tree-eq0.true);
      touches = touches_none c.args.cache.now _;
      asked = omega arith;
    }
