use Rattle.std.proofs.Common.{◌<◌, ◌≤◌, ◌+◌, arith, subst}
use Rattle.std.specs.Prelude.{IfErr}
use Rattle.std.proofs.lemmas.Result.{err_from_is_err_and}
use Rattle.legs.specs.Legs.{LegView}
use Rattle.legs.specs.Hull.{leg_boxes}
use Rattle.legs.specs.Costs.{leg_feature}
use Rattle.tbtree.specs.Faults.{MayRefuseWrite}
use Rattle.tbtree.specs.declared.fault.TreeFault.TheVariants.{Malformed}
use Rattle.tbtree.specs.Nodes.{pages_of_cache, LeafView, HasLeafRoom}
use Rattle.tbtree.specs.Payloads.{TakesLegs}
use Rattle.tbtree.proofs.LawfulBoxes.{lawful}
use Rattle.tbtree.proofs.Growing.{grow_way, grow_elsewhere, grow_refused}
use Rattle.tbtree.proofs.PassLemmas.{if_ok, refused_any, touches_then}
use Rattle.tbtree.proofs.Still.{still}
use Rattle.tbtree.proofs.insertion.into_leaf.Goals as goal

pub returns-then-page-last : goal.returns-then-page-last
returns-then-page-last g c =
    let tree = c.args.tree.now in
    let legs = c.args.legs.now in
    let mid = pages_of_cache c.way.new.cache in
    let can : LeafView LegView → Type 0 = λ leaf. TakesLegs tree.shape.leaf leaf legs in
    let some : 0 < tree.shape.inner = let range = c.leaf-most.ensures.range.least_inner in omega (arith, range) in
    record {
      says = λ fa. grow_elsewhere leg_boxes lawful leg_feature tree.shape.inner tree.levels tree.root (pages_of_cache c.args.cache.now) mid mid c.args.number c.in_ok-page.page c.args.last legs
          can c.cover_of_legs-bounds.result (Malformed c.args.last) some c.cover_of_legs-bounds.ensures (c.in_ok-page.ensures.says fa) c.if-page-last.true;
      touches = record { passes = c.in_ok-page.ensures.touches.passes; length = tt; caused = tt };
      asked = tt;
    }

pub returns : goal.returns
returns g c =
    let tree = c.args.tree.now in
    let legs = c.args.legs.now in
    let mid = pages_of_cache c.way.new.cache in
    let can : LeafView LegView → Type 0 = λ leaf. TakesLegs tree.shape.leaf leaf legs in
    let first = c.in_ok-page.ensures in
    let then = c.grow.ensures in
    let some : 0 < tree.shape.inner = let range = c.leaf-most.ensures.range.least_inner in omega (arith, range) in
    record {
      says = λ fa.
          let faithful = still _ _ first.touches.passes.store.faithful fa in
          let only = subst (λ most. HasLeafRoom mid c.in_ok-page.page (λ leaf. TakesLegs most leaf legs) → IfErr c.grow.result MayRefuseWrite) c.leaf-most.ensures.value (then.only faithful) in
          grow_way leg_boxes lawful leg_feature tree.shape.inner tree.levels tree.root (pages_of_cache c.args.cache.now) mid (pages_of_cache c.grow.new.cache) c.args.number c.in_ok-page.page c.args.last legs
          can c.cover_of_legs-bounds.result some c.cover_of_legs-bounds.ensures (first.says fa) c.grow.result (then.gives faithful) only;
      touches = touches_then c.args.cache.now c.way.new.cache c.grow.new.cache c.in_ok-page.page c.grow.result first.touches then.touches;
      asked = if_ok c.grow.result (λ _. c.grow.new.cache.asked + 0 ≤ c.args.cache.now.asked + tree.levels) (λ _. let a = first.asked in let b = then.asked in let some = c.requires.levels in omega (arith, a, b, some));
    }

pub returns-in_err-page : goal.returns-in_err-page
returns-in_err-page g c =
    let tree = c.args.tree.now in
    let legs = c.args.legs.now in
    let mid = pages_of_cache c.way.new.cache in
    let can : LeafView LegView → Type 0 = λ leaf. TakesLegs tree.shape.leaf leaf legs in
    let some : 0 < tree.shape.inner = let range = c.leaf-most.ensures.range.least_inner in omega (arith, range) in
    let p = err_from_is_err_and c.from_residual.result c.from_residual.ensures.1 in
    rw (p.1, p.2) (record { says = λ fa. grow_refused leg_boxes lawful leg_feature tree.shape.inner tree.levels tree.root (pages_of_cache c.args.cache.now) mid mid c.args.number c.args.last legs can c.cover_of_legs-bounds.result _ some c.cover_of_legs-bounds.ensures (c.in_err-page.ensures.says fa); touches = refused_any c.in_err-page.ensures.touches; asked = tt })
