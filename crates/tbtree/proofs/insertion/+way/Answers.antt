use Rattle.std.proofs.Common.{◌≡◌, ◌∙◌, ◌+◌, ◌≤◌, ◌/◌, ◌%◌, ◌<◌, arith, subst, suc}
use Rattle.std.specs.Prelude.{Ok, Err, IfOk, IfErr}
use Rattle.std.proofs.lemmas.Result.{err_from_is_err_and}
use Rattle.legs.specs.Hull.{leg_boxes}
use Rattle.tbtree.specs.Faults.{MayRefuseWrite}
use Rattle.tbtree.specs.Nodes.{pages_of_cache, Widens, HasEntry}
use Rattle.tbtree.specs.Way.{IsOnWay}
use Rattle.tbtree.proofs.WayLemmas.{way_start, way_steps, way_refused}
use Rattle.tbtree.proofs.PassLemmas.{if_ok, touches_none, touches_then}
use Rattle.tbtree.proofs.Still.{still}
use Rattle.tbtree.proofs.insertion.+way.Goals as goal

pub returns-then-from-tree : goal.returns-then-from-tree
returns-then-from-tree g t c =
    let tree = c.args.tree.now in
    let top : suc c.args.level ≡ tree.levels = omega (arith, c.if-from-tree.true, c.from.ensures) in
    record {
      says = λ fa. way_start leg_boxes tree.shape.inner tree.levels tree.root (pages_of_cache c.args.cache.now) c.args.level c.args.at c.args.bounds.now top;
      touches = touches_none c.args.cache.now tree.root;
      asked = omega (arith, top);
    }

pub returns : goal.returns
returns g t c =
    let tree = c.args.tree.now in
    let old = pages_of_cache c.args.cache.now in
    let mid = pages_of_cache c.way.new.cache in
    let new = pages_of_cache c.widen.new.cache in
    let level = c.args.level + 1 in
    let parent = c.in_ok-parent.parent in
    let box = c.args.bounds.now in
    let first = c.in_ok-parent.ensures in
    let then = c.widen.ensures in
    let is : c.from-inner.result ≡ tree.shape.inner = c.from-inner.ensures ∙ c.inner.ensures.value in
    let some : 0 < tree.shape.inner = let range = c.inner.ensures.range.least_inner in omega (arith, range) in
    record {
      says = λ fa.
          let faithful = still _ _ first.touches.passes.store.faithful fa in
          let on = subst (λ n. IsOnWay leg_boxes tree.shape.inner tree.levels tree.root old mid level (c.args.at / n) box (Ok parent)) is (first.says fa) in
          let widens = subst (λ n. IfOk c.widen.result (λ child. Widens leg_boxes mid parent level (c.args.at % n) box new child)) is (then.gives faithful) in
          let only = subst (λ n. HasEntry mid parent level (c.args.at % n) → IfErr c.widen.result MayRefuseWrite) is (then.only faithful) in
          way_steps leg_boxes tree.shape.inner tree.levels tree.root old mid new c.args.level c.args.at parent box some on c.widen.result widens only;
      touches = touches_then c.args.cache.now c.way.new.cache c.widen.new.cache parent c.widen.result first.touches then.touches;
      asked = if_ok c.widen.result (λ _. c.widen.new.cache.asked + level ≤ c.args.cache.now.asked + tree.levels) (λ _. let a = first.asked in let b = then.asked in let below = c.requires.level in let test = c.if-from-tree.false in let from = c.from.ensures in omega (arith, a, b, below, test, from));
    }

pub returns-in_err-parent : goal.returns-in_err-parent
returns-in_err-parent g t c =
    let tree = c.args.tree.now in
    let old = pages_of_cache c.args.cache.now in
    let mid = pages_of_cache c.way.new.cache in
    let p = err_from_is_err_and c.from_residual.result c.from_residual.ensures.1 in
    let is : c.from-inner.result ≡ tree.shape.inner = c.from-inner.ensures ∙ c.inner.ensures.value in
    rw (p.1, p.2) (record {
      says = λ fa. way_refused leg_boxes tree.shape.inner tree.levels tree.root old mid mid c.args.level c.args.at c.args.bounds.now _
          (subst (λ n. IsOnWay leg_boxes tree.shape.inner tree.levels tree.root old mid (c.args.level + 1) (c.args.at / n) c.args.bounds.now (Err c.in_err-parent.field-0.0)) is (c.in_err-parent.ensures.says fa));
      touches = c.in_err-parent.ensures.touches;
      asked = tt;
    })
