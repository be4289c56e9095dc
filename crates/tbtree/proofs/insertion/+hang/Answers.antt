use Rattle.std.proofs.Common.{◌≡◌, ◌≢◌, ◌∙◌, ◌+◌, ◌/◌, ◌%◌, ◌<◌, ◌≤◌, arith, ap, subst, suc, sym}
use Rattle.std.specs.Prelude.{Ok, Err}
use Rattle.std.proofs.lemmas.Result.{err_from_is_err_and}
use Rattle.legs.specs.Hull.{leg_boxes}
use Rattle.legs.specs.Costs.{leg_feature}
use Rattle.tbtree.specs.Faults.{MayRefuseWrite}
use Rattle.legs.specs.Boxes.{BoxView}
use Rattle.tbtree.specs.Nodes.{pages_of_cache, EntryView, HasRoom}
use Rattle.tbtree.specs.Way.{IsOnWay, Hangs}
use Rattle.tbtree.proofs.LawfulBoxes.{lawful}
use Rattle.tbtree.proofs.Hanging.{hang_ups, hang_on, way_not, attach_not}
use Rattle.tbtree.proofs.PassLemmas.{on_ok, refused_any, touches_any, touches_then}
use Rattle.tbtree.proofs.Still.{still}
use Rattle.tbtree.proofs.insertion.+hang.Goals as goal

pub returns-then-at-inner-eq0 : goal.returns-then-at-inner-eq0
returns-then-at-inner-eq0 g t c =
    let tree = c.args.tree.now in
    let old = pages_of_cache c.args.cache.now in
    let mid = pages_of_cache c.add_inner.new.cache in
    let new = pages_of_cache c.hang.new.cache in
    let added = c.in_ok-page.ensures in
    let page = c.in_ok-page.page in
    let same : c.child.inside.bounds ≡ c.args.child.now.bounds = ap (λ (e : EntryView BoxView). e.bounds) c.child.view_is in
    let is : c.from-inner.result ≡ tree.shape.inner = c.from-inner.ensures ∙ c.inner.ensures.value in
    let wide : 1 < tree.shape.inner = let range = c.inner.ensures.range.least_inner in omega (arith, range) in
    let full : c.args.at % tree.shape.inner ≡ 0 = ap (λ n. c.args.at % n) (sym is) ∙ c.if-at-inner-eq0.true in
    record {
      says = λ fa.
          let up = subst (λ n. Hangs leg_boxes leg_feature tree.shape.inner tree.levels tree.root mid new (c.args.level + 1) (c.args.at / n) page c.child.inside.bounds c.hang.result) is (c.hang.ensures.says (still _ _ added.touches.passes.store.faithful fa)) in
          let hangs = subst (λ b. Hangs leg_boxes leg_feature tree.shape.inner tree.levels tree.root mid new (c.args.level + 1) (c.args.at / tree.shape.inner) page b c.hang.result) same up in
          hang_ups leg_boxes lawful leg_feature tree.shape.inner tree.levels tree.root old mid new c.args.level c.args.at c.args.child.now.child page c.args.child.now.bounds c.hang.result
          wide c.requires.level full (added.gives fa) hangs;
      touches = touches_then c.args.cache.now c.add_inner.new.cache c.hang.new.cache page c.hang.result added.touches c.hang.ensures.touches;
      asked = on_ok c.hang.result (λ top. c.hang.new.cache.asked + (c.args.level + 1) ≤ c.add_inner.new.cache.asked + top.levels) (λ top. c.hang.new.cache.asked + c.args.level ≤ c.args.cache.now.asked + top.levels) (λ top rises. let a = added.asked in omega (arith, a, rises)) c.hang.ensures.asked;
    }

pub returns : goal.returns
returns g t c =
    let tree = c.args.tree.now in
    let old = pages_of_cache c.args.cache.now in
    let mid = pages_of_cache c.way.new.cache in
    let found = c.in_ok-parent.ensures in
    let then = c.in_ok-attach.ensures in
    let same : c.child.inside.bounds ≡ c.args.child.now.bounds = ap (λ (e : EntryView BoxView). e.bounds) c.child.view_is in
    let is : c.from-inner.result ≡ tree.shape.inner = c.from-inner.ensures ∙ c.inner.ensures.value in
    let wide : 1 < tree.shape.inner = let range = c.inner.ensures.range.least_inner in omega (arith, range) in
    let below : suc c.args.level < tree.levels = omega (arith, c.if-from-tree.false, c.from.ensures, c.requires.level) in
    let room : c.args.at % tree.shape.inner ≢ 0 = subst (λ n. c.args.at % n ≢ 0) is c.if-at-inner-eq0.false in
    record {
      says = λ fa.
          let way = subst (λ n. IsOnWay leg_boxes tree.shape.inner tree.levels tree.root old mid (c.args.level + 1) (c.args.at / n) c.child.inside.bounds (Ok c.in_ok-parent.parent)) is (found.says fa) in
          let on = subst (λ b. IsOnWay leg_boxes tree.shape.inner tree.levels tree.root old mid (c.args.level + 1) (c.args.at / tree.shape.inner) b (Ok c.in_ok-parent.parent)) same way in
          hang_on leg_boxes lawful leg_feature tree.shape.inner tree.levels tree.root old mid (pages_of_cache c.attach.new.cache) c.args.level c.args.at c.args.child.now.child c.in_ok-parent.parent c.args.child.now.bounds
          wide below room on (then.gives (still _ _ found.touches.passes.store.faithful fa));
      touches = touches_then c.args.cache.now c.way.new.cache c.attach.new.cache c.in_ok-parent.parent (Ok _) found.touches (touches_any then.touches);
      asked = (let a = found.asked in let b = then.asked in omega (arith, a, b, below));
    }

pub returns-in_err-parent : goal.returns-in_err-parent
returns-in_err-parent g t c =
    let tree = c.args.tree.now in
    let same : c.child.inside.bounds ≡ c.args.child.now.bounds = ap (λ (e : EntryView BoxView). e.bounds) c.child.view_is in
    let old = pages_of_cache c.args.cache.now in
    let mid = pages_of_cache c.way.new.cache in
    let is : c.from-inner.result ≡ tree.shape.inner = c.from-inner.ensures ∙ c.inner.ensures.value in
    let wide : 1 < tree.shape.inner = let range = c.inner.ensures.range.least_inner in omega (arith, range) in
    let room : c.args.at % tree.shape.inner ≢ 0 = subst (λ n. c.args.at % n ≢ 0) is c.if-at-inner-eq0.false in
    let p = err_from_is_err_and c.from_residual-in_err-parent.result c.from_residual-in_err-parent.ensures.1 in
    rw (p.1, p.2) (record {
      says = λ fa.
          let way = subst (λ n. IsOnWay leg_boxes tree.shape.inner tree.levels tree.root old mid (c.args.level + 1) (c.args.at / n) c.child.inside.bounds (Err c.in_err-parent.field-0.0)) is (c.in_err-parent.ensures.says fa) in
          let on = subst (λ b. IsOnWay leg_boxes tree.shape.inner tree.levels tree.root old mid (c.args.level + 1) (c.args.at / tree.shape.inner) b (Err c.in_err-parent.field-0.0)) same way in
          way_not leg_boxes lawful leg_feature tree.shape.inner tree.levels tree.root old mid mid c.args.level c.args.at c.args.child.now.child c.args.child.now.bounds _ wide room on;
      touches = refused_any c.in_err-parent.ensures.touches;
      asked = tt;
    })

pub returns-in_err-attach : goal.returns-in_err-attach
returns-in_err-attach g t c =
    let tree = c.args.tree.now in
    let same : c.child.inside.bounds ≡ c.args.child.now.bounds = ap (λ (e : EntryView BoxView). e.bounds) c.child.view_is in
    let old = pages_of_cache c.args.cache.now in
    let mid = pages_of_cache c.way.new.cache in
    let found = c.in_ok-parent.ensures in
    let is : c.from-inner.result ≡ tree.shape.inner = c.from-inner.ensures ∙ c.inner.ensures.value in
    let wide : 1 < tree.shape.inner = let range = c.inner.ensures.range.least_inner in omega (arith, range) in
    let below : suc c.args.level < tree.levels = omega (arith, c.if-from-tree.false, c.from.ensures, c.requires.level) in
    let room : c.args.at % tree.shape.inner ≢ 0 = subst (λ n. c.args.at % n ≢ 0) is c.if-at-inner-eq0.false in
    let p = err_from_is_err_and c.from_residual-in_err-attach.result c.from_residual-in_err-attach.ensures.1 in
    rw (p.1, p.2) (record {
      says = λ fa.
          let way = subst (λ n. IsOnWay leg_boxes tree.shape.inner tree.levels tree.root old mid (c.args.level + 1) (c.args.at / n) c.child.inside.bounds (Ok c.in_ok-parent.parent)) is (found.says fa) in
          let on = subst (λ b. IsOnWay leg_boxes tree.shape.inner tree.levels tree.root old mid (c.args.level + 1) (c.args.at / tree.shape.inner) b (Ok c.in_ok-parent.parent)) same way in
          let only = subst (λ n. HasRoom mid c.in_ok-parent.parent (c.args.level + 1) n → MayRefuseWrite c.in_err-attach.field-0.0) c.inner-2.ensures.value (c.in_err-attach.ensures.only (still _ _ found.touches.passes.store.faithful fa)) in
          attach_not leg_boxes lawful leg_feature tree.shape.inner tree.levels tree.root old mid (pages_of_cache c.attach.new.cache) c.args.level c.args.at c.args.child.now.child c.in_ok-parent.parent c.args.child.now.bounds _ wide below room on only;
      touches = touches_then c.args.cache.now c.way.new.cache c.attach.new.cache c.in_ok-parent.parent (Err _) found.touches (refused_any c.in_err-attach.ensures.touches);
      asked = tt;
    })
