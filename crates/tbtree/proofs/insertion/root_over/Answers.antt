use Rattle.std.proofs.Common.{arith, Ok}
use Rattle.std.proofs.lemmas.Result.{err_from_is_err_and}
use Rattle.legs.specs.Hull.{leg_boxes}
use Rattle.legs.specs.Costs.{leg_feature}
use Rattle.tbtree.specs.Nodes.{pages_of_cache}
use Rattle.tbtree.proofs.LawfulBoxes.{lawful}
use Rattle.tbtree.proofs.Hanging.{hang_rooted, cover_refused}
use Rattle.tbtree.proofs.PassLemmas.{refused_any, touches_any, touches_then}
use Rattle.tbtree.proofs.Still.{still}
use Rattle.tbtree.proofs.insertion.root_over.Goals as goal

pub returns : goal.returns
returns g c =
    let tree = c.args.tree.now in
    let first = c.in_ok-bounds.ensures in
    let then = c.in_ok-root.ensures in
    record {
      says = λ fa at. hang_rooted leg_boxes lawful leg_feature tree.shape.inner tree.levels tree.root (pages_of_cache c.args.cache.now) (pages_of_cache c.cover.new.cache) (pages_of_cache c.add_root.new.cache) c.args.level at c.args.child.now.child c.in_ok-root.root c.in_ok-bounds.bounds c.args.child.now.bounds
          c.requires.wide c.requires.top (first.gives fa) (then.gives (still _ _ first.touches.passes.store.faithful fa));
      touches = touches_then c.args.cache.now c.cover.new.cache c.add_root.new.cache c.in_ok-bounds.bounds (Ok _) first.touches (touches_any then.touches);
      asked = (let a = first.asked in let b = then.asked in let top = c.requires.top in omega (arith, a, b, top));
    }

pub returns-in_err-bounds : goal.returns-in_err-bounds
returns-in_err-bounds g c =
    let tree = c.args.tree.now in
    let p = err_from_is_err_and c.from_residual.result c.from_residual.ensures.1 in
    rw (p.1, p.2) (record {
      says = λ fa at. cover_refused leg_boxes lawful leg_feature tree.shape.inner tree.levels tree.root (pages_of_cache c.args.cache.now) (pages_of_cache c.cover.new.cache) c.args.level at c.args.child.now.child c.args.child.now.bounds _ c.requires.wide c.requires.top (λ some good. c.in_err-bounds.ensures.only fa (some, good));
      touches = refused_any c.in_err-bounds.ensures.touches;
      asked = tt;
    })
