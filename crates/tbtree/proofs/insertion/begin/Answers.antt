use Rattle.std.proofs.Common.{Ok, Err, ◌≡◌, ◌<◌, refl, arith}
use Rattle.std.proofs.lemmas.Result.{err_from_is_err_and}
use Rattle.tbtree.specs.Nodes.{pages_of_cache}
use Rattle.tbtree.proofs.InsertLemmas.{inserts_begun, hang_not, add_not}
use Rattle.tbtree.proofs.PassLemmas.{refused_any, touches_any, touches_then}
use Rattle.tbtree.proofs.Still.{still}
use Rattle.tbtree.proofs.insertion.begin.Goals as goal
use Rattle.tbtree.proofs.insertion.begin.Goals.{then-place-eq0, else-place-eq0}

pub returns-clause-fills : goal.returns-clause-fills
returns-clause-fills g c =
    let tree = c.args.tree.now in
    let place = c.args.place.now in
    let first = c.if-place-eq0.first in
    let page = c.in_ok-page.page in
    let f0 : place.last ≡ 0 → first ≡ page = λ z. elim c.if-place-eq0.branch [ then-place-eq0 w ↦ w.first-is | else-place-eq0 w ↦ absurd (w.if-place-eq0.false z) ] in
    let f1 : 0 < place.last → first ≡ place.first = λ z. elim c.if-place-eq0.branch [ then-place-eq0 w ↦ absurd (let u = w.if-place-eq0.true in omega (arith, u, z)) | else-place-eq0 w ↦ w.first-is ] in
    let begun = c.in_ok-page.ensures in
    let hung = c.in_ok-top.ensures in
    record {
      joins = λ fa. inserts_begun (pages_of_cache c.args.cache.now) (pages_of_cache c.add_last.new.cache) (pages_of_cache c.hang_leaf.new.cache) tree _ place _ c.args.legs.now page c.cover_of_legs-bounds.result c.requires.some c.requires.room c.requires.full
          (begun.gives fa) c.cover_of_legs-bounds.ensures (hung.says (still _ _ begun.touches.passes.store.faithful fa)) refl f0 f1 refl refl refl;
      spent = refl;
      shape = refl;
      touches = touches_then c.args.cache.now c.add_last.new.cache c.hang_leaf.new.cache page (Ok tt) begun.touches (touches_any hung.touches);
    }

pub returns-in_err-page-clause-fills : goal.returns-in_err-page-clause-fills
returns-in_err-page-clause-fills g c =
    let tree = c.args.tree.now in
    let p = err_from_is_err_and c.from_residual.result c.from_residual.ensures.1 in
    rw (p.1, p.2) (record { joins = λ fa. add_not (pages_of_cache c.args.cache.now) (pages_of_cache c.add_last.new.cache) tree tree c.args.place.now c.args.place.now c.args.legs.now _ c.requires.some (λ last below one. c.in_err-page.ensures.only fa (record { there = below; end = last; one = one })); spent = refl; shape = refl; touches = refused_any c.in_err-page.ensures.touches })

pub returns-in_err-top-clause-fills : goal.returns-in_err-top-clause-fills
returns-in_err-top-clause-fills g c =
    let tree = c.args.tree.now in
    let some : 0 < tree.shape.leaf = let least = c.requires.shape.least_leaf in omega (arith, least) in
    let p = err_from_is_err_and c.from_residual-in_err-top.result c.from_residual-in_err-top.ensures.1 in
    rw (p.1, p.2) (record {
      joins = λ fa. hang_not (pages_of_cache c.args.cache.now) (pages_of_cache c.add_last.new.cache) (pages_of_cache c.hang_leaf.new.cache) (pages_of_cache c.hang_leaf.new.cache) tree tree c.args.place.now c.args.place.now c.args.legs.now c.in_ok-page.page c.cover_of_legs-bounds.result _
          c.requires.some some (c.in_ok-page.ensures.gives fa) c.cover_of_legs-bounds.ensures (c.in_err-top.ensures.says (still _ _ c.in_ok-page.ensures.touches.passes.store.faithful fa));
      spent = refl;
      shape = refl;
      touches = touches_then c.args.cache.now c.add_last.new.cache c.hang_leaf.new.cache c.in_ok-page.page (Err _) c.in_ok-page.ensures.touches (refused_any c.in_err-top.ensures.touches);
    })
