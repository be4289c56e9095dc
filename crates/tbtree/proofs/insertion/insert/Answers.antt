use Rattle.tbtree.proofs.InsertLemmas.{inserted_call, refused_call}
use Rattle.std.proofs.Common.{[], ◌∷◌}
use Rattle.std.proofs.lemmas.Result.{err_from_is_err_and}
use Rattle.tbtree.proofs.insertion.insert.Goals as goal

pub returns-clause-call : goal.returns-clause-call
returns-clause-call g c = inserted_call c.args.cache.now c.put.new.cache c.args.tree.now c.put.new.tree c.args.place.now c.put.new.place (c.args.leg ∷ []) c.if-tree.false c.in_ok-put.ensures.fills

pub returns-in_err-put-clause-call : goal.returns-in_err-put-clause-call
returns-in_err-put-clause-call g c =
    let p = err_from_is_err_and c.from_residual.result c.from_residual.ensures.1 in
    rw (p.1, p.2) (refused_call c.args.cache.now c.put.new.cache c.args.tree.now c.put.new.tree c.args.place.now c.put.new.place (c.args.leg ∷ []) c.if-tree.false _ c.in_err-put.ensures.fills)
