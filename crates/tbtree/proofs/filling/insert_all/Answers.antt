use Rattle.tbtree.proofs.InsertLemmas.{inserted_call, refused_call}
use Rattle.std.proofs.lemmas.Result.{err_from_is_err_and}
use Rattle.tbtree.proofs.filling.insert_all.Goals as goal

pub returns : goal.returns
returns g c = inserted_call c.args.cache.now c.put_all.new.cache c.args.tree.now c.put_all.new.tree c.args.place.now c.put_all.new.place c.args.legs.now c.if-tree.false c.in_ok-put_all.ensures

pub returns-in_err-put_all : goal.returns-in_err-put_all
returns-in_err-put_all g c =
    let p = err_from_is_err_and c.from_residual.result c.from_residual.ensures.1 in
    rw (p.1, p.2) (refused_call c.args.cache.now c.put_all.new.cache c.args.tree.now c.put_all.new.tree c.args.place.now c.put_all.new.place c.args.legs.now c.if-tree.false _ c.in_err-put_all.ensures)
