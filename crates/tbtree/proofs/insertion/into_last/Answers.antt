use Rattle.std.proofs.Common.{refl}
use Rattle.std.specs.Prelude.{Ok, Err}
use Rattle.std.proofs.lemmas.Result.{err_from_is_err_and}
use Rattle.tbtree.specs.Nodes.{pages_of_cache}
use Rattle.tbtree.proofs.InsertLemmas.{inserts_last}
use Rattle.tbtree.proofs.insertion.into_last.Goals as goal

pub returns : goal.returns
returns g c =
    record { says = λ fa. inserts_last (pages_of_cache c.args.cache.now) (pages_of_cache c.into_leaf.new.cache) c.args.tree.now c.args.place.now _ c.args.legs.now (Ok tt) c.requires.shape c.requires.there c.requires.room refl (c.in_ok-into_leaf.ensures.says fa); touches = c.in_ok-into_leaf.ensures.touches; asked = c.in_ok-into_leaf.ensures.asked }

pub returns-in_err-into_leaf : goal.returns-in_err-into_leaf
returns-in_err-into_leaf g c =
    let p = err_from_is_err_and c.from_residual.result c.from_residual.ensures.1 in
    rw (p.1, p.2) (record { says = λ fa. inserts_last (pages_of_cache c.args.cache.now) (pages_of_cache c.into_leaf.new.cache) c.args.tree.now c.args.place.now c.args.place.now c.args.legs.now (Err _) c.requires.shape c.requires.there c.requires.room tt (c.in_err-into_leaf.ensures.says fa); touches = c.in_err-into_leaf.ensures.touches; asked = tt })
