use Rattle.std.proofs.Common.{◌≤◌, ◌+◌, arith, length, subst}
use Rattle.std.specs.Prelude.{Ok}
use Rattle.std.proofs.lemmas.List.{take_all}
use Rattle.std.proofs.lemmas.Result.{err_from_is_err_and}
use Rattle.tbtree.specs.Joining.{Fills}
use Rattle.tbtree.proofs.FillLemmas.{fills_more, fills_none, fills_refused}
use Rattle.tbtree.proofs.filling.put_all.Goals as goal

pub leaves-init : goal.leaves-init
leaves-init g c = record { within = omega arith; fills = fills_none c.args.cache.now c.args.tree.now c.args.place.now }

pub returns-in_err-put : goal.returns-in_err-put
returns-in_err-put g c =
    let p = err_from_is_err_and c.from_residual.result c.from_residual.ensures.1 in
    rw (p.1, p.2) (fills_refused c.args.cache.now c.leaves.cache c.put.new.cache c.args.tree.now c.leaves.tree c.put.new.tree c.args.place.now c.leaves.place c.put.new.place
    c.args.legs.now c.leaves.from c.fitting-many.result c.leaves.invariant.fills _ c.in_err-put.ensures.fills)

pub leaves-preserved : goal.leaves-preserved
leaves-preserved g c =
    let n = c.leaves.from in
    let k = c.fitting-many.result in
    let within : n + k ≤ length c.args.legs.now = let most = c.fitting-many.ensures.most in let before = c.leaves.invariant.within in omega (arith, most, before) in
    record {
      within = within;
      fills = fills_more c.args.cache.now c.leaves.cache c.put.new.cache c.args.tree.now c.leaves.tree c.put.new.tree c.args.place.now c.leaves.place c.put.new.place
          c.args.legs.now n k c.leaves.invariant.fills c.in_ok-put.ensures.fills;
    }

pub returns : goal.returns
returns g c = subst (λ legs. Fills c.args.cache.now c.leaves.cache c.args.tree.now c.leaves.tree c.args.place.now c.leaves.place legs (Ok tt)) (take_all c.leaves.from c.args.legs.now c.leaves-test.false) c.leaves.invariant.fills
