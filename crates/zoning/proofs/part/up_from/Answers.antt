use Rattle.std.proofs.Common.{arith}
use Rattle.std.proofs.lemmas.Int.{ints}
use Rattle.zoning.proofs.part.up_from.Goals as goal

pub overflow_add-result : goal.overflow_add-result
overflow_add-result c =
    let v = c.unsigned_abs.ensures.value in
    let w = c.share_at.ensures.whole in
    let a = c.requires.low_in in
    let b = c.requires.high_in in
    let u = c.requires.up in
    omega (arith, ints, v, w, a, b, u)

pub returns : goal.returns
returns c =
    let v = c.unsigned_abs.ensures.value in
    let w = c.share_at.ensures.whole in
    let a = c.requires.low_in in
    let b = c.requires.high_in in
    let u = c.requires.up in
    omega (arith, ints, v, w, a, b, u)
