use Rattle.std.proofs.Common.{ap, arith, ◌∙◌}
use Rattle.tbnode.specs.Form.{node_of}
use Rattle.tbnode.proofs.UntestedLemmas.{leg_there, says}
use Rattle.tbnode.proofs.untested_leaf.UntestedLeaf.leg.Goals as goal

pub returns : goal.returns
returns c = λ leaf e.
    let s = says c.self.inside.payload.now leaf (ap node_of c.self.view_is ∙ e) in
    leg_there c.self.inside.payload.now leaf c.args.i c.u32_at.result c.part.result.now c.some_leg.result s (omega (arith, c.if-i-len.false, c.len.ensures.value leaf e)) c.part.ensures.value c.u32_at.ensures c.some_leg.ensures
