use Rattle.std.proofs.Common.{ap, arith, ◌∙◌}
use Rattle.legs.specs.Legs.{is_live}
use Rattle.tbnode.specs.Form.{node_of}
use Rattle.tbnode.proofs.UntestedLemmas.{none_told, says, told_there}
use Rattle.tbnode.proofs.untested_leaf.UntestedLeaf.is_live.Goals as goal

pub returns-then-i-len : goal.returns-then-i-len
returns-then-i-len c = λ leaf e.
    told_there c.self.inside.payload.now leaf c.args.i c.part.result.now (is_live c.args.period.now) c.is_live_in.result (says c.self.inside.payload.now leaf (ap node_of c.self.view_is ∙ e)) (omega (arith, c.if-i-len.true, c.len.ensures.value leaf e)) c.part.ensures.value c.is_live_in.ensures

pub returns-else-i-len : goal.returns-else-i-len
returns-else-i-len c = λ leaf e. none_told leaf c.args.i c.len.result (is_live c.args.period.now) (c.len.ensures.value leaf e) c.if-i-len.false
