use Rattle.std.proofs.Common.{ap, ◌∙◌}
use Rattle.tbnode.specs.Form.{node_of}
use Rattle.chains.proofs.kept.take_legs.Goals as goal

pub returns-in-Some : goal.returns-in-Some
returns-in-Some c = λ view e. c.take_of.ensures view (ap node_of c.in-Some.ensures.value ∙ e)
