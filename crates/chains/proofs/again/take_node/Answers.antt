use Rattle.std.proofs.Common.{ap, refl, sym, ◌∙◌}
use Rattle.tbnode.specs.Form.{node_of}
use Rattle.legs.proofs.GroupLemmas.{some_none}
use Rattle.chains.proofs.again.take_node.Goals as goal

pub returns-in-None-clause-refused : goal.returns-in-None-clause-refused
returns-in-None-clause-refused c =
    (refl, λ view e fits. some_none _ (sym (c.is_end.ensures view (ap node_of c.in-Some.ensures.value ∙ e)) ∙ c.in-None.is))
