use Rattle.parts.proofs.LeastLemmas.{fault_law}
use Rattle.parts.proofs.fault_laws.Goals as goal

pub returns : goal.returns
returns c = fault_law
