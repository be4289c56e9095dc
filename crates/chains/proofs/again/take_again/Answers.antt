use Rattle.std.proofs.Common.{rules}
use Rattle.chains.proofs.again.take_again.Goals as goal

pub returns-in-Err-clause-reads : goal.returns-in-Err-clause-reads
returns-in-Err-clause-reads g c = record { only = search rules; caused = search rules }
