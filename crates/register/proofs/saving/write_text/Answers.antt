use Rattle.register.proofs.SavingLemmas.{refused_text}
use Rattle.register.proofs.saving.write_text.Goals as goal

pub returns-in-Err : goal.returns-in-Err
returns-in-Err g c = refused_text c.fault_of.ensures c.in-Err.ensures.writes
