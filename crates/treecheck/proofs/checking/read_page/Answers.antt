use Rattle.std.proofs.Common.{rules}
use Rattle.treecheck.proofs.checking.read_page.Goals as goal

pub returns-in-Ok : goal.returns-in-Ok
returns-in-Ok g c = record { found = search rules; only = λ fa held. tt; reads = record { only = search rules; caused = tt } }

pub returns-in-Err : goal.returns-in-Err
returns-in-Err g c = record { found = λ fa. tt; only = search rules; reads = record { only = search rules; caused = search rules } }
