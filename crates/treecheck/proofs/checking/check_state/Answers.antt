use Rattle.std.proofs.Common.{rules}
use Rattle.treecheck.proofs.checking.check_state.Goals as goal

pub returns-in-Err : goal.returns-in-Err
returns-in-Err g c = record { found = λ fa. tt; only = search rules; reads = record { only = search rules; caused = search rules } }

pub returns-then-not-has_state : goal.returns-then-not-has_state
returns-then-not-has_state g c = record { found = λ fa. tt; only = search rules; reads = record { only = search rules; caused = tt } }

pub returns : goal.returns
returns g c = record { found = λ fa. (search rules, search rules); only = λ fa says. tt; reads = record { only = search rules; caused = tt } }
