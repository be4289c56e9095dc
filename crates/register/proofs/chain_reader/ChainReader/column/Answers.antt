use Rattle.std.proofs.Common.{refl}
use Rattle.register.proofs.EntryLemmas.{column_pair}
use Rattle.register.proofs.SequenceLemmas.{both_read, first_refused, second_refused}
use Rattle.register.proofs.chain_reader.ChainReader.column.Goals as goal

pub returns-in_err-name : goal.returns-in_err-name
returns-in_err-name g c = first_refused column_pair c.from_residual.ensures.1 c.in_err-name.ensures

pub returns-in_err-kind : goal.returns-in_err-kind
returns-in_err-kind g c = second_refused column_pair c.from_residual-in_err-kind.ensures.1 c.in_ok-name.ensures c.in_err-kind.ensures

pub returns : goal.returns
returns g c = both_read column_pair (λ h k. (record { name = h; kind = k }, refl)) c.in_ok-name.ensures c.in_ok-kind.ensures
