use Rattle.std.proofs.Common.{rules}
use Rattle.register.proofs.EntryLemmas.{head_made, head_pair}
use Rattle.register.proofs.SequenceLemmas.{both_read, first_refused, second_refused}
use Rattle.register.proofs.chain_reader.ChainReader.head.Goals as goal

pub returns-in_err-base : goal.returns-in_err-base
returns-in_err-base g c = first_refused head_pair c.from_residual.ensures.1 c.in_err-base.ensures

pub returns-in_err-space : goal.returns-in_err-space
returns-in_err-space g c = second_refused head_pair c.from_residual-in_err-space.ensures.1 c.in_ok-base.ensures c.in_err-space.ensures

pub returns : goal.returns
returns g c = both_read head_pair (head_made _ _ (search rules)) c.in_ok-base.ensures c.in_ok-space.ensures
