use Rattle.std.proofs.Common.{refl}
use Rattle.register.proofs.EntryLemmas.{space_pair}
use Rattle.register.proofs.SequenceLemmas.{both_read, first_refused, second_refused}
use Rattle.register.proofs.chain_reader.ChainReader.space.Goals as goal

pub returns-in_err-crs : goal.returns-in_err-crs
returns-in_err-crs g c = first_refused space_pair c.from_residual.ensures.1 c.in_err-crs.ensures

pub returns-in_err-columns : goal.returns-in_err-columns
returns-in_err-columns g c = second_refused space_pair c.from_residual-in_err-columns.ensures.1 c.in_ok-crs.ensures c.in_err-columns.ensures

pub returns : goal.returns
returns g c = both_read space_pair (λ h k. (record { crs = h; columns = k }, refl)) c.in_ok-crs.ensures c.in_ok-columns.ensures
