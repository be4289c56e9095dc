use Rattle.std.proofs.Common.{refl}
use Rattle.register.proofs.EntryLemmas.{feature_pair}
use Rattle.register.proofs.SequenceLemmas.{both_read, first_refused, second_refused}
use Rattle.register.proofs.chain_reader.ChainReader.feature.Goals as goal

pub returns-in_err-name : goal.returns-in_err-name
returns-in_err-name g c = first_refused feature_pair c.from_residual.ensures.1 c.in_err-name.ensures

pub returns-in_err-kept : goal.returns-in_err-kept
returns-in_err-kept g c = second_refused feature_pair c.from_residual-in_err-kept.ensures.1 c.in_ok-name.ensures c.in_err-kept.ensures

pub returns : goal.returns
returns g c = both_read feature_pair (λ h k. (record { name = h; kept = k }, refl)) c.in_ok-name.ensures c.in_ok-kept.ensures
