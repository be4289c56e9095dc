use Rattle.std.proofs.Common.{refl}
use Rattle.register.proofs.SequenceLemmas.{both_read, first_refused, second_refused}
use Rattle.register.proofs.SummaryLemmas.{before_pair}
use Rattle.register.proofs.chain_reader.ChainReader.before_rows.Goals as goal

pub returns-in_err-head : goal.returns-in_err-head
returns-in_err-head g c = first_refused before_pair c.from_residual.ensures.1 c.in_err-head.ensures

pub returns-in_err-features : goal.returns-in_err-features
returns-in_err-features g c = second_refused before_pair c.from_residual-in_err-features.ensures.1 c.in_ok-head.ensures c.in_err-features.ensures

pub returns : goal.returns
returns g c = both_read before_pair (λ h k. (record { head = h; features = k }, refl)) c.in_ok-head.ensures c.in_ok-features.ensures
