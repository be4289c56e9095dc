use Rattle.std.proofs.Common.{sym}
use Rattle.register.proofs.WholeLemmas.{catalogue_pair}
use Rattle.register.proofs.SequenceLemmas.{both_read, first_refused, second_refused}
use Rattle.register.proofs.chain_reader.ChainReader.catalogue.Goals as goal

pub returns-in_err-flag : goal.returns-in_err-flag
returns-in_err-flag g c = first_refused (catalogue_pair c.args.limits.now.legs) c.from_residual.ensures.1 c.in_err-flag.ensures

pub returns-in_err-contents : goal.returns-in_err-contents
returns-in_err-contents g c = second_refused (catalogue_pair c.args.limits.now.legs) c.from_residual-in_err-contents.ensures.1 c.in_ok-flag.ensures c.in_err-contents.ensures

pub returns : goal.returns
returns g c = both_read (catalogue_pair c.args.limits.now.legs) (λ h k. (k.0, sym k.1)) c.in_ok-flag.ensures c.in_ok-contents.ensures
