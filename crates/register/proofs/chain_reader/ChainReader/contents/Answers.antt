use Rattle.std.proofs.Common.{ap, length, refl}
use Rattle.register.proofs.EntryLemmas.{contents_pair, AreRead}
use Rattle.register.proofs.SequenceLemmas.{both_read, first_refused, second_refused, goes_with}
use Rattle.register.proofs.chain_reader.ChainReader.contents.Goals as goal

pub returns-in_err-head : goal.returns-in_err-head
returns-in_err-head g c = first_refused (contents_pair c.args.limits.now.legs) c.from_residual.ensures.1 c.in_err-head.ensures

pub returns-in_err-lists : goal.returns-in_err-lists
returns-in_err-lists g c = second_refused (contents_pair c.args.limits.now.legs) c.from_residual-in_err-lists.ensures.1 c.in_ok-head.ensures (goes_with (λ n. AreRead n c.args.limits.now.legs) (ap length c.as_slice.ensures) c.in_err-lists.ensures)

pub returns : goal.returns
returns g c = both_read (contents_pair c.args.limits.now.legs) (λ h k. (record { whole = record { head = h; lists = k.0 }; few = k.1 }, refl)) c.in_ok-head.ensures (goes_with (λ n. AreRead n c.args.limits.now.legs) (ap length c.as_slice.ensures) c.in_ok-lists.ensures)
