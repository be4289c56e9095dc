use Rattle.std.proofs.Common.{refl, subst, sym}
use Rattle.register.specs.Text.{IsNumber}
use Rattle.register.proofs.EntryLemmas.{columns_pair}
use Rattle.register.proofs.SequenceLemmas.{first_refused, last_read}
use Rattle.register.proofs.chain_reader.ChainReader.counted_columns.Goals as goal

pub returns-in_err-count : goal.returns-in_err-count
returns-in_err-count g c = first_refused columns_pair c.from_residual.ensures.1 c.in_err-count.ensures

pub returns : goal.returns
returns g c = last_read columns_pair _ (λ v. refl) (λ v h k. (record { each = k.each; few = subst (IsNumber 64) (sym k.many) h }, sym k.many)) c.in_ok-count.ensures c.columns.ensures
