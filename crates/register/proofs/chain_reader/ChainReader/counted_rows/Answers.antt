use Rattle.std.proofs.Common.{arith, refl, subst, sym}
use Rattle.register.specs.Text.{IsNumber}
use Rattle.register.proofs.EntryLemmas.{rows_pair}
use Rattle.register.proofs.SequenceLemmas.{first_refused, last_read, first_unfit}
use Rattle.register.proofs.chain_reader.ChainReader.counted_rows.Goals as goal

pub returns-in_err-count : goal.returns-in_err-count
returns-in_err-count g c = first_refused (rows_pair c.args.columns c.args.most) c.from_residual.ensures.1 c.in_err-count.ensures

pub returns-then-from-most : goal.returns-then-from-most
returns-then-from-most g c = first_unfit (rows_pair c.args.columns c.args.most) (λ v k same. let few = k.1 in omega (arith, same, few, c.if-from-most.true)) c.in_ok-count.ensures

pub returns : goal.returns
returns g c = last_read (rows_pair c.args.columns c.args.most) _ (λ v. refl) (λ v h k.
    let many = k.many in
    ((record { each = k.each; few = subst (IsNumber 32) (sym many) h }, omega (arith, many, c.if-from-most.false)), sym many)) c.in_ok-count.ensures c.rows.ensures
