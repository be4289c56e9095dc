use Rattle.std.proofs.Common.{arith, rules}
use Rattle.register.proofs.PrefixLemmas.{column_free}
use Rattle.register.proofs.ReaderLemmas.{goes_on}
use Rattle.register.proofs.SequenceLemmas.{list_read, list_refused, one_read}
use Rattle.register.proofs.chain_reader.ChainReader.columns.Goals as goal

pub returns-in_err-column : goal.returns-in_err-column
returns-in_err-column g c = list_refused column_free c.loop-test.true c.from_residual.ensures.1 c.loop.invariant c.in_err-column.ensures

pub loop-preserved : goal.loop-preserved
loop-preserved g c = one_read column_free c.in_ok-push.ensures.items c.loop.invariant c.in_ok-column.ensures

pub returns : goal.returns
returns g c = list_read column_free (omega (arith, c.loop-test.false, c.loop.auto.counter-end)) c.from.ensures c.loop.invariant

pub returns-in_err-push : goal.returns-in_err-push
returns-in_err-push g c = record {
  taken = search rules;
  lacks = search rules;
  reads = goes_on c.loop.invariant.reads c.in_ok-column.ensures.reads;
  caused = search rules;
}
