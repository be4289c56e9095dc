use Rattle.std.proofs.Common.{ap, arith}
use Rattle.rows.specs.Rows.{Grown}
use Rattle.register.proofs.PrefixLemmas.{row_free}
use Rattle.register.proofs.SequenceLemmas.{list_read, list_refused, one_read}
use Rattle.register.proofs.chain_reader.ChainReader.rows.Goals as goal

pub returns-in_err-row : goal.returns-in_err-row
returns-in_err-row g c = list_refused (row_free c.args.columns) c.loop-test.true c.from_residual.ensures.1 c.loop.invariant.read c.in_err-row.ensures.read

pub loop-preserved : goal.loop-preserved
loop-preserved g c =
    let row = c.in_ok-row.ensures in
    record {
      read = one_read (row_free c.args.columns) (ap (λ (r : Grown). r.rows) row.put) c.loop.invariant.read row.read;
      ended = ap (λ (r : Grown). r.row) row.put;
    }

pub returns : goal.returns
returns g c = list_read (row_free c.args.columns) (omega (arith, c.loop-test.false, c.loop.auto.counter-end)) c.into_rows.ensures c.loop.invariant.read
