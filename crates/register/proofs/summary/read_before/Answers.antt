use Rattle.register.proofs.ReaderLemmas.{goes_on, later_fault, pages_refused}
use Rattle.register.proofs.SummaryLemmas.{before_said, begins, no_before, no_text}
use Rattle.register.proofs.summary.read_before.Goals as goal

pub returns-in_err-flag : goal.returns-in_err-flag
returns-in_err-flag g c =
    let f = c.args.fields.now in
    let flag = c.in_err-flag.ensures in
    pages_refused c.in_err-flag.field-0.0 c.from_residual.ensures.1 (λ at shows b contents holds. no_text at shows flag b contents (begins at c.args.cache.now.count f.first f.length contents c.new-reader.result c.new-reader.ensures holds)) flag.reads flag.caused

pub returns-in-Ok : goal.returns-in-Ok
returns-in-Ok g c = record {
  is = λ at shows contents holds.
      before_said at shows c.in_ok-flag.ensures c.in-1.is c.in-Ok.ensures contents holds.whole (begins at c.args.cache.now.count c.args.fields.now.first c.args.fields.now.length contents c.new-reader.result c.new-reader.ensures holds);
  broken = tt;
  reads = goes_on c.in_ok-flag.ensures.reads c.in-Ok.ensures.reads;
  caused = tt;
}

pub returns-in-1 : goal.returns-in-1
returns-in-1 g c = record {
  is = tt;
  broken = λ at shows b contents holds.
      no_before at shows c.in_ok-flag.ensures c.in-1.is c.in-Err.ensures b contents holds.whole (begins at c.args.cache.now.count c.args.fields.now.first c.args.fields.now.length contents c.new-reader.result c.new-reader.ensures holds);
  reads = goes_on c.in_ok-flag.ensures.reads c.in-Err.ensures.reads;
  caused = later_fault c.args.cache.now c.byte.new.cache c.before_rows.new.cache c.in-Err.fault c.in_ok-flag.ensures.reads c.in-Err.ensures.caused;
}
