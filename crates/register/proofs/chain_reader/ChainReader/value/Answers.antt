use Rattle.std.proofs.Common.{refl}
use Rattle.register.proofs.ReaderLemmas.{into_read, into_refused}
use Rattle.register.proofs.ValueLemmas.{no_length, no_text, text_cut, text_taken}
use Rattle.register.proofs.chain_reader.ChainReader.value.Goals as goal

pub returns-in_err-len : goal.returns-in_err-len
returns-in_err-len g c = into_refused c.from_residual.ensures.1 (no_length c.in_err-len.ensures)

pub returns-in_err-fill : goal.returns-in_err-fill
returns-in_err-fill g c = into_refused c.from_residual-in_err-fill.ensures.1 (text_cut c.in_ok-len.ensures c.in_err-fill.ensures)

pub returns-in_err-put_ready : goal.returns-in_err-put_ready
returns-in_err-put_ready g c =
    let put = c.in_err-put_ready.ensures in
    into_refused c.from_residual-in_err-put_ready.ensures.1 (no_text c.in_ok-len.ensures c.in_ok-fill.ensures put.fault put.broken)

pub returns : goal.returns
returns g c =
    let put = c.in_ok-put_ready.ensures in
    into_read put.is.0 (text_taken c.in_ok-len.ensures c.in_ok-fill.ensures refl put.is.1 c.skip.ensures)
