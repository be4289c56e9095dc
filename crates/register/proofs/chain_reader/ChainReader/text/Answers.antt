use Rattle.register.proofs.ReaderLemmas.{refused}
use Rattle.register.proofs.ValueLemmas.{no_length, no_text, text_cut, text_taken}
use Rattle.register.proofs.chain_reader.ChainReader.text.Goals as goal

pub returns-in_err-len : goal.returns-in_err-len
returns-in_err-len g c = refused c.from_residual.ensures.1 (no_length c.in_err-len.ensures)

pub returns-in_err-fill : goal.returns-in_err-fill
returns-in_err-fill g c = refused c.from_residual-in_err-fill.ensures.1 (text_cut c.in_ok-len.ensures c.in_err-fill.ensures)

pub returns-in_err-text : goal.returns-in_err-text
returns-in_err-text g c = refused c.from_residual-in_err-text.ensures.1 (no_text c.in_ok-len.ensures c.in_ok-fill.ensures c.in_err-text.ensures.fault c.in_err-text.ensures.broken)

pub returns : goal.returns
returns g c = text_taken c.in_ok-len.ensures c.in_ok-fill.ensures c.in_ok-text.ensures.is.0 c.in_ok-text.ensures.is.1 c.skip.ensures
