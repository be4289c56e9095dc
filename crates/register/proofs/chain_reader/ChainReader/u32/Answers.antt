use Rattle.std.proofs.Common.{rules, ◌∙◌}
use Rattle.byteorder.specs.Endian.{big_bytes}
use Rattle.byteorder.specs.Numbers.{length-bytes_high_first}
use Rattle.register.specs.Text.{IsNumber}
use Rattle.register.proofs.ValueLemmas.{filled, not_filled}
use Rattle.register.proofs.chain_reader.ChainReader.u32.Goals as goal

pub returns-in_err-fill : goal.returns-in_err-fill
returns-in_err-fill g c = not_filled (big_bytes 4) (IsNumber 32) 4 (λ v. length-bytes_high_first 4 v) c.from_residual.ensures.1 c.in_err-fill.ensures

pub returns : goal.returns
returns g c = filled c.in_ok-fill.ensures (c.u32_of-value.ensures ∙ c.ahead.ensures.value) (search rules) c.skip.ensures
