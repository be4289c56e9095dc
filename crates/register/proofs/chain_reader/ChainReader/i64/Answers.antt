use Rattle.std.proofs.Common.{rules}
use Rattle.std.specs.Int.{w64, cast_unsigned}
use Rattle.tbnode.specs.Parts.{signed_bytes}
use Rattle.byteorder.specs.Numbers.{length-bytes_high_first}
use Rattle.register.specs.Text.{IsSigned}
use Rattle.register.proofs.ValueLemmas.{not_filled}
use Rattle.register.proofs.chain_reader.ChainReader.i64.Goals as goal

pub returns-in_err-fill : goal.returns-in_err-fill
returns-in_err-fill g c = not_filled signed_bytes IsSigned 8 (λ v. length-bytes_high_first 8 (cast_unsigned w64 v)) c.from_residual.ensures.1 c.in_err-fill.ensures

pub returns : goal.returns
returns g c = record { taken = search rules; lacks = tt; reads = c.in_ok-fill.ensures.reads; caused = search rules }
