use Rattle.std.proofs.Common.{◌∙◌}
use Rattle.register.specs.Text.{kept_text, FitsKept}
use Rattle.register.proofs.KeptLemmas.{kept_length}
use Rattle.register.proofs.ValueLemmas.{filled, not_filled}
use Rattle.register.proofs.chain_reader.ChainReader.kept.Goals as goal

pub returns-in_err-fill : goal.returns-in_err-fill
returns-in_err-fill g c = not_filled kept_text FitsKept 28 kept_length c.from_residual.ensures.1 c.in_err-fill.ensures

pub returns : goal.returns
returns g c = filled c.in_ok-fill.ensures (c.kept_of-kept.ensures.text ∙ c.ahead.ensures.value) c.kept_of-kept.ensures.fits c.skip.ensures
