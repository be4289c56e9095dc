use Rattle.std.proofs.Common.{rules, refl, ◌∷◌, []}
use Rattle.register.specs.Text.{IsNumber}
use Rattle.register.proofs.ValueLemmas.{filled, not_filled}
use Rattle.register.proofs.chain_reader.ChainReader.byte.Goals as goal

pub returns-in_err-fill : goal.returns-in_err-fill
returns-in_err-fill g c = not_filled (λ n. n ∷ []) (IsNumber 8) 1 (λ v. refl) c.from_residual.ensures.1 c.in_err-fill.ensures

pub returns : goal.returns
returns g c = filled c.in_ok-fill.ensures (search rules) (search rules) c.skip.ensures
