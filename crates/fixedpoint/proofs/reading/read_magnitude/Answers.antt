use Rattle.std.proofs.Common.{◌∙◌, ap, min, ◌+◌}
use Rattle.fixedpoint.proofs.MagnitudeLemmas.{magnitude_of_cut}
use Rattle.fixedpoint.proofs.reading.read_magnitude.Goals as goal

pub returns-clause-value : goal.returns-clause-value
returns-clause-value c =
    magnitude_of_cut c.args.scale.factor c.args.scale.places c.args.text.now c.in_ok-cut.cut.units c.in_ok-cut.cut.dropped.now c.round.result c.saturating_add.result
    c.requires.factor.0 c.in_ok-cut.ensures.cut c.round.ensures (c.saturating_add.ensures ∙ ap (λ x. min (x + c.round.result) 18446744073709551615) c.saturating_mul-front.ensures)
