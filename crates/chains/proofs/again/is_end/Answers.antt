use Rattle.std.proofs.Common.{Some, ap, arith, sym, ◌∙◌}
use Rattle.legs.specs.Legs.{LegView}
use Rattle.chains.specs.Links.{is_end}
use Rattle.chains.proofs.AgainLemmas.{ends_by, lt_by, not_none}
use Rattle.chains.proofs.again.is_end.Goals as goal

pub returns-in-Some-leg : goal.returns-in-Some-leg
returns-in-Some-leg c = λ view e.
    let ends = ends_by c.in-Some.period view.legs c.in-Some-leg.first (sym c.in-Some-leg.is ∙ c.leg.ensures view e) in
    let tested = lt_by _ _ c.in-Some-leg.first.t0 c.in-Some.period.start (ap (λ (l : LegView). l.t0) c.first.view_is) c.start.ensures.value in
    ap Some (c.lt.ensures ∙ tested ∙ ends ∙ ap (λ p. is_end p view.legs) (sym c.in-Some.is))

pub returns-in-None-leg : goal.returns-in-None-leg
returns-in-None-leg c = λ view e.
    absurd (not_none view.legs 0 (omega (arith, c.len.ensures.least, c.len.ensures.value view e)) (sym c.in-None-leg.is ∙ c.leg.ensures view e))
