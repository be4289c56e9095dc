use Rattle.std.proofs.Common.{◌∙◌}
use Rattle.predicates.proofs.LegLemmas.{box_meets}
use Rattle.predicates.proofs.courses.may_be_inside.Goals as goal

pub returns : goal.returns
returns c some =
    let met = box_meets c.args.leg.now c.args.rect.now c.args.period.now (rw (← c.leg.view_is) c.leg.invariant.rises) some in
    c.meets.ensures.value ∙ rw (c.of.ensures, c.new.ensures) met
