use Rattle.std.proofs.Common.{subst}
use Rattle.legs.specs.Legs.{LegView}
use Rattle.zoning.specs.Ends.{IsEndBy}
use Rattle.zoning.proofs.stay.stay_in.Goals as goal

pub returns-clause-same : goal.returns-clause-same
returns-clause-same c = c.leg.view_is

pub returns-clause-begun : goal.returns-clause-begun
returns-clause-begun c =
    let leg = c.args.leg.now in
    let enters = c.moment_at-enters.result in
    subst (λ p. IsEndBy enters leg.t0 p c.end_by-enters_by.result) c.start.ensures.value
    (subst (λ (l : LegView). IsEndBy enters l.t0 c.start.result c.end_by-enters_by.result) c.leg.view_is c.end_by-enters_by.ensures)

pub returns-clause-ended : goal.returns-clause-ended
returns-clause-ended c =
    let leg = c.args.leg.now in
    let leaves = c.moment_at-leaves.result in
    subst (λ p. IsEndBy leaves leg.t1 p c.end_by-leaves_by.result) c.end.ensures.value
    (subst (λ (l : LegView). IsEndBy leaves l.t1 c.end.result c.end_by-leaves_by.result) c.leg.view_is c.end_by-leaves_by.ensures)
