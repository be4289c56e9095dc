use Rattle.std.proofs.Common.{subst, ◌<ℤ◌}
use Rattle.mfcsv.specs.declared.Position.{Position}
use Rattle.legs.specs.Legs.{LegView}
use Rattle.clipping.specs.Clip.{Clips}
use Rattle.clipping.specs.declared.line.Frac.{Frac}
use Rattle.moments.specs.Ends.{IsEndBy}
use Rattle.moments.specs.Parts.{IsAt, IsWhole}
use Rattle.moments.specs.Stays.{IsPositionAt}
use Rattle.moments.specs.declared.moment.Moment.{Moment}
use Rattle.moments.proofs.StayLemmas.{between_is, coord_is, first_is, high_part, last_is, low_part}
use Rattle.moments.proofs.stay.stay_of.Goals as goal

pub returns-in_err-cut : goal.returns-in_err-cut
unfolding Clips
returns-in_err-cut c = rw c.from_residual.ensures c.in_err-cut.ensures

pub moment_at-enters-requires : goal.moment_at-enters-requires
moment_at-enters-requires c = low_part c.in_ok-cut.cut

pub moment_at-leaves-requires : goal.moment_at-leaves-requires
moment_at-leaves-requires c = high_part c.in_ok-cut.cut

pub position_at-requires : goal.position_at-requires
position_at-requires c = low_part c.in_ok-cut.cut

pub position_at-requires-2 : goal.position_at-requires-2
position_at-requires-2 c = high_part c.in_ok-cut.cut

position_is : (leg : LegView) (part : Frac) (m : Moment) (p : Position) → leg.t0 <ℤ leg.t1 → IsAt leg part m.num m.den → IsWhole part leg.x0 leg.x1 p.x → IsWhole part leg.y0 leg.y1 p.y → IsWhole part leg.z0 leg.z1 p.z
    → IsPositionAt leg m.num m.den p
position_is leg part m p rises at x y z = record {
  x = coord_is leg part leg.x0 leg.x1 m.num p.x m.den rises m.positive at x;
  y = coord_is leg part leg.y0 leg.y1 m.num p.y m.den rises m.positive at y;
  z = coord_is leg part leg.z0 leg.z1 m.num p.z m.den rises m.positive at z;
}

pub returns : goal.returns
unfolding Clips
returns c =
    let leg = c.args.leg.now in
    let rect = c.args.rect.now in
    let period = c.args.period.now in
    let cut = c.in_ok-cut.cut in
    let rises = c.moment_at-enters.ensures.rises in
    let enters = c.moment_at-enters.result in
    let leaves = c.moment_at-leaves.result in
    let clip = c.in_ok-cut.ensures.0 in
    record {
      same = c.leg.view_is;
      first = first_is leg rect period cut rises clip enters.num enters.den enters.positive c.moment_at-enters.ensures.at;
      last = last_is leg rect period cut rises clip leaves.num leaves.den leaves.positive c.moment_at-leaves.ensures.at;
      between = between_is leg rect period cut rises clip enters.num leaves.num enters.den leaves.den enters.positive leaves.positive c.moment_at-enters.ensures.at c.moment_at-leaves.ensures.at;
      entry = position_is leg cut.lo enters c.position_at.result rises c.moment_at-enters.ensures.at c.position_at.ensures.x c.position_at.ensures.y c.position_at.ensures.z;
      exit = position_is leg cut.hi leaves c.position_at-2.result rises c.moment_at-leaves.ensures.at c.position_at-2.ensures.x c.position_at-2.ensures.y c.position_at-2.ensures.z;
      begun = subst (λ p. IsEndBy enters leg.t0 p c.end_by.result) c.start.ensures.value
          (subst (λ (l : LegView). IsEndBy enters l.t0 c.start.result c.end_by.result) c.leg.view_is c.end_by.ensures);
      ended = subst (λ p. IsEndBy leaves leg.t1 p c.end_by-2.result) c.end.ensures.value
          (subst (λ (l : LegView). IsEndBy leaves l.t1 c.end.result c.end_by-2.result) c.leg.view_is c.end_by-2.ensures);
    }
