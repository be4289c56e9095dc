use Rattle.std.proofs.Common.{◌≡◌, ◌∙◌, ap, subst, sym}
use Rattle.zones.specs.Turns.{side_slope, sign}
use Rattle.zoning.specs.Sides.{IsSideAfter, edge_of, side_after, side_by}
use Rattle.zoning.proofs.SideLemmas.{is_after}
use Rattle.zoning.proofs.sides.side_after.Goals as goal

pub returns : goal.returns
returns c =
    let gate = c.args.gate.now in
    let leg = c.args.leg.now in
    let value : c.side_by.result ≡ side_after gate leg = c.side_by.ensures ∙ ap side_by (c.heading.ensures ∙ ap (λ l. sign (side_slope l (edge_of gate))) c.course_of.ensures) in
    λ rises. subst (IsSideAfter gate leg) (sym value) (is_after gate leg rises)
