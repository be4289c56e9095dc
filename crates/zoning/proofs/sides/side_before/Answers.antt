use Rattle.std.proofs.Common.{◌≡◌, ◌∙◌, ap, subst, sym}
use Rattle.std.specs.Ordering.{ordering_reverse}
use Rattle.zones.specs.Turns.{side_slope, sign}
use Rattle.zoning.specs.Sides.{IsSideBefore, edge_of, side_before, side_by}
use Rattle.zoning.proofs.SideLemmas.{is_before}
use Rattle.zoning.proofs.sides.side_before.Goals as goal

pub returns : goal.returns
returns c =
    let gate = c.args.gate.now in
    let leg = c.args.leg.now in
    let value : c.side_by.result ≡ side_before gate leg =
    c.side_by.ensures ∙ ap side_by (c.reverse.ensures ∙ ap ordering_reverse (c.heading.ensures ∙ ap (λ l. sign (side_slope l (edge_of gate))) c.course_of.ensures)) in
    λ rises. subst (IsSideBefore gate leg) (sym value) (is_before gate leg rises)
