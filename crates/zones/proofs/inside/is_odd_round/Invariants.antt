use Rattle.std.proofs.Common.{◌≡◌, drop}
use Rattle.zones.specs.Places.{point_at}
use Rattle.zones.specs.Edges.{either}
use Rattle.zones.specs.Zones.{edges, edges_after, is_odd}
use Rattle.zones.proofs.inside.is_odd_round.Given as goal

-- those that were passed, and those that are left
abbrev pub invariant-loop-to : goal.invariant-loop-to
invariant-loop-to l =
    either l.odd (is_odd (edges_after l.from (drop l.to-index l.corners)) (point_at l.course l.at.num l.at.den))
    ≡ is_odd (edges l.ring) (point_at l.course l.at.num l.at.den)
