use Rattle.std.proofs.Common.{◌≡◌, drop}
use Rattle.zones.specs.Places.{point_at}
use Rattle.zones.specs.Zones.{edges, edges_after, is_on_some}
use Rattle.zones.proofs.inside.is_on_ring.Given as goal

-- what is left to pass
abbrev pub invariant-loop-to : goal.invariant-loop-to
invariant-loop-to l =
    is_on_some (edges_after l.from (drop l.to-index l.corners)) (point_at l.course l.at.num l.at.den)
    ≡ is_on_some (edges l.ring) (point_at l.course l.at.num l.at.den)
