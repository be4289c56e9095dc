use Rattle.std.proofs.Common.{◌≡◌, drop}
use Rattle.zones.specs.Places.{point_at}
use Rattle.zones.specs.Edges.{either}
use Rattle.zones.specs.Zones.{zone_edges, is_on_some, is_odd}
use Rattle.zones.proofs.inside.is_inside.Given as goal

abbrev pub invariant-loop-ring : goal.invariant-loop-ring
invariant-loop-ring l = record {
  on :
      is_on_some (zone_edges (drop l.ring-index l.rings)) (point_at l.course l.at.num l.at.den)
      ≡ is_on_some (zone_edges l.rings) (point_at l.course l.at.num l.at.den);
  odd :
      either l.odd (is_odd (zone_edges (drop l.ring-index l.rings)) (point_at l.course l.at.num l.at.den))
      ≡ is_odd (zone_edges l.rings) (point_at l.course l.at.num l.at.den);
}
