use Rattle.std.proofs.Common.{ℤ, pos, true, ◌≡◌, ◌*ℤ◌, ◌<ℤ◌, ◌≤ℤ◌}
use Rattle.zones.specs.Places.{point_at}
use Rattle.zones.specs.Zones.{in_zone}
use Rattle.zones.proofs.Falling.{left}
use Rattle.zones.proofs.leaving.stay_from.Given as goal

abbrev pub invariant-pieces : goal.invariant-pieces
invariant-pieces l = record {
  from : (l.fn.first.num *ℤ l.at.den) ≤ℤ (l.at.num *ℤ l.fn.first.den);
  up_to : (l.at.num *ℤ l.last.den) ≤ℤ (l.last.num *ℤ l.at.den);
  inside :
      (n d : ℤ) → pos 0 <ℤ d → (l.fn.first.num *ℤ d) ≤ℤ (n *ℤ l.fn.first.den) → (n *ℤ l.at.den) ≤ℤ (l.at.num *ℤ d)
      → in_zone l.rings (point_at l.course n d) ≡ true;
}

abbrev pub decreases-pieces : goal.decreases-pieces
decreases-pieces l = left l.at.num l.at.den l.last.num l.last.den
