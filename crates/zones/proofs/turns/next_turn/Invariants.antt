use Rattle.std.proofs.Common.{ℤ, pos, ◌*ℤ◌, ◌<ℤ◌, ◌≤ℤ◌, drop}
use Rattle.zones.specs.Places.{point_at}
use Rattle.zones.specs.Zones.{zone_edges}
use Rattle.zones.specs.Turns.{AllCalm}
use Rattle.zones.proofs.turns.next_turn.Given as goal

-- up to the turn so far, what is calm of the edges that are left is calm of all
abbrev pub invariant-loop-ring : goal.invariant-loop-ring
invariant-loop-ring l = record {
  after : (l.first.num *ℤ l.turn.den) <ℤ (l.turn.num *ℤ l.first.den);
  up_to : (l.turn.num *ℤ l.fn.last.den) ≤ℤ (l.fn.last.num *ℤ l.turn.den);
  calm :
      (n d : ℤ) → pos 0 <ℤ d → (l.first.num *ℤ d) <ℤ (n *ℤ l.first.den) → (n *ℤ l.turn.den) ≤ℤ (l.turn.num *ℤ d)
      → AllCalm (zone_edges (drop l.ring-index l.rings)) (point_at l.course l.first.num l.first.den) (point_at l.course n d)
      → AllCalm (zone_edges l.rings) (point_at l.course l.first.num l.first.den) (point_at l.course n d);
}
