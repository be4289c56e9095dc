use Rattle.std.proofs.Common.{ℤ, pos, ◌*ℤ◌, ◌<ℤ◌, ◌≤ℤ◌, drop}
use Rattle.zones.specs.Places.{point_at}
use Rattle.zones.specs.Zones.{edges, edges_after}
use Rattle.zones.specs.Turns.{AllCalm}
use Rattle.zones.proofs.turns.turn_round.Given as goal

-- up to the turn so far, what is calm of the edges that are left is calm of all
abbrev pub invariant-loop-to : goal.invariant-loop-to
invariant-loop-to l = record {
  after : (l.first.num *ℤ l.turn.den) <ℤ (l.turn.num *ℤ l.first.den);
  up_to : (l.turn.num *ℤ l.fn.last.den) ≤ℤ (l.fn.last.num *ℤ l.turn.den);
  calm :
      (n d : ℤ) → pos 0 <ℤ d → (l.first.num *ℤ d) <ℤ (n *ℤ l.first.den) → (n *ℤ l.turn.den) ≤ℤ (l.turn.num *ℤ d)
      → AllCalm (edges_after l.from (drop l.to-index l.corners)) (point_at l.course l.first.num l.first.den) (point_at l.course n d)
      → AllCalm (edges l.ring) (point_at l.course l.first.num l.first.den) (point_at l.course n d);
}
