-- The sides of a gate.
use Rattle.std.specs.Prelude.{ℕ, ◌≡◌, ◌≤◌, Option, Some, None, ℤ, pos, ◌*ℤ◌, ◌<ℤ◌}
use Rattle.std.specs.Ordering.{ordering_reverse}
use Rattle.std.specs.declared.cmp.Ordering.{Ordering}
use Rattle.std.specs.declared.cmp.Ordering.TheVariants.{Less, Equal, Greater}
use Rattle.legs.specs.Legs.{LegView}
use Rattle.zones.specs.Places.{Edge}
use Rattle.zones.specs.Turns.{side, side_slope, sign}
use Rattle.zones.specs.declared.places.Gate.{Gate}
use Rattle.zoning.specs.Stays.{course_of, place_of}
use Rattle.zoning.specs.declared.sides.Side.{Side}
use Rattle.zoning.specs.declared.sides.Side.TheVariants.{Left, Right}

-- the gate from its first position to its second
abbrev pub edge_of : Gate → Edge
edge_of gate = record { from = gate.from; to = gate.to }

-- the side that a sign of the cross product tells
abbrev pub side_by : Ordering → Option Side
side_by Less = Some Left
side_by Equal = None
side_by Greater = Some Right

-- the side of the gate's line on which a leg is at the moment n / d; none on the line
abbrev pub side_at : Gate → LegView → ℤ → ℕ → Option Side
side_at gate leg n d = side_by (side (edge_of gate) (place_of leg n d))

-- where a leg is on the gate's line at a moment n / d, it is on that side at each later moment m / e
abbrev pub IsSideAfter : Gate → LegView → Option Side → Type 0
IsSideAfter gate leg result =
    (n m : ℤ) (d e : ℕ) → 1 ≤ d → 1 ≤ e → side_at gate leg n d ≡ None → (n *ℤ pos e) <ℤ (m *ℤ pos d)
    → side_at gate leg m e ≡ result

-- and at each earlier one
abbrev pub IsSideBefore : Gate → LegView → Option Side → Type 0
IsSideBefore gate leg result =
    (n m : ℤ) (d e : ℕ) → 1 ≤ d → 1 ≤ e → side_at gate leg n d ≡ None → (m *ℤ pos d) <ℤ (n *ℤ pos e)
    → side_at gate leg m e ≡ result

-- Helpers of private functions.
-- the side to which a leg crosses the gate's line: by how the cross product grows
abbrev pub side_after : Gate → LegView → Option Side
side_after gate leg = side_by (sign (side_slope (course_of leg) (edge_of gate)))

-- and from which
abbrev pub side_before : Gate → LegView → Option Side
side_before gate leg = side_by (ordering_reverse (sign (side_slope (course_of leg) (edge_of gate))))
