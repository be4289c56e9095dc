-- What an edge of a ring has to do with a point.
use Rattle.std.specs.Prelude.{Bool, true, false, not, ◌&&◌, ◌||◌, if◌then◌else◌, ℤ, ◌-ℤ◌, ◌*ℤ◌, int_le, int_lt}
use Rattle.std.specs.Ordering.{int_eq}
use Rattle.std.specs.declared.cmp.Ordering.{Ordering}
use Rattle.std.specs.declared.cmp.Ordering.TheVariants.{Less, Greater}
use Rattle.zones.specs.Places.{Corner, Edge, Point}

-- v is between a and b, or one of them
abbrev pub is_between : ℤ → ℤ → ℤ → Bool
is_between a b v = (int_le a v && int_le v b) || (int_le b v && int_le v a)

-- the two products that are equal where the point is on the edge's line: of the way to it in x with the edge's rise,
-- and of the way to it in y with the edge's run
abbrev pub across : Edge → Point → ℤ
across e p = (p.x -ℤ e.from.x *ℤ p.d) *ℤ (e.to.y -ℤ e.from.y)

-- the second of the two
abbrev pub along : Edge → Point → ℤ
along e p = (p.y -ℤ e.from.y *ℤ p.d) *ℤ (e.to.x -ℤ e.from.x)

-- the point is on the edge, or one of its ends
unfoldable pub is_on_edge : Edge → Point → Bool
is_on_edge e p =
    int_eq (across e p) (along e p)
    && is_between (e.from.x *ℤ p.d) (e.to.x *ℤ p.d) p.x
    && is_between (e.from.y *ℤ p.d) (e.to.y *ℤ p.d) p.y

-- exactly one of two
abbrev pub either : Bool → Bool → Bool
either true b = not b
either false b = b

-- the corner is at most as high as the point
abbrev pub is_not_above : Corner → Point → Bool
is_not_above c p = int_le (c.y *ℤ p.d) p.y

-- the edge is crossed by the ray from the point to greater x; a corner at the ray's height counts as below it
unfoldable pub is_crossed : Edge → Point → Bool
is_crossed e p =
    either (is_not_above e.from p) (is_not_above e.to p)
    && (if int_lt e.from.y e.to.y then int_lt (across e p) (along e p) else int_lt (along e p) (across e p))

-- Helpers of private functions.
-- what is compared so with two numbers is between them
abbrev pub is_between_by : Ordering → Ordering → Bool
is_between_by Less Less = false
is_between_by Greater Greater = false
is_between_by _ _ = true
