-- Where the signs turn round by which a point is told to be in a zone.
use Rattle.std.specs.Prelude.{Bool, true, false, if◌then◌else◌, List, [], ◌∷◌, ◌≡◌, ℤ, pos, ◌+ℤ◌, ◌-ℤ◌, ◌*ℤ◌}
use Rattle.std.specs.Ordering.{int_cmp, is_eq}
use Rattle.std.specs.declared.cmp.Ordering.{Ordering}
use Rattle.std.specs.declared.cmp.Ordering.TheVariants.{Less, Greater}
use Rattle.zones.specs.Places.{Corner, Edge, Point, CourseView}
use Rattle.zones.specs.Edges.{across, along}

-- a number against 0
abbrev pub sign : ℤ → Ordering
sign x = int_cmp x (pos 0)

-- c0 + c1 * s, at the fraction n / d, times d
abbrev pub at : ℤ → ℤ → ℤ → ℤ → ℤ
at c0 c1 n d = c0 *ℤ d +ℤ c1 *ℤ n

-- one is below 0 and one above
abbrev pub is_opposite : Ordering → Ordering → Bool
is_opposite Less Greater = true
is_opposite Greater Less = true
is_opposite _ _ = false

-- the point against a corner in y
abbrev pub height : Corner → Point → Ordering
height c p = int_cmp p.y (c.y *ℤ p.d)

-- the point against a corner in x
abbrev pub width : Corner → Point → Ordering
width c p = int_cmp p.x (c.x *ℤ p.d)

-- the point against an edge's line
abbrev pub side : Edge → Point → Ordering
side e p = int_cmp (across e p) (along e p)

-- the edge is not level
abbrev pub is_steep : Edge → Bool
is_steep e = if is_eq (sign (e.to.y -ℤ e.from.y)) then false else true

-- No sign that an edge is told by turns round from one point to another: neither that of its line nor of its corners'
-- heights, nor, where it is level, of its corners in x.
pub record Calm (e : Edge) (p q : Point) : Type 0 where
  pub side : is_opposite (side e p) (side e q) ≡ false
  pub from : is_opposite (height e.from p) (height e.from q) ≡ false
  pub to : is_opposite (height e.to p) (height e.to q) ≡ false
  pub x_from : is_steep e ≡ false → is_opposite (width e.from p) (width e.from q) ≡ false
  pub x_to : is_steep e ≡ false → is_opposite (width e.to p) (width e.to q) ≡ false

-- no sign of all the edges turns round
abbrev pub AllCalm : List Edge → Point → Point → Type 0
AllCalm [] p q = Unit {0}
AllCalm (e ∷ es) p q = Calm e p q × AllCalm es p q

-- a course's cross product with an edge's line, at the course's start
abbrev pub side_start : CourseView → Edge → ℤ
side_start l e = (l.x0 -ℤ e.from.x) *ℤ (e.to.y -ℤ e.from.y) -ℤ (l.y0 -ℤ e.from.y) *ℤ (e.to.x -ℤ e.from.x)

-- how that cross product grows
abbrev pub side_slope : CourseView → Edge → ℤ
side_slope l e = (l.x1 -ℤ l.x0) *ℤ (e.to.y -ℤ e.from.y) -ℤ (l.y1 -ℤ l.y0) *ℤ (e.to.x -ℤ e.from.x)
