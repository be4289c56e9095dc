-- Boxes in the plane and in time.
use Rattle.std.specs.Prelude.{Bool, ◌&&◌, ◌^◌, ◌-◌, ℤ, pos, negsuc, ◌≤ℤ◌, int_le}
use Rattle.std.specs.Int.{int_max, int_min}
use Rattle.timebase.specs.Period.{PeriodView}
use Rattle.legs.specs.Legs.{LegView}

-- a rectangle, edges included
pub record RectView : Type 0 where
  pub x_min : ℤ
  pub y_min : ℤ
  pub x_max : ℤ
  pub y_max : ℤ

-- no least edge is above its greatest
pub record IsRect (rect : RectView) : Type 0 where
  pub x : rect.x_min ≤ℤ rect.x_max
  pub y : rect.y_min ≤ℤ rect.y_max

-- the rectangle between two corners
abbrev pub rect_of : ℤ → ℤ → ℤ → ℤ → RectView
rect_of x1 y1 x2 y2 = record { x_min = x1; y_min = y1; x_max = x2; y_max = y2 }

-- a box: a rectangle and a stretch of time, bounds included
pub record BoxView : Type 0 where
  pub x_min : ℤ
  pub y_min : ℤ
  pub t_min : ℤ
  pub x_max : ℤ
  pub y_max : ℤ
  pub t_max : ℤ

-- no least bound is above its greatest
pub record IsBox (b : BoxView) : Type 0 where
  pub x : b.x_min ≤ℤ b.x_max
  pub y : b.y_min ≤ℤ b.y_max
  pub t : b.t_min ≤ℤ b.t_max

-- the box of a leg
abbrev pub box_of : LegView → BoxView
box_of leg =
    record {
      x_min = int_min leg.x0 leg.x1;
      y_min = int_min leg.y0 leg.y1;
      t_min = leg.t0;
      x_max = int_max leg.x0 leg.x1;
      y_max = int_max leg.y0 leg.y1;
      t_max = leg.t1;
    }

-- the box over a rectangle and a period
abbrev pub box_over : RectView → PeriodView → BoxView
box_over rect period =
    record {
      x_min = rect.x_min;
      y_min = rect.y_min;
      t_min = period.start;
      x_max = rect.x_max;
      y_max = rect.y_max;
      t_max = period.end;
    }

-- the greatest box: from -2^63 to 2^63 - 1 in x, in y and in time
unfoldable pub everything : BoxView
everything =
    let least : ℤ = negsuc (2 ^ 63 - 1) in
    let greatest : ℤ = pos (2 ^ 63 - 1) in
    record {
      x_min = least;
      y_min = least;
      t_min = least;
      x_max = greatest;
      y_max = greatest;
      t_max = greatest;
    }

-- the closed intervals from a to b and from c to d meet
abbrev pub intervals_meet : ℤ → ℤ → ℤ → ℤ → Bool
intervals_meet a b c d = int_le a d && int_le c b

-- the intervals of x and of y of two boxes each meet
abbrev pub meet_in_plane : BoxView → BoxView → Bool
meet_in_plane p q =
    intervals_meet p.x_min p.x_max q.x_min q.x_max && intervals_meet p.y_min p.y_max q.y_min q.y_max

-- two boxes meet where their closed intervals of x, of y and of t each meet
abbrev pub boxes_meet : BoxView → BoxView → Bool
boxes_meet p q = meet_in_plane p q && intervals_meet p.t_min p.t_max q.t_min q.t_max

-- the box of a leg meets a rectangle, in the plane
abbrev pub is_near : RectView → LegView → Bool
is_near rect leg =
    intervals_meet (int_min leg.x0 leg.x1) (int_max leg.x0 leg.x1) rect.x_min rect.x_max
    && intervals_meet (int_min leg.y0 leg.y1) (int_max leg.y0 leg.y1) rect.y_min rect.y_max

-- the point lies in the box
pub record IsIn (x y t : ℤ) (b : BoxView) : Type 0 where
  pub left : b.x_min ≤ℤ x
  pub right : x ≤ℤ b.x_max
  pub bottom : b.y_min ≤ℤ y
  pub top : y ≤ℤ b.y_max
  pub first : b.t_min ≤ℤ t
  pub last : t ≤ℤ b.t_max

-- two boxes have a point in common
abbrev pub ShareAPoint : BoxView → BoxView → Type 0
ShareAPoint p q = (x : ℤ) × (y : ℤ) × (t : ℤ) × IsIn x y t p × IsIn x y t q

-- a box reaches as far as another on each side
pub record Holds (outer inner : BoxView) : Type 0 where
  pub left : outer.x_min ≤ℤ inner.x_min
  pub right : inner.x_max ≤ℤ outer.x_max
  pub bottom : outer.y_min ≤ℤ inner.y_min
  pub top : inner.y_max ≤ℤ outer.y_max
  pub first : outer.t_min ≤ℤ inner.t_min
  pub last : inner.t_max ≤ℤ outer.t_max

-- the box that reaches as far as either of two, on each side
abbrev pub cover_of : BoxView → BoxView → BoxView
cover_of p q = record {
  x_min = int_min p.x_min q.x_min;
  y_min = int_min p.y_min q.y_min;
  t_min = int_min p.t_min q.t_min;
  x_max = int_max p.x_max q.x_max;
  y_max = int_max p.y_max q.y_max;
  t_max = int_max p.t_max q.t_max;
}

-- the least box that holds both
pub record IsCover (cover p q : BoxView) : Type 0 where
  pub one : Holds cover p
  pub other : Holds cover q
  pub least : (b : BoxView) → Holds b p → Holds b q → Holds b cover
