-- Places of the plane, over whole numbers without bound.
use Rattle.std.specs.Prelude.{ℤ, ◌+ℤ◌, ◌-ℤ◌, ◌*ℤ◌, ◌≤◌, unsigned_abs}

-- a corner of a ring, at (x, y)
pub record Corner : Type 0 where
  pub x : ℤ
  pub y : ℤ

-- the way from one corner of a ring to the next
pub record Edge : Type 0 where
  pub from : Corner
  pub to : Corner

-- a point of the plane, at (x / d, y / d), where d is above 0
pub record Point : Type 0 where
  pub x : ℤ
  pub y : ℤ
  pub d : ℤ

-- a course: a straight move from (x0, y0) to (x1, y1), at an even speed
pub record CourseView : Type 0 where
  pub x0 : ℤ
  pub y0 : ℤ
  pub x1 : ℤ
  pub y1 : ℤ

-- a coordinate in units of 10^-7 is at most 10^8 in size
abbrev pub IsCoordinate : ℤ → Type 0
IsCoordinate v = unsigned_abs v ≤ 1000000000000000

-- both coordinates of a corner are in range
pub record IsCorner (corner : Corner) : Type 0 where
  pub x : IsCoordinate corner.x
  pub y : IsCoordinate corner.y

-- all coordinates of a course are in range
pub record IsCourse (course : CourseView) : Type 0 where
  pub x0 : IsCoordinate course.x0
  pub y0 : IsCoordinate course.y0
  pub x1 : IsCoordinate course.x1
  pub y1 : IsCoordinate course.y1

-- where the course is at the fraction num / den of it
abbrev pub point_at : CourseView → ℤ → ℤ → Point
point_at course num den =
    record {
      x = course.x0 *ℤ den +ℤ (course.x1 -ℤ course.x0) *ℤ num;
      y = course.y0 *ℤ den +ℤ (course.y1 -ℤ course.y0) *ℤ num;
      d = den;
    }
