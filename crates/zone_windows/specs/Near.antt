-- Zones that are one in a window.
use Rattle.std.specs.Prelude.{Bool, false, ◌&&◌, ◌||◌, if◌then◌else◌, ◌≡◌, List, [], ◌∷◌, ◌++◌, ℤ, pos, ◌-ℤ◌, ◌*ℤ◌, ◌<ℤ◌, ◌≤ℤ◌, int_lt}
use Rattle.std.specs.Int.{int_max, int_min}
use Rattle.std.specs.List.{list_all}
use Rattle.zones.specs.Places.{Corner, CourseView, Point, point_at}
use Rattle.zones.specs.Zones.{in_zone, last_after}
use Rattle.zone_windows.specs.declared.near.Window.{Window}

-- the point is in the window, its sides among it
pub record IsInWindow (window : Window) (p : Point) : Type 0 where
  pub positive : pos 0 <ℤ p.d
  pub from_left : (window.left *ℤ p.d) ≤ℤ p.x
  pub to_right : p.x ≤ℤ (window.right *ℤ p.d)
  pub from_low : (window.low *ℤ p.d) ≤ℤ p.y
  pub to_high : p.y ≤ℤ (window.high *ℤ p.d)

-- at each point in the window the one zone is the other
abbrev pub AgreeIn : Window → List (List Corner) → List (List Corner) → Type 0
AgreeIn window one other = (p : Point) → IsInWindow window p → in_zone one p ≡ in_zone other p

-- at each place on the course, from its start to its end, the one zone is the other
abbrev pub AgreeOn : CourseView → List (List Corner) → List (List Corner) → Type 0
AgreeOn course one other =
    (num den : ℤ) → pos 0 <ℤ den → pos 0 ≤ℤ num → num ≤ℤ den → in_zone one (point_at course num den) ≡ in_zone other (point_at course num den)

-- Helpers of private functions.
-- the least window with the course
abbrev pub window_of : CourseView → Window
window_of course =
    record {
      left = int_min course.x0 course.x1;
      right = int_max course.x0 course.x1;
      low = int_min course.y0 course.y1;
      high = int_max course.y0 course.y1;
    }

-- the point is on the course's line; all points are if the course stands still
pub record IsOnLine (course : CourseView) (p : Point) : Type 0 where
  pub on : (p.x -ℤ course.x0 *ℤ p.d) *ℤ (course.y1 -ℤ course.y0) ≡ (p.y -ℤ course.y0 *ℤ p.d) *ℤ (course.x1 -ℤ course.x0)

-- at each point in the window on the course's line the one zone is the other
abbrev pub AgreeAlong : Window → CourseView → List (List Corner) → List (List Corner) → Type 0
AgreeAlong window course one other = (p : Point) → IsInWindow window p → IsOnLine course p → in_zone one p ≡ in_zone other p

-- the two products that are equal where the corner is on the course's line
abbrev pub along : CourseView → Corner → ℤ
along course c = (course.x1 -ℤ course.x0) *ℤ (c.y -ℤ course.y0)

-- the second of the two
abbrev pub across : CourseView → Corner → ℤ
across course c = (course.y1 -ℤ course.y0) *ℤ (c.x -ℤ course.x0)

-- the corner is left of the course's line
abbrev pub is_port : CourseView → Corner → Bool
is_port course c = int_lt (across course c) (along course c)

-- the corner is right of it
abbrev pub is_starboard : CourseView → Corner → Bool
is_starboard course c = int_lt (along course c) (across course c)

-- all three corners are left of the course's line
unfoldable pub are_port : CourseView → Corner → Corner → Corner → Bool
are_port course a b c = is_port course a && is_port course b && is_port course c

-- all three corners are right of it
unfoldable pub are_starboard : CourseView → Corner → Corner → Corner → Bool
are_starboard course a b c = is_starboard course a && is_starboard course b && is_starboard course c

-- the corner is above the window
abbrev pub is_above : Window → Corner → Bool
is_above window c = int_lt window.high c.y

-- the corner is below the window
abbrev pub is_below : Window → Corner → Bool
is_below window c = int_lt c.y window.low

-- the corner is left of the window
abbrev pub is_left : Window → Corner → Bool
is_left window c = int_lt c.x window.left

-- the corner is right of the window
abbrev pub is_right : Window → Corner → Bool
is_right window c = int_lt window.right c.x

-- all three corners are above the window
unfoldable pub are_above : Window → Corner → Corner → Corner → Bool
are_above window a b c = is_above window a && is_above window b && is_above window c

-- all three corners are below the window
unfoldable pub are_below : Window → Corner → Corner → Corner → Bool
are_below window a b c = is_below window a && is_below window b && is_below window c

-- all three corners are left of the window
unfoldable pub are_left : Window → Corner → Corner → Corner → Bool
are_left window a b c = is_left window a && is_left window b && is_left window c

-- all three corners are right of the window
unfoldable pub are_right : Window → Corner → Corner → Corner → Bool
are_right window a b c = is_right window a && is_right window b && is_right window c

-- three corners are all on one side of the window, or of the course's line
abbrev pub is_far : Window → CourseView → Corner → Corner → Corner → Bool
is_far window course a b c =
    are_above window a b c || are_below window a b c || are_left window a b c || are_right window a b c || are_port course a b c || are_starboard course a b c

-- a corner may be left out, between the one that stays before it and those behind it
abbrev pub is_needless : Window → CourseView → Corner → Corner → List Corner → Bool
is_needless window course a b [] = false
is_needless window course a b (c ∷ rest) = is_far window course a b c

-- what stays of the corners behind one that stays
abbrev pub near_after : Window → CourseView → Corner → List Corner → List Corner
near_after window course a [] = []
near_after window course a (b ∷ rest) =
    if is_needless window course a b rest then near_after window course a rest else b ∷ near_after window course b rest

-- what stays of a ring
abbrev pub near_ring : Window → CourseView → List Corner → List Corner
near_ring window course [] = []
near_ring window course (first ∷ rest) = near_after window course (last_after first rest) (first ∷ rest)

-- all corners of a ring are on one side of the window
abbrev pub is_ring_far : Window → List Corner → Bool
is_ring_far window ring =
    list_all (is_above window) ring || list_all (is_below window) ring || list_all (is_left window) ring || list_all (is_right window) ring

-- what stays of a ring, as a list of none or one
abbrev pub ring_kept : Window → CourseView → List Corner → List (List Corner)
ring_kept window course ring = if is_ring_far window ring then [] else near_ring window course ring ∷ []

-- what stays of a zone
abbrev pub near_rings : Window → CourseView → List (List Corner) → List (List Corner)
near_rings window course [] = []
near_rings window course (ring ∷ rings) = ring_kept window course ring ++ near_rings window course rings
