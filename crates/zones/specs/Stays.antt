-- A stay of a course in a zone.
use Rattle.std.specs.Prelude.{true, false, ◌≡◌, ◌⊎◌, List, ℤ, pos, ◌*ℤ◌, ◌<ℤ◌, ◌≤ℤ◌}
use Rattle.zones.specs.declared.cuts.CoursePlace.{CoursePlace}
use Rattle.zones.specs.declared.leaving.Stay.{Stay}
use Rattle.zones.specs.Places.{Corner, CourseView, point_at}
use Rattle.zones.specs.Zones.{in_zone}

-- Helpers of private functions.
-- the course is outside at all places between `end` and `next`, which is after it and at most `last`
pub record IsOutAfter (rings : List (List Corner)) (course : CourseView) (end next last : CoursePlace) : Type 0 where
  pub after : (end.num *ℤ next.den) <ℤ (next.num *ℤ end.den)
  pub up_to : (next.num *ℤ last.den) ≤ℤ (last.num *ℤ next.den)
  pub outside :
      (n d : ℤ) → pos 0 <ℤ d → (end.num *ℤ d) <ℤ (n *ℤ end.den) → (n *ℤ next.den) <ℤ (next.num *ℤ d)
      → in_zone rings (point_at course n d) ≡ false

-- The course is inside at all places from `first` to the stay's end, both among them, and that is `last` or the course is outside just after it.
pub record IsStay (rings : List (List Corner)) (course : CourseView) (first last : CoursePlace) (stay : Stay) : Type 0 where
  pub from : (first.num *ℤ stay.end.den) ≤ℤ (stay.end.num *ℤ first.den)
  pub up_to : (stay.end.num *ℤ last.den) ≤ℤ (last.num *ℤ stay.end.den)
  pub inside :
      (n d : ℤ) → pos 0 <ℤ d → (first.num *ℤ d) ≤ℤ (n *ℤ first.den) → (n *ℤ stay.end.den) ≤ℤ (stay.end.num *ℤ d)
      → in_zone rings (point_at course n d) ≡ true
  pub ends : ((last.num *ℤ stay.end.den) ≤ℤ (stay.end.num *ℤ last.den)) ⊎ IsOutAfter rings course stay.end stay.next last

-- The course is outside at all places from `first` to `entry`, without `entry`, at which it is inside.
pub record IsEntry (rings : List (List Corner)) (course : CourseView) (first last entry : CoursePlace) : Type 0 where
  pub from : (first.num *ℤ entry.den) ≤ℤ (entry.num *ℤ first.den)
  pub up_to : (entry.num *ℤ last.den) ≤ℤ (last.num *ℤ entry.den)
  pub before :
      (n d : ℤ) → pos 0 <ℤ d → (first.num *ℤ d) ≤ℤ (n *ℤ first.den) → (n *ℤ entry.den) <ℤ (entry.num *ℤ d)
      → in_zone rings (point_at course n d) ≡ false
  pub inside : in_zone rings (point_at course entry.num entry.den) ≡ true

-- The course is outside at all places from `first` to `last`.
pub record IsNever (rings : List (List Corner)) (course : CourseView) (first last : CoursePlace) : Type 0 where
  pub outside :
      (n d : ℤ) → pos 0 <ℤ d → (first.num *ℤ d) ≤ℤ (n *ℤ first.den) → (n *ℤ last.den) ≤ℤ (last.num *ℤ d)
      → in_zone rings (point_at course n d) ≡ false
