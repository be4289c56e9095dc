-- What one pass over legs keeps of them: their course.
use Rattle.std.specs.Prelude.{ℕ, ℤ, List, [], ◌∷◌, Option, Some, None, Bool, true, false, not, ◌&&◌, ◌||◌, if◌then◌else◌, ◌↔◌, IsTrue}
use Rattle.timebase.specs.Period.{PeriodView}
use Rattle.legs.specs.Legs.{LegView}
use Rattle.legs.specs.Sieves.{first_live, last_live}
use Rattle.predicates.specs.Predicates.{HasAMoment, IsEverIn, IsAllIn, IsFirstIn, IsLastIn}
use Rattle.predicates.specs.declared.Predicate.{Predicate}
use Rattle.predicates.specs.declared.Predicate.TheVariants.{Ever, Always, Enters, Leaves, Crosses, Bypasses}
use Rattle.predicates.specs.declared.courses.Course.{Course}

-- each test of the course is true exactly where its fact holds for the legs
pub record IsCourse (Inside : LegView → ℤ → ℕ → Type 0) (course : Course) (legs : List LegView)
    (period : PeriodView) : Type 0 where
  pub live : IsTrue course.live ↔ HasAMoment legs period
  pub first : IsTrue course.first ↔ IsFirstIn Inside legs period
  pub last : IsTrue course.last ↔ IsLastIn Inside legs period
  pub ever : IsTrue course.ever ↔ IsEverIn Inside legs period
  pub always : IsTrue course.always ↔ IsAllIn Inside legs period

-- the course of no legs
abbrev pub no_course : Course
no_course =
    record { live = false; first = false; last = false; always = true; ever = false }

-- the course of one leg that has a moment and is inside at none
abbrev pub outside_course : Course
outside_course =
    record { live = true; first = false; last = false; always = false; ever = false }

-- the course of some legs and then of others
abbrev pub then_of : Course → Course → Course
then_of course next =
    if course.live then (if next.live then record {
      live = true;
      first = course.first;
      last = next.last;
      always = course.always && next.always;
      ever = course.ever || next.ever;
    } else course) else next

-- what a course tells of a predicate
abbrev pub tells : Predicate → Course → Bool
tells Ever course = course.ever
tells Always course = course.live && course.always
tells Enters course = course.live && (not course.first && course.last)
tells Leaves course = course.live && (course.first && not course.last)
tells Crosses course = course.live && (not course.first && (not course.last && course.ever))
tells Bypasses course = course.live && not course.ever

-- Helpers of private functions.
-- the first and the last leg, where both are there
abbrev pub both_of : Option LegView → Option LegView → List LegView
both_of (Some first) (Some last) = first ∷ last ∷ []
both_of (Some first) None = []
both_of None last = []

-- the first and the last leg that have a moment in the period, where there are some
abbrev pub ends_of : PeriodView → List LegView → List LegView
ends_of period legs = both_of (first_live period legs) (last_live period legs)
