-- What is asked of a leg's course.
use Rattle.std.specs.Prelude.{◌≡◌, ◌-ℤ◌, ◌<ℤ◌}
use Rattle.timebase.specs.Period.{PeriodView}
use Rattle.legs.specs.Legs.{LegView, first_moment, last_moment}
use Rattle.clipping.specs.Inside.{duration}
use Rattle.zones.specs.Places.{CourseView}
use Rattle.zones.specs.declared.cuts.CoursePlace.{CoursePlace}
use Rattle.zoning.specs.Stays.{course_of}

-- Helper of private functions: the course of the leg, and the places of its first and last moment in the period.
pub record IsAsked (leg : LegView) (period : PeriodView) (course : CourseView) (first last : CoursePlace) : Type 0 where
  pub rises : leg.t0 <ℤ leg.t1
  pub way : course ≡ course_of leg
  pub first_num : first.num ≡ first_moment leg period -ℤ leg.t0
  pub first_den : first.den ≡ duration leg
  pub last_num : last.num ≡ last_moment leg period -ℤ leg.t0
  pub last_den : last.den ≡ duration leg
