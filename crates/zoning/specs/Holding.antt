-- The features of which a predicate holds with a zone, by what is known of their legs.
use Rattle.std.specs.Prelude.{ℕ, ◌+◌, ◌==◌, ◌≡◌, ◌↔◌, Bool, true, ◌&&◌, cond, Option, Some, None, List, [], ◌∷◌, length, filter, Contains, ℤ}
use Rattle.std.specs.BTreeMap.{get}
use Rattle.std.specs.List.Sorted.{IsStrictlySortedBy}
use Rattle.std.specs.Ordering.{int_eq, nat_cmp}
use Rattle.timebase.specs.Period.{PeriodView}
use Rattle.legs.specs.Legs.{LegView, HasMoment}
use Rattle.legs.specs.Index.{legs_of}
use Rattle.legs.specs.Sieves.{LeavesOut, first_live, last_live}
use Rattle.clipping.specs.Inside.{HasMomentIn}
use Rattle.predicates.specs.Courses.{IsCourse, outside_course, tells, then_of}
use Rattle.predicates.specs.Predicates.{HoldsIn}
use Rattle.predicates.specs.declared.Predicate.{Predicate}
use Rattle.predicates.specs.declared.courses.Course.{Course}
use Rattle.zones.specs.Places.{Corner}
use Rattle.zoning.specs.Stays.{IsInZone}
use Rattle.zoning.specs.declared.holding.Courses.{Courses}
use Rattle.zoning.specs.declared.holding.Near.{Near}
use Rattle.zoning.specs.declared.holding.Tallies.{Tallies}
use Rattle.zoning.specs.declared.holding.Tally.{Tally}

-- in rising order, exactly the features of which the predicate holds with the zone of these rings over the period
pub record AreHolding (predicate : Predicate) (rings : List (List Corner)) (legs : List LegView) (period : PeriodView)
    (features : List ℕ) : Type 0 where
  pub rising : IsStrictlySortedBy nat_cmp features
  pub exact :
      (feature : ℕ) → Contains features feature ↔ HoldsIn (IsInZone rings) predicate (legs_of feature legs) period

-- the leg has a moment in the period, and is inside at none of them
pub record IsOutside (Inside : LegView → ℤ → ℕ → Type 0) (period : PeriodView) (leg : LegView) : Type 0 where
  pub moment : HasMoment leg period
  pub never : HasMomentIn Inside leg period → ⊥

-- some of the legs: each that is left out is outside of the zone
abbrev pub AreNear : List (List Corner) → PeriodView → (legs near : List LegView) → Type 0
AreNear rings period legs near = LeavesOut (IsOutside (IsInZone rings) period) legs near

-- how many legs there are, and the first and the last of them that has a moment in the period
pub record IsTallyOf (period : PeriodView) (tally : Tally) (legs : List LegView) : Type 0 where
  pub count : tally.legs ≡ length legs
  pub first : first_live period legs ≡ Some tally.first
  pub last : last_live period legs ≡ Some tally.last

-- there is a tally of legs, where there are legs
abbrev pub IsTallied : PeriodView → Option Tally → List LegView → Type 0
IsTallied period None legs = legs ≡ []
IsTallied period (Some tally) legs = IsTallyOf period tally legs

-- of each feature the tally of its legs
abbrev pub AreTallies : PeriodView → List LegView → Tallies → Type 0
AreTallies period legs tallies =
    (feature : ℕ) → IsTallied period (get nat_cmp tallies.by_feature feature) (legs_of feature legs)

-- the tally and the course of legs of a feature
pub record IsNearOf (Inside : LegView → ℤ → ℕ → Type 0) (period : PeriodView) (near : Near)
    (legs : List LegView) : Type 0 where
  pub tally : IsTallyOf period near.tally legs
  pub course : IsCourse Inside near.course legs period

-- there are both, where there are legs
abbrev pub IsNear : (LegView → ℤ → ℕ → Type 0) → PeriodView → Option Near → List LegView → Type 0
IsNear Inside period None legs = legs ≡ []
IsNear Inside period (Some near) legs = IsNearOf Inside period near legs

-- of each feature the tally and the course of its legs
abbrev pub AreCourses : List (List Corner) → PeriodView → List LegView → Courses → Type 0
AreCourses rings period legs courses =
    (feature : ℕ) → IsNear (IsInZone rings) period (get nat_cmp courses.by_feature feature) (legs_of feature legs)

-- Helpers of private functions.
-- how many legs a tally has
abbrev pub IsCounted : Option Tally → List LegView → Type 0
IsCounted None legs = legs ≡ []
IsCounted (Some tally) legs = tally.legs ≡ length legs

-- a tally, if there is one, with a leg more
abbrev pub tally_with : Option Tally → LegView → Tally
tally_with None leg = record { legs = 1; first = leg; last = leg }
tally_with (Some tally) leg = record { legs = tally.legs + 1; first = tally.first; last = leg }

-- the tally and the course, if there are any, with a leg more
abbrev pub near_with : Option Near → LegView → Course → Near
near_with None leg course = record { tally = tally_with None leg; course = course }
near_with (Some near) leg course =
    record { tally = tally_with (Some near.tally) leg; course = then_of near.course course }

-- whether a leg is another
abbrev pub same_leg : LegView → LegView → Bool
same_leg a b =
    (a.ordinal == b.ordinal) && ((a.feature == b.feature) && ((a.row == b.row)
    && (int_eq a.t0 b.t0 && (int_eq a.t1 b.t1
    && (int_eq a.x0 b.x0 && (int_eq a.y0 b.y0 && (int_eq a.z0 b.z0
    && (int_eq a.x1 b.x1 && (int_eq a.y1 b.y1 && int_eq a.z1 b.z1)))))))))

-- the course of all legs of a feature, by that of those that are near: the others are outside
abbrev pub completed : Tally → Near → Course
completed all near = record {
  live = true;
  first = near.course.first && same_leg near.tally.first all.first;
  last = near.course.last && same_leg near.tally.last all.last;
  always = near.course.always && (near.tally.legs == all.legs);
  ever = near.course.ever;
}

-- the course of all legs of a feature, where those that are near may be none
abbrev pub course_with : Tally → Option Near → Course
course_with all None = outside_course
course_with all (Some near) = completed all near

-- whether a predicate holds of a feature
abbrev pub holds_with : Predicate → Tally → Option Near → Bool
holds_with predicate all near = tells predicate (course_with all near)

-- the features of which a predicate holds, by the tallies of all of them and what is near
abbrev pub held : Predicate → (ℕ → Option Near) → List (ℕ × Tally) → List ℕ
held predicate near [] = []
held predicate near (entry ∷ entries) =
    cond (holds_with predicate entry.1 (near entry.0))
    (entry.0 ∷ held predicate near entries) (held predicate near entries)
