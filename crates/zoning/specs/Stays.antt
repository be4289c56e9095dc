-- The stays of a leg in a zone. All moments are fractions n / d of milliseconds since 1970-01-01T00:00:00Z.
use Rattle.std.specs.Prelude.{ℕ, true, ◌≡◌, ◌⊎◌, ◌↔◌, All, List, [], ◌∷◌, ℤ, pos, ◌-ℤ◌, ◌*ℤ◌, ◌<ℤ◌, ◌≤ℤ◌}
use Rattle.timebase.specs.Period.{PeriodView}
use Rattle.legs.specs.Legs.{LegView, IsMomentOf, first_moment, last_moment}
use Rattle.clipping.specs.Inside.{duration}
use Rattle.zones.specs.Places.{Corner, CourseView, Point, point_at}
use Rattle.zones.specs.Zones.{in_zone}
use Rattle.zones.specs.declared.cuts.Cut.{Cut}
use Rattle.zoning.specs.Ends.{IsEndBy}
use Rattle.zoning.specs.Lengths.{IsNotAfter}
use Rattle.zoning.specs.Parts.{IsAt, IsPart, numerator_of}
use Rattle.zoning.specs.declared.moment.Moment.{Moment}
use Rattle.zoning.specs.declared.stay.Stay.{Stay}

-- the course of a leg: its move in x and y
abbrev pub course_of : LegView → CourseView
course_of leg = record { x0 = leg.x0; y0 = leg.y0; x1 = leg.x1; y1 = leg.y1 }

-- where a leg is at the moment n / d: at the part of its course that is the part of its duration that went by
abbrev pub place_of : LegView → ℤ → ℕ → Point
place_of leg n d = point_at (course_of leg) (n -ℤ leg.t0 *ℤ pos d) (pos d *ℤ duration leg)

-- the leg is in the zone of these rings at the moment n / d
abbrev pub IsInZone : List (List Corner) → LegView → ℤ → ℕ → Type 0
IsInZone rings leg n d = in_zone rings (place_of leg n d) ≡ true

-- the moment n / d is in the stay: from its first moment to its last, both among them
pub record IsDuring (stay : Stay) (n : ℤ) (d : ℕ) : Type 0 where
  pub after : (numerator_of stay.enters *ℤ pos d) ≤ℤ (n *ℤ pos stay.enters.den)
  pub before : (n *ℤ pos stay.leaves.den) ≤ℤ (numerator_of stay.leaves *ℤ pos d)

-- one of the stays holds the moment n / d
abbrev pub IsInAStay : List Stay → ℤ → ℕ → Type 0
IsInAStay [] n d = ⊥
IsInAStay (stay ∷ stays) n d = IsDuring stay n d ⊎ IsInAStay stays n d

-- one moment is before another
abbrev pub IsBefore : Moment → Moment → Type 0
IsBefore one other = (numerator_of one *ℤ pos other.den) <ℤ (numerator_of other *ℤ pos one.den)

-- all of the stays begin after the moment
abbrev pub AreAfter : Moment → List Stay → Type 0
AreAfter moment [] = Unit {0}
AreAfter moment (stay ∷ stays) = IsBefore moment stay.enters × AreAfter moment stays

-- each stay ends before all later ones begin
abbrev pub AreApart : List Stay → Type 0
AreApart [] = Unit {0}
AreApart (stay ∷ stays) = AreAfter stay.leaves stays × AreApart stays

-- the stay is of the leg, and says what it begins and ends by
pub record IsOf (leg : LegView) (period : PeriodView) (stay : Stay) : Type 0 where
  pub same : stay.leg ≡ leg
  pub begun : IsEndBy stay.enters leg.t0 period.start stay.enters_by
  pub ended : IsEndBy stay.leaves leg.t1 period.end stay.leaves_by

-- the stay is from the first moment of the leg in the period on, and to the last
pub record IsInPeriod (leg : LegView) (period : PeriodView) (stay : Stay) : Type 0 where
  pub from : (first_moment leg period *ℤ pos stay.enters.den) ≤ℤ numerator_of stay.enters
  pub to : numerator_of stay.leaves ≤ℤ (last_moment leg period *ℤ pos stay.leaves.den)

-- At a moment of the leg in the period, the leg is in the zone exactly if one of the stays holds the moment. They are in
-- the order of time and apart, at moments of the leg in the period; none ends before it begins.
pub record AreStays (rings : List (List Corner)) (leg : LegView) (period : PeriodView) (stays : List Stay) : Type 0 where
  pub exact : (n : ℤ) (d : ℕ) → IsMomentOf leg period n d → IsInZone rings leg n d ↔ IsInAStay stays n d
  pub apart : AreApart stays
  pub within : All (IsInPeriod leg period) stays
  pub ordered : All (λ stay. IsNotAfter stay.enters stay.leaves) stays
  pub each : All (IsOf leg period) stays

-- Helpers of private functions.
-- both places of a cut are parts
pub record IsInside (cut : Cut) : Type 0 where
  pub lo : IsPart cut.lo.num cut.lo.den
  pub hi : IsPart cut.hi.num cut.hi.den

-- both places of each cut are parts
abbrev pub AllInside : List Cut → Type 0
AllInside [] = Unit {0}
AllInside (cut ∷ cuts) = IsInside cut × AllInside cuts

-- the stay is over the cut of the leg's course
pub record IsOver (leg : LegView) (cut : Cut) (stay : Stay) : Type 0 where
  pub enters : IsAt leg cut.lo.num cut.lo.den stay.enters
  pub leaves : IsAt leg cut.hi.num cut.hi.den stay.leaves

-- each stay is over one of the cuts, in their order
abbrev pub AreOver : LegView → List Cut → List Stay → Type 0
AreOver leg [] [] = Unit {0}
AreOver leg (cut ∷ cuts) (stay ∷ stays) = IsOver leg cut stay × AreOver leg cuts stays
AreOver leg _ _ = ⊥
