-- Of the legs of a feature, those that a question wants.
use Rattle.std.specs.Prelude.{◌≡◌, ◌⊎◌, false, List, [], ◌∷◌, Option, find, reverse, ◌<ℤ◌}
use Rattle.timebase.specs.Period.{PeriodView}
use Rattle.legs.specs.Legs.{LegView, is_live}
use Rattle.legs.specs.Boxes.{RectView, box_of, box_over, boxes_meet}
use Rattle.legs.specs.declared.sieve.Sieve.{Sieve}
use Rattle.legs.specs.declared.sieve.Sieve.TheVariants as sieve

-- the first leg of a list that has a moment in the period
abbrev pub first_live : PeriodView → List LegView → Option LegView
first_live period legs = find (is_live period) legs

-- the last leg of a list that has one
abbrev pub last_live : PeriodView → List LegView → Option LegView
last_live period legs = find (is_live period) (reverse legs)

-- these are some of the legs, in their order, and each that is left out is one of those that may be
abbrev pub LeavesOut : (LegView → Type 0) → (all some : List LegView) → Type 0
LeavesOut May [] some = some ≡ []
LeavesOut May (leg ∷ all) some =
    ((rest : List LegView) × (some ≡ leg ∷ rest) × LeavesOut May all rest)
    ⊎ (May leg × LeavesOut May all some)

-- the leg's box does not meet the one over the rectangle and the period
pub record IsOff (rect : RectView) (period : PeriodView) (leg : LegView) : Type 0 where
  pub rises : leg.t0 <ℤ leg.t1
  pub apart : boxes_meet (box_of leg) (box_over rect period) ≡ false

-- a leg that may be left out, if it is neither the first nor the last
abbrev pub MayGo : Sieve → PeriodView → LegView → Type 0
MayGo sieve.All period leg = ⊥
MayGo sieve.Ends period leg = Unit {0}
MayGo (sieve.Near rect) period leg = IsOff rect period leg

-- these are what a sieve keeps of legs, or more of them: the first and the last that have a moment in the period, and
-- each that may not be left out
pub record IsSieved (sieve : Sieve) (period : PeriodView) (all some : List LegView) : Type 0 where
  pub of : LeavesOut (MayGo sieve period) all some
  pub first : first_live period some ≡ first_live period all
  pub last : last_live period some ≡ last_live period all
