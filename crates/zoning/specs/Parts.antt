-- Moments, and parts of a leg's duration.
use Rattle.std.specs.Prelude.{◌<◌, ◌^◌, ◌≡◌, ℤ, pos, ◌+ℤ◌, ◌*ℤ◌, ◌≤ℤ◌, unsigned_abs}
use Rattle.legs.specs.Legs.{LegView}
use Rattle.clipping.specs.Inside.{duration}
use Rattle.zoning.specs.declared.moment.Moment.{Moment}

-- a moment is that many of its denominator's parts of a millisecond
abbrev pub numerator_of : Moment → ℤ
numerator_of moment = moment.whole *ℤ pos moment.den +ℤ pos moment.rest

-- Helpers of private functions.
-- num / den is a part: it is from 0 to 1, and its terms are small
pub record IsPart (num den : ℤ) : Type 0 where
  pub from_zero : pos 0 ≤ℤ num
  pub to_one : num ≤ℤ den
  pub small : unsigned_abs den < 2 ^ 103

-- the moment is at that part of the leg's duration
pub record IsAt (leg : LegView) (num den : ℤ) (moment : Moment) : Type 0 where
  pub at : numerator_of moment *ℤ den ≡ (leg.t0 *ℤ den +ℤ duration leg *ℤ num) *ℤ pos moment.den
