-- How long it is from one moment to another, in whole microseconds.
use Rattle.std.specs.Prelude.{ℕ, ℤ}
use Rattle.visiting.specs.Lengths as lengths
use Rattle.zoning.specs.Parts.{numerator_of}
use Rattle.zoning.specs.declared.moment.Moment.{Moment}
use Rattle.zoning.specs.declared.visits.Visit.{Visit}

-- the moment in microseconds, rounded down
abbrev pub micros_down : Moment → ℤ
micros_down moment = lengths.micros_down (numerator_of moment) moment.den

-- and rounded up
abbrev pub micros_up : Moment → ℤ
micros_up moment = lengths.micros_up (numerator_of moment) moment.den

-- one moment is no later than another
abbrev pub IsNotAfter : Moment → Moment → Type 0
IsNotAfter one other = lengths.IsNoLater (numerator_of one) one.den (numerator_of other) other.den

-- from the first whole microsecond of a visit to the last
abbrev pub least_of : Visit → ℕ
least_of visit =
    lengths.least_between (numerator_of visit.enters) visit.enters.den (numerator_of visit.leaves) visit.leaves.den

-- a visit's length with both moments rounded outwards, not below 0
abbrev pub most_of : Visit → ℕ
most_of visit =
    lengths.most_between (numerator_of visit.enters) visit.enters.den (numerator_of visit.leaves) visit.leaves.den

-- what goes by from one moment to another is at least so many microseconds and at most so many
abbrev pub IsBetween : Moment → Moment → ℕ → ℕ → Type 0
IsBetween one other least most =
    lengths.IsBetween (numerator_of one) one.den (numerator_of other) other.den least most
