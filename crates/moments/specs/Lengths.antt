-- How long it is from one moment to another, in whole microseconds.
use Rattle.std.specs.Prelude.{ℕ, ℤ}
use Rattle.visiting.specs.Lengths as lengths
use Rattle.moments.specs.declared.moment.Moment.{Moment}
use Rattle.moments.specs.declared.visits.Visit.{Visit}

-- the moment in microseconds, rounded down
abbrev pub micros_down : Moment → ℤ
micros_down moment = lengths.micros_down moment.num moment.den

-- and rounded up
abbrev pub micros_up : Moment → ℤ
micros_up moment = lengths.micros_up moment.num moment.den

-- one moment is no later than another
abbrev pub IsNoLater : Moment → Moment → Type 0
IsNoLater one other = lengths.IsNoLater one.num one.den other.num other.den

-- from the first whole microsecond of a visit to the last
abbrev pub least_of : Visit → ℕ
least_of visit =
    lengths.least_between visit.enters.num visit.enters.den visit.leaves.num visit.leaves.den

-- a visit's length with both moments rounded outwards, not below 0
abbrev pub most_of : Visit → ℕ
most_of visit =
    lengths.most_between visit.enters.num visit.enters.den visit.leaves.num visit.leaves.den

-- what goes by from one moment to another is at least so many microseconds and at most so many
abbrev pub IsBetween : Moment → Moment → ℕ → ℕ → Type 0
IsBetween one other least most =
    lengths.IsBetween one.num one.den other.num other.den least most
