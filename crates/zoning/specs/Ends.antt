-- What a stay begins and ends by.
use Rattle.std.specs.Prelude.{◌≡◌, ℤ, pos, ◌*ℤ◌}
use Rattle.visiting.specs.Ends.{IsEndOf}
use Rattle.visiting.specs.declared.ends.End.{End}
use Rattle.zoning.specs.Parts.{numerator_of}
use Rattle.zoning.specs.declared.moment.Moment.{Moment}

-- the moment is that whole millisecond
abbrev pub IsMilli : Moment → ℤ → Type 0
IsMilli moment at = numerator_of moment ≡ at *ℤ pos moment.den

-- the moment is the leg's own end; or else the period's; or neither
abbrev pub IsEndBy : Moment → ℤ → ℤ → End → Type 0
IsEndBy moment leg period end = IsEndOf (IsMilli moment leg) (IsMilli moment period) end
