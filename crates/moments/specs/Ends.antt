-- What a stay begins and ends by.
use Rattle.std.specs.Prelude.{ℕ, List, codes, ◌≡◌, ℤ, pos, ◌*ℤ◌, Option, None, Some}
use Rattle.moments.specs.declared.edges.Bound.{Bound}
use Rattle.moments.specs.declared.edges.Bound.TheVariants.{Least, Greatest}
use Rattle.moments.specs.declared.ends.End.{End}
use Rattle.moments.specs.declared.ends.End.TheVariants.{Leg, Period, Edge}
use Rattle.moments.specs.declared.moment.Moment.{Moment}

-- the moment is that whole millisecond
abbrev pub IsMilli : Moment → ℤ → Type 0
IsMilli moment at = moment.num ≡ at *ℤ pos moment.den

-- the moment is the leg's own end; or else the period's; or neither
abbrev pub IsEndBy : Moment → ℤ → ℤ → End → Type 0
IsEndBy moment leg period Leg = IsMilli moment leg
IsEndBy moment leg period Period = (IsMilli moment leg → ⊥) × IsMilli moment period
IsEndBy moment leg period (Edge edges) = (IsMilli moment leg → ⊥) × (IsMilli moment period → ⊥)

-- an end as it is printed
abbrev pub end_text : End → List ℕ
end_text Leg = codes "leg"
end_text Period = codes "period"
end_text (Edge edges) = codes "edge"

-- the edges of a bound of x and one of y, as they are printed
abbrev pub edges_text : Option Bound → Option Bound → List ℕ
edges_text None None = codes ""
edges_text None (Some Least) = codes "bottom"
edges_text None (Some Greatest) = codes "top"
edges_text (Some Least) None = codes "left"
edges_text (Some Least) (Some Least) = codes "left+bottom"
edges_text (Some Least) (Some Greatest) = codes "left+top"
edges_text (Some Greatest) None = codes "right"
edges_text (Some Greatest) (Some Least) = codes "right+bottom"
edges_text (Some Greatest) (Some Greatest) = codes "right+top"

-- the edges that are met at an end, as they are printed
abbrev pub met_text : End → List ℕ
met_text Leg = codes ""
met_text Period = codes ""
met_text (Edge edges) = edges_text edges.x edges.y
