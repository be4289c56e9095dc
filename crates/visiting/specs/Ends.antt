-- What a stay begins and ends by.
use Rattle.std.specs.Prelude.{ℕ, List, codes}
use Rattle.visiting.specs.declared.ends.End.{End}
use Rattle.visiting.specs.declared.ends.End.TheVariants.{Leg, Period, Edge}

-- a moment is the leg's own end; or else the period's; or neither
abbrev pub IsEndOf : Type 0 → Type 0 → End → Type 0
IsEndOf IsLeg IsPeriod Leg = IsLeg
IsEndOf IsLeg IsPeriod Period = (IsLeg → ⊥) × IsPeriod
IsEndOf IsLeg IsPeriod Edge = (IsLeg → ⊥) × (IsPeriod → ⊥)

-- an end as it is printed
abbrev pub end_text : End → List ℕ
end_text Leg = codes "leg"
end_text Period = codes "period"
end_text Edge = codes "edge"
