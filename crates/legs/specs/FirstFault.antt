-- Helpers of private functions: the first of a list of joining faults.
use Rattle.std.specs.Prelude.{ℕ, ◌≡◌, List, [], ◌∷◌, Option, Some, None}
use Rattle.legs.specs.declared.joining.JoinCode.{JoinCode}
use Rattle.legs.specs.declared.joining.JoinFault.{JoinFault}
use Rattle.legs.specs.declared.joining.JoinFault.TheVariants.{Refused, Memory}

-- what was answered is the first of these faults, unless memory ran out
abbrev pub IsFirst : JoinFault → List (JoinCode × ℕ) → Type 0
IsFirst Memory faults = Unit {0}
IsFirst (Refused code number) faults =
    (others : List (JoinCode × ℕ)) × (faults ≡ (code, number) ∷ others)

-- the same of the faults of the record of that number
abbrev pub IsFirstOf : JoinFault → List JoinCode → ℕ → Type 0
IsFirstOf Memory codes number = Unit {0}
IsFirstOf (Refused code at) codes number =
    (at ≡ number) × ((others : List JoinCode) × (codes ≡ code ∷ others))

-- the first code of a list, if any
abbrev pub first_code : List JoinCode → Option JoinCode
first_code [] = None
first_code (code ∷ codes) = Some code
