-- How a joining code is printed.
use Rattle.std.specs.Prelude.{ℕ, List, codes}
use Rattle.legs.specs.declared.joining.JoinCode.{JoinCode}
use Rattle.legs.specs.declared.joining.JoinCode.TheVariants.{F9, F10, F18, F19, F20}

-- the code of a joining fault, as it is printed
abbrev pub join_code_text : JoinCode → List ℕ
join_code_text F9 = codes "F9"
join_code_text F10 = codes "F10"
join_code_text F18 = codes "F18"
join_code_text F19 = codes "F19"
join_code_text F20 = codes "F20"
