-- How an answer of `parse_line` stands to what the line says.
use Rattle.std.specs.Prelude.{◌≡◌, Result, Ok, Err}
use Rattle.querylang.specs.declared.LineCode.{LineCode}
use Rattle.querylang.specs.declared.LineFault.{LineFault}
use Rattle.querylang.specs.declared.LineFault.TheVariants.{Refused, Memory}

-- the line is refused by exactly that code, or memory ran out
abbrev pub FaultIs : {T : Type 0} → LineFault → Result T LineCode → Type 0
FaultIs Memory said = Unit {0}
FaultIs (Refused code) said = said ≡ Err code

-- exactly that answer or exactly that refusal, unless memory ran out
abbrev pub Gives : {T : Type 0} → Result T LineFault → Result T LineCode → Type 0
Gives (Ok value) said = said ≡ Ok value
Gives (Err fault) said = FaultIs fault said
