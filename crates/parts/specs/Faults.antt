-- What the parts of a file with a fault say.
use Rattle.std.specs.Prelude.{ℕ, ◌≡◌, ◌<◌, ◌⊎◌, List, Err, IfErr}
use Rattle.mfcsv.specs.FileText.{file_of_bytes}
use Rattle.mfcsv.specs.declared.Code.{Code}
use Rattle.parts.specs.Part.{whole_part}

-- a fault behind that at a record: at a later one, or at the end of the file, whose number is 0
abbrev pub IsBehind : ℕ → ℕ → Type 0
IsBehind number other = (0 < number) × ((number < other) ⊎ (other ≡ 0))

-- of a file with a fault some part says that fault, and each other fault that a part says stands behind it
abbrev pub FaultLaw : Type 0
FaultLaw =
    (n : ℕ) (bytes : List ℕ) (fault : Code × ℕ) → 0 < n → file_of_bytes bytes ≡ Err fault
    → ((k : ℕ) × (k < n) × (file_of_bytes (whole_part k n bytes) ≡ Err fault))
    × ((k : ℕ) → IfErr (file_of_bytes (whole_part k n bytes))
    (λ other. (other ≡ fault) ⊎ IsBehind fault.1 other.1))
