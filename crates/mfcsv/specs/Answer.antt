-- How an answer stands to what the bytes say.
use Rattle.std.specs.Prelude.{◌≡◌, ℕ, ℤ, Bool, if◌then◌else◌, List, [], ◌∷◌, Option, Some, None, is_some, Result, Ok, Err}
use Rattle.mfcsv.specs.Rows.{Row}
use Rattle.mfcsv.specs.Header.{lacks_bounds_fields, has_other_dimension, lacks_start, has_other_unit}
use Rattle.mfcsv.specs.DataRecord.{has_wrong_fields, has_wrong_name, lacks_moment, ends_early, coordinates, has_wrong_coordinate, has_wrong_count, lacks_time}
use Rattle.mfcsv.specs.declared.Code.{Code}
use Rattle.mfcsv.specs.declared.Code.TheVariants.{F3, F4, F5, F6, F11, F12, F13, F14, F15, F16, F17}
use Rattle.mfcsv.specs.declared.Dimension.{Dimension}
use Rattle.mfcsv.specs.declared.File.{File}
use Rattle.mfcsv.specs.declared.header.Clock.{Clock}
use Rattle.mfcsv.specs.declared.FileFault.{FileFault}
use Rattle.mfcsv.specs.declared.FileFault.TheVariants as file
use Rattle.mfcsv.specs.declared.rows.RowFault.{RowFault}
use Rattle.mfcsv.specs.declared.rows.RowFault.TheVariants as row

-- want of memory may stand in place of any answer
abbrev pub FaultIs : FileFault → Result File (Code × ℕ) → Type 0
FaultIs file.Memory text = Unit {0}
FaultIs (file.Refused code number) text = text ≡ Err (code, number)

-- exactly that file, or exactly that fault, unless memory ran out
abbrev pub Gives : Result File FileFault → Result File (Code × ℕ) → Type 0
Gives (Ok file) text = text ≡ Ok file
Gives (Err fault) text = FaultIs fault text

-- the first code whose condition holds
abbrev pub first_of : List (Code × Bool) → Option Code
first_of [] = None
first_of (c ∷ cs) = if c.1 then Some c.0 else first_of cs

-- a step refuses a record by exactly that code, unless memory ran out
abbrev pub RowFaultIs : RowFault → Option Code → Type 0
RowFaultIs (row.Refused code) fault = fault ≡ Some code
RowFaultIs row.Memory fault = Unit {0}

-- what a step of judging a record answers: a value where it has no fault, or exactly the fault
abbrev pub Judges : {T : Type 0} → Result T RowFault → Option Code → (T → Type 0) → Type 0
Judges (Ok value) fault P = (fault ≡ None) × P value
Judges (Err e) fault P = RowFaultIs e fault

-- the first fault of a line `@stboundedby`, seen by itself
abbrev pub bounds_fault : Row → Option Code
bounds_fault row =
    first_of ((F3, lacks_bounds_fields row) ∷ (F4, has_other_dimension row) ∷ (F5, lacks_start row)
    ∷ (F6, has_other_unit row) ∷ [])

-- the fault of a time that is not read
abbrev pub moment_fault : Option ℤ → Option Code
moment_fault moment = if is_some moment then None else Some F13

-- the first fault of the times of a data record
abbrev pub span_fault : Option Clock → Row → Option Code
span_fault clock row = first_of ((F13, lacks_moment clock row) ∷ (F14, ends_early clock row) ∷ [])

-- the first fault of the coordinates of a data record
abbrev pub trajectory_fault : Option Dimension → List (List ℕ) → Option Code
trajectory_fault dimension texts =
    first_of ((F15, has_wrong_coordinate texts) ∷ (F16, has_wrong_count dimension texts) ∷ [])

-- the first fault of a data record behind both header lines
unfoldable pub data_fault : Option Dimension → Option Clock → ℕ → Row → Option Code
data_fault dimension clock columns row =
    first_of ((F11, has_wrong_fields columns row) ∷ (F12, has_wrong_name row)
    ∷ (F13, lacks_moment clock row) ∷ (F14, ends_early clock row)
    ∷ (F15, has_wrong_coordinate (coordinates row))
    ∷ (F16, has_wrong_count dimension (coordinates row)) ∷ (F17, lacks_time dimension clock row)
    ∷ [])

-- a fault of a record of that number
abbrev pub fault_at : ℕ → RowFault → FileFault
fault_at number (row.Refused code) = file.Refused code number
fault_at number row.Memory = file.Memory
