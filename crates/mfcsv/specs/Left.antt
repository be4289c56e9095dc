-- What a reader of a file has yet to read.
use Rattle.std.specs.Prelude.{ℕ, ◌≡◌, ◌+◌, ◌<◌, ◌^◌, List, [], ◌∷◌, ◌++◌, length, Bool, true, false, Option, Some, None, Result, Ok, Err}
use Rattle.std.specs.List.{flat_map}
use Rattle.mfcsv.specs.Rows.{Row}
use Rattle.mfcsv.specs.Unread.{Source, IsBetweenRows, bytes_left}
use Rattle.mfcsv.specs.Views.{RecordView, HeadsView}
use Rattle.mfcsv.specs.FileText.{faults_of, file_with, first_or, heads_from, lines_from, records_of}
use Rattle.mfcsv.specs.Answer.{FaultIs}
use Rattle.mfcsv.specs.declared.Code.{Code}
use Rattle.mfcsv.specs.declared.Code.TheVariants.{F8}
use Rattle.mfcsv.specs.declared.File.{File}
use Rattle.mfcsv.specs.declared.Head.{Head}
use Rattle.mfcsv.specs.declared.FileFault.{FileFault}
use Rattle.mfcsv.specs.declared.FileFault.TheVariants.{Refused, Memory}
use Rattle.mfcsv.specs.declared.reader.Stage.{Stage}
use Rattle.mfcsv.specs.declared.reader.Stage.TheVariants.{Reading, Over, Failed}

-- what is left of a file: what it says, the header lines that were read, a number that falls with each record, whether
-- it is known that there is none, and the fault that was told, if one was
pub record LeftView : Type 0 where
  pub text : Result File (Code × ℕ)
  pub heads : HeadsView
  pub most : ℕ
  pub is_over : Bool
  pub told : Option FileFault

-- what records say behind those header lines, the first of that number: the file of the header lines
-- and of the data records among them, or their first fault
unfoldable pub text_left : ℕ → HeadsView → List Row → Result File (Code × ℕ)
text_left number heads rows =
    let lines = lines_from number heads rows in
    let last = heads_from number heads rows in
    let records = flat_map records_of lines in
    first_or (flat_map faults_of lines) (file_with last.bounds last.columns records)

-- the same as far as it was read: with no row left, or where a fault was told, which stays
abbrev pub text_at : Stage → ℕ → HeadsView → List Row → Result File (Code × ℕ)
text_at Reading number heads rows = text_left number heads rows
text_at Over number heads rows = text_left number heads []
text_at (Failed Memory) number heads rows = text_left number heads rows
text_at (Failed (Refused code at)) number heads rows = Err (code, at)

-- it is known that no record is left
abbrev pub is_over : Stage → Bool
is_over Reading = false
is_over Over = true
is_over (Failed fault) = false

-- the fault that was returned, if one was
abbrev pub told_by : Stage → Option FileFault
told_by Reading = None
told_by Over = None
told_by (Failed fault) = Some fault

-- the same with a record in front
abbrev pub with_first : RecordView → Result File (Code × ℕ) → Result File (Code × ℕ)
with_first r (Ok file) = Ok (record file { records = r ∷ file.records })
with_first r (Err fault) = Err fault

-- the same with records in front
abbrev pub with_all : List RecordView → Result File (Code × ℕ) → Result File (Code × ℕ)
with_all records (Ok file) = Ok (record file { records = records ++ file.records })
with_all records (Err fault) = Err fault

-- no record is left, and no fault but that of a missing header line
abbrev pub HasNoRecord : Result File (Code × ℕ) → Type 0
HasNoRecord (Ok file) = file.records ≡ []
HasNoRecord (Err fault) = fault ≡ (F8, 0)

-- the first record was read, or there is none and nothing changes, or the first fault is told, and
-- stays
abbrev pub ReadsRecord : Result (Option RecordView) FileFault → LeftView → LeftView → Type 0
ReadsRecord (Ok (Some r)) old new = old.text ≡ with_first r new.text
ReadsRecord (Ok None) old new = HasNoRecord old.text × (new.text ≡ old.text) × (new.is_over ≡ true)
ReadsRecord (Err fault) old new = FaultIs fault old.text × FaultIs fault new.text

-- the head of a file without records, or its fault, unless memory ran out
abbrev pub GivesHead : Result Head FileFault → Result File (Code × ℕ) → Type 0
GivesHead (Ok head) text = text ≡ Ok (record { head = head; records = [] })
GivesHead (Err fault) text = FaultIs fault text

-- Helper of private functions: a reader can go on, and its count of records has room.
pub record IsUnread (reader : Source) (number : ℕ) : Type 0 where
  pub between : IsBetweenRows reader
  pub counted : number + length (bytes_left reader) < 2 ^ 64

-- Helper of private functions: the first record was read and this is left, or no row is left, or the
-- fault is told.
abbrev pub ReadsNext : Result (Option RecordView) FileFault → Result File (Code × ℕ) → ℕ → HeadsView
    → List Row → Type 0
ReadsNext (Ok (Some r)) old number heads rows = old ≡ with_first r (text_left number heads rows)
ReadsNext (Ok None) old number heads rows = old ≡ text_left number heads []
ReadsNext (Err fault) old number heads rows = FaultIs fault old
