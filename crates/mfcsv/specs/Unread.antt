-- Helpers of private functions: what a reader has yet to give of the records of a file.
use Rattle.std.specs.Prelude.{◌≡◌, ◌+◌, ◌∷◌, ◌<◌, ℕ, Bool, true, false, List, [], map, length, Some, unwrap_or, Result, Ok, Err}
use Rattle.std.specs.List.{list_all}
use Rattle.std.specs.Str.{is_utf8}
use Rattle.csv.specs.Machine.{ends_at_end}
use Rattle.csv.specs.Reading.{Ready, default_config, is_flexible, reader_config, reader_state, reader_trim, records_from, source_of}
use Rattle.csv.specs.Records.{Row as CsvRow, fields_of}
use Rattle.csv.specs.declared.error.ErrorKind.{ErrorKind}
use Rattle.csv.specs.declared.error.ErrorKind.TheVariants as kind
use Rattle.csv.specs.declared.reader.Reader.{Reader}
use Rattle.csv.specs.declared.reader.Trim.TheVariants as trim
use Rattle.mfcsv.specs.Rows.{Row, cut}
use Rattle.mfcsv.specs.declared.Code.TheVariants.{F1}
use Rattle.mfcsv.specs.declared.rows.RowFault.{RowFault}
use Rattle.mfcsv.specs.declared.rows.RowFault.TheVariants.{Refused, Memory}
use denote.Ref.{Bor}

-- a reader of bytes that are in memory
abbrev pub Source : Type 0
Source = Reader (Bor (List ℕ))

-- the fields of a record, cut
abbrev pub cells : CsvRow → Row
cells row = map cut (fields_of row)

-- the bytes behind the last record
unfoldable pub bytes_left : Source → List ℕ
bytes_left reader = unwrap_or (source_of (λ s. Some s.now) reader) []

-- the records that are left
unfoldable pub rows_left : Source → List Row
rows_left reader =
    map (map cut)
    (records_from default_config (length (bytes_left reader) + 1) (reader_state reader)
    (bytes_left reader))

-- a reader that stands between two records, whose bytes are known, and that takes records of any length
pub record IsBetweenRows (reader : Source) : Type 0 where
  pub config : reader_config reader ≡ default_config
  pub trim : reader_trim reader ≡ trim.None
  pub flexible : is_flexible reader ≡ true
  pub ready : Ready reader
  pub source : source_of (λ s. Some s.now) reader ≡ Some (bytes_left reader)
  pub between : ends_at_end (reader_state reader) ≡ false

-- a record was read: it is the first of those that were left
pub record TakesRow (old new : Source) (row : Row) : Type 0 where
  pub goes_on : IsBetweenRows new
  pub first : rows_left old ≡ row ∷ rows_left new
  pub shorter : length (bytes_left new) < length (bytes_left old)
  pub text : list_all is_utf8 row ≡ true

-- the first of the records that are left has a field that is no text
abbrev pub MeetsNoText : List Row → Type 0
MeetsNoText rows =
    (row : Row) × (rest : List Row) × (rows ≡ row ∷ rest) × (list_all is_utf8 row ≡ false)

-- reading rows fails: one of them is no UTF-8, which is F1, or memory ran out
abbrev pub FailsAt : RowFault → List Row → Type 0
FailsAt (Refused code) rows = (code ≡ F1) × MeetsNoText rows
FailsAt Memory rows = Unit {0}

-- an error that may come: of text, or of memory (the bytes are in memory, so nothing else fails)
abbrev pub MayFail : ErrorKind → Type 0
MayFail (kind.Utf8 pos err) = Unit {0}
MayFail (kind.Io e) = Unit {0}
MayFail (kind.UnequalLengths pos expected len) = ⊥
MayFail kind.OutOfMemory = Unit {0}
MayFail (kind.Serialize text) = ⊥
MayFail (kind.Deserialize pos err) = ⊥

-- the fault that such an error is
abbrev pub fault_of : ErrorKind → RowFault
fault_of (kind.Utf8 pos err) = Refused F1
fault_of (kind.Io e) = Memory
fault_of (kind.UnequalLengths pos expected len) = Memory
fault_of kind.OutOfMemory = Memory
fault_of (kind.Serialize text) = Memory
fault_of (kind.Deserialize pos err) = Memory

-- what a read of a record says
abbrev pub ReadsRow : Result Bool RowFault → Source → Source → CsvRow → Type 0
ReadsRow (Ok true) old new row = TakesRow old new (cells row)
ReadsRow (Ok false) old new row = rows_left old ≡ []
ReadsRow (Err fault) old new row = FailsAt fault (rows_left old)
