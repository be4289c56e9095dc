-- Helpers of private functions: the records that a reader has yet to give, as they stand in the bytes.
use Rattle.std.specs.Prelude.{◌≡◌, ◌+◌, ◌∷◌, ◌<◌, ℕ, Bool, true, false, List, [], length, Result, Ok, Err}
use Rattle.std.specs.declared.alloc.AllocError.{AllocError}
use Rattle.csv.specs.Reading.{default_config, reader_state, records_from}
use Rattle.csv.specs.Records.{Row as CsvRow, fields_of}
use Rattle.mfcsv.specs.Unread.{IsBetweenRows, Source, bytes_left}

-- the records that are left
unfoldable pub raw_left : Source → List (List (List ℕ))
raw_left reader =
    records_from default_config (length (bytes_left reader) + 1) (reader_state reader)
    (bytes_left reader)

-- a record was read: it is the first of those that were left, and has a field
pub record TakesRaw (old new : Source) (fields : List (List ℕ)) : Type 0 where
  pub goes_on : IsBetweenRows new
  pub first : raw_left old ≡ fields ∷ raw_left new
  pub shorter : length (bytes_left new) < length (bytes_left old)

-- what a read of a record says; where memory ran out, nothing
abbrev pub ReadsRaw : Result Bool AllocError → Source → Source → CsvRow → Type 0
ReadsRaw (Ok true) old new row = TakesRaw old new (fields_of row)
ReadsRaw (Ok false) old new row = raw_left old ≡ []
ReadsRaw (Err e) old new row = Unit {0}
