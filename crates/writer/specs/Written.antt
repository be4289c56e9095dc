-- Helpers of private functions: what contracts see of records that were written.
use Rattle.std.specs.Prelude.{ℕ, ◌≡◌, List, Bool, false}
use Rattle.csv.specs.Writing.{writer_setup, fields_written, has_written}
use Rattle.csv.specs.declared.writer.Writer.{Writer}
use Rattle.writer.specs.Records.{record_writer}

-- their text, and whether one was refused
pub record RecordsView : Type 0 where
  pub text : List ℕ
  pub refused : Bool

-- records that were written as this text, and none refused
abbrev pub written : List ℕ → RecordsView
written text = record { text = text; refused = false }

-- the writer has begun no record
pub record IsBetweenRecords {W : Type 0} (writer : Writer W) : Type 0 where
  pub setup : writer_setup writer ≡ record_writer
  pub none_begun : fields_written writer ≡ 0
  pub clean : has_written writer ≡ false
