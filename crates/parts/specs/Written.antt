-- Records that were written.
use Rattle.std.specs.Prelude.{ℕ, ◌≡◌, List, Bool, true, false}
use Rattle.csv.specs.Writing.{row_text, default_writer, with_flexible, writer_setup, fields_written, has_written}
use Rattle.csv.specs.declared.writer.WriterBuilder.{WriterBuilder}
use Rattle.csv.specs.declared.writer.Writer.{Writer}

-- csv's writer: commas, quotes only where a field needs them, LF at a record's end, records of any length
abbrev pub record_writer : WriterBuilder
record_writer = with_flexible default_writer true

-- a record as csv writes it
abbrev pub record_text : List (List ℕ) → List ℕ
record_text fields = row_text record_writer fields

-- their text, and whether one was refused
pub record RecordsView : Type 0 where
  pub text : List ℕ
  pub refused : Bool

-- records that were written as this text, and none refused
abbrev pub written : List ℕ → RecordsView
written text = record { text = text; refused = false }

-- the writer has begun no record
pub record IsBetweenRecords {W : Type 0} (writer : Writer W) : Type 0 where
  pub setup : writer_setup writer ≡ record_writer
  pub none_begun : fields_written writer ≡ 0
  pub clean : has_written writer ≡ false
