-- A part of a file.
use Rattle.std.specs.Prelude.{ℕ, ◌==◌, ◌||◌, Bool, true, if◌then◌else◌, List, [], ◌∷◌, Option, Some, None, filter, map, is_ok, Result, Ok, Err}
use Rattle.std.specs.List.{flat_map}
use Rattle.csv.specs.Reading.{records, default_config}
use Rattle.mfcsv.specs.Rows.{Row, cut, field, without_marks}
use Rattle.mfcsv.specs.FileText.{file_of_bytes}
use Rattle.mfcsv.specs.Header.{is_header_row}
use Rattle.mfcsv.specs.Views.{RecordView}
use Rattle.mfcsv.specs.declared.Code.{Code}
use Rattle.mfcsv.specs.declared.File.{File}
use Rattle.parts.specs.Names.{is_in, part_of}
use Rattle.parts.specs.Written.{record_text}

-- the record of a file belongs to part k of n
abbrev pub is_own : ℕ → ℕ → RecordView → Bool
is_own k n r = is_in k n r.mfidref

-- the file with the records of part k of n alone, under their numbers
abbrev pub file_part : ℕ → ℕ → File → File
file_part k n file = record file { records = filter (is_own k n) file.records }

-- what the bytes of part k of n say, by what those of the whole say: its part, or the same fault
abbrev pub said_part : ℕ → ℕ → Result File (Code × ℕ) → Result File (Code × ℕ)
said_part k n (Ok file) = Ok (file_part k n file)
said_part k n (Err fault) = Err fault

-- whether a record stays in part k of n: a header line does, and a record of a feature of that part
unfoldable pub stays : ℕ → ℕ → Row → Bool
stays k n row = is_header_row row || is_in k n (field row 0)

-- the part that has a record alone; none where each part has it
unfoldable pub owner_of : ℕ → Row → Option ℕ
owner_of n row = if is_header_row row then None else Some (part_of n (field row 0))

-- whether part k has a record of that owner
abbrev pub has : ℕ → Option ℕ → Bool
has k (Some part) = part == k
has k None = true

-- a record of one blank field, as it is written: a space is shorter than a pair of quotes
abbrev pub blank_fields : List (List ℕ)
blank_fields = (32 ∷ []) ∷ []

-- and as it is read
abbrev pub blank_row : Row
blank_row = [] ∷ []

-- what stands in the place of a record
abbrev pub row_part : ℕ → ℕ → Row → Row
row_part k n row = if stays k n row then row else blank_row

-- the same of the fields of a record as they stand in the bytes
abbrev pub fields_part : ℕ → ℕ → List (List ℕ) → List (List ℕ)
fields_part k n fields = if stays k n (map cut fields) then fields else blank_fields

-- the text of what stands in the place of a record
abbrev pub text_part : ℕ → ℕ → List (List ℕ) → List ℕ
text_part k n fields = record_text (fields_part k n fields)

-- the text of part k of n: a line end, so that it begins with no byte order mark, and a record for each
-- record of the whole
abbrev pub whole_part : ℕ → ℕ → List ℕ → List ℕ
whole_part k n bytes = 10 ∷ flat_map (text_part k n) (records default_config (without_marks bytes))

-- the text of part k of n of a file: that of its records, or the file itself where it has a fault
abbrev pub part_text : (k n : ℕ) → List ℕ → List ℕ
part_text k n bytes = if is_ok (file_of_bytes bytes) then whole_part k n bytes else bytes
