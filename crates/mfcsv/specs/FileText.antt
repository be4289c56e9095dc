-- What the records of a file say: its text fault, or the file.
use Rattle.std.specs.Prelude.{ℕ, ◌≡◌, ◌+◌, ◌&&◌, not, Bool, All, List, [], ◌∷◌, map, filter, find, length, Option, Some, None, option_and_then, option_to_list, Result, Ok, Err, ℤ}
use Rattle.std.specs.List.{list_all, flat_map}
use Rattle.std.specs.Str.{is_utf8}
use Rattle.timebase.specs.declared.Unit.{Unit}
use Rattle.mfcsv.specs.Rows.{Row, rows_of}
use Rattle.mfcsv.specs.Views.{RecordView, BoundsView, ColumnsView, HeadsView}
use Rattle.mfcsv.specs.Header.{kind_of, is_bounds, is_columns, is_data, is_repeated, has_heads, lacks_bounds_fields, has_other_dimension, lacks_start, has_other_unit, lacks_fixed_columns, heads_after}
use Rattle.mfcsv.specs.DataRecord.{has_wrong_fields, has_wrong_name, lacks_moment, ends_early, coordinates, has_wrong_coordinate, has_wrong_count, lacks_time, record_of}
use Rattle.mfcsv.specs.declared.Code.{Code}
use Rattle.mfcsv.specs.declared.Code.TheVariants.{F1, F2, F3, F4, F5, F6, F7, F8, F11, F12, F13, F14, F15, F16, F17}
use Rattle.mfcsv.specs.declared.Dimension.{Dimension}
use Rattle.mfcsv.specs.declared.File.{File}
use Rattle.mfcsv.specs.declared.header.Clock.{Clock}
use Rattle.mfcsv.specs.declared.header.RowKind.{RowKind}
use Rattle.mfcsv.specs.declared.header.RowKind.TheVariants.{Skipped, Bounds, Columns, Other, Data}

-- a unit and a start instant, where both are read
abbrev pub clock_of : Option Unit → Option ℤ → Option Clock
clock_of (Some unit) (Some start) = Some (record { unit = unit; start = start })
clock_of (Some unit) None = None
clock_of None start = None

-- by what the times of a record count, from the header lines before it
abbrev pub clock_before : HeadsView → Option Clock
clock_before heads =
    option_and_then (λ (bounds : BoundsView). clock_of bounds.unit bounds.start) heads.bounds

-- their dimension
abbrev pub dimension_before : HeadsView → Option Dimension
dimension_before heads = option_and_then (λ (bounds : BoundsView). bounds.dimension) heads.bounds

-- how many attribute columns they name
abbrev pub count_in : Option ColumnsView → ℕ
count_in (Some line) = length line.columns
count_in None = 0

-- how many attribute columns the header lines before a record have
abbrev pub columns_before : HeadsView → ℕ
columns_before heads = count_in heads.columns

-- whether the condition of a code holds of a record, given the header lines before it
unfoldable pub has_fault : HeadsView → Row → Code → Bool
has_fault heads row F1 = not (list_all is_utf8 row)
has_fault heads row F2 = is_repeated heads (kind_of row)
has_fault heads row F3 = is_bounds (kind_of row) && lacks_bounds_fields row
has_fault heads row F4 = is_bounds (kind_of row) && has_other_dimension row
has_fault heads row F5 = is_bounds (kind_of row) && lacks_start row
has_fault heads row F6 = is_bounds (kind_of row) && has_other_unit row
has_fault heads row F7 = is_columns (kind_of row) && lacks_fixed_columns row
has_fault heads row F8 = is_data (kind_of row) && not (has_heads heads)
has_fault heads row F11 = is_data (kind_of row) && has_wrong_fields (columns_before heads) row
has_fault heads row F12 = is_data (kind_of row) && has_wrong_name row
has_fault heads row F13 = is_data (kind_of row) && lacks_moment (clock_before heads) row
has_fault heads row F14 = is_data (kind_of row) && ends_early (clock_before heads) row
has_fault heads row F15 = is_data (kind_of row) && has_wrong_coordinate (coordinates row)
has_fault heads row F16 =
    is_data (kind_of row) && has_wrong_count (dimension_before heads) (coordinates row)
has_fault heads row F17 =
    is_data (kind_of row) && lacks_time (dimension_before heads) (clock_before heads) row

-- all codes, in the order in which a record is judged
abbrev pub table : List Code
table = F1 ∷ F2 ∷ F3 ∷ F4 ∷ F5 ∷ F6 ∷ F7 ∷ F8 ∷ F11 ∷ F12 ∷ F13 ∷ F14 ∷ F15 ∷ F16 ∷ F17 ∷ []

-- the first fault of a record
unfoldable pub first_fault : HeadsView → Row → Option Code
first_fault heads row = find (has_fault heads row) table

-- a record with its number and the header lines before it
pub record Line : Type 0 where
  pub number : ℕ
  pub heads : HeadsView
  pub row : Row

-- a row with its number and the header lines before it
abbrev pub line_of : ℕ → HeadsView → Row → Line
line_of number heads row = record { number = number; heads = heads; row = row }

-- the lines of these records, the first of that number behind those header lines
abbrev pub lines_from : ℕ → HeadsView → List Row → List Line
lines_from number heads [] = []
lines_from number heads (row ∷ rows) =
    line_of number heads row ∷ lines_from (number + 1) (heads_after number heads row) rows

-- the header lines after all these records
abbrev pub heads_from : ℕ → HeadsView → List Row → HeadsView
heads_from number heads [] = heads
heads_from number heads (row ∷ rows) = heads_from (number + 1) (heads_after number heads row) rows

-- all faults of a line with its number, in the order of the table
abbrev pub faults_of : Line → List (Code × ℕ)
faults_of line = map (λ code. (code, line.number)) (filter (has_fault line.heads line.row) table)

-- the data record of a line, if it is one
abbrev pub record_by : RowKind → Line → Option RecordView
record_by Data line =
    record_of line.number (dimension_before line.heads) (clock_before line.heads)
    (columns_before line.heads) line.row
record_by Skipped line = None
record_by Bounds line = None
record_by Columns line = None
record_by Other line = None

-- the data record of a line, if it has one
abbrev pub records_of : Line → List RecordView
records_of line = option_to_list (record_by (kind_of line.row) line)

-- a file of these header lines and records, F8 of the whole file where a header line is missing; a line
-- `@stboundedby` whose dimension, start instant or unit is not read has had its own fault
abbrev pub file_at : Option Dimension → Option ℤ → BoundsView → ColumnsView → List RecordView
    → Result File (Code × ℕ)
file_at (Some dimension) (Some start) bounds line records =
    Ok (record {
      head = record {
        number_bounds = bounds.number;
        number_columns = line.number;
        crs = bounds.crs;
        dimension = dimension;
        start = start;
        columns = line.columns;
      };
      records = records;
    })
file_at (Some dimension) None bounds line records = Err (F5, bounds.number)
file_at None start bounds line records = Err (F4, bounds.number)

-- a file of these header lines, which may be missing, and of these records
abbrev pub file_with : Option BoundsView → Option ColumnsView → List RecordView
    → Result File (Code × ℕ)
file_with (Some bounds) (Some line) records =
    file_at bounds.dimension bounds.start bounds line records
file_with (Some bounds) None records = Err (F8, 0)
file_with None columns records = Err (F8, 0)

-- the first fault, if there is one; else the file
abbrev pub first_or : List (Code × ℕ) → Result File (Code × ℕ) → Result File (Code × ℕ)
first_or [] file = file
first_or (fault ∷ faults) file = Err fault

-- no header line was read
abbrev pub no_heads : HeadsView
no_heads = record { bounds = None; columns = None }

-- what the records of a file say
unfoldable pub text_of_rows : List Row → Result File (Code × ℕ)
text_of_rows rows =
    let lines = lines_from 1 no_heads rows in
    let heads = heads_from 1 no_heads rows in
    first_or (flat_map faults_of lines)
    (file_with heads.bounds heads.columns (flat_map records_of lines))

-- what the bytes of a file say
abbrev pub file_of_bytes : List ℕ → Result File (Code × ℕ)
file_of_bytes bytes = text_of_rows (rows_of bytes)

-- each record has as many attribute values as there are columns
abbrev pub HasWholeRows : File → Type 0
HasWholeRows file =
    All (λ (r : RecordView). length r.attributes ≡ length file.head.columns) file.records
