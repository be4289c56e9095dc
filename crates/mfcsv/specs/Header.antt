-- The lines of a file: which records are header lines, and what is wrong with one.
use Rattle.std.specs.Prelude.{ℕ, ◌-◌, ◌==◌, ◌&&◌, ◌||◌, not, nat_lt, Bool, true, false, if◌then◌else◌, List, [], ◌∷◌, take, drop, length, Option, Some, None, is_some, Result, Ok, Err, ℤ, codes, slice_index}
use Rattle.std.specs.List.{suffix_len}
use Rattle.timebase.specs.Instant.{moment_of}
use Rattle.timebase.specs.declared.Unit.{Unit}
use Rattle.timebase.specs.declared.Unit.TheVariants.{Sec, Minute, Absolute}
use Rattle.mfcsv.specs.Rows.{Row, field, is_empty, same_word}
use Rattle.mfcsv.specs.Views.{BoundsView, ColumnsView, HeadsView}
use Rattle.mfcsv.specs.declared.Column.{Column}
use Rattle.mfcsv.specs.declared.Dimension.{Dimension}
use Rattle.mfcsv.specs.declared.Dimension.TheVariants.{Two, Three}
use Rattle.mfcsv.specs.declared.header.RowKind.{RowKind}
use Rattle.mfcsv.specs.declared.header.RowKind.TheVariants.{Skipped, Bounds, Columns, Other, Data}

-- a record of one blank field
abbrev pub is_blank_row : Row → Bool
is_blank_row row = (length row == 1) && is_empty (field row 0)

-- a record whose first field begins with `@`
abbrev pub is_header_row : Row → Bool
is_header_row row = slice_index (field row 0) 0 == 64

-- what kind of line a record is
unfoldable pub kind_of : Row → RowKind
kind_of row =
    if is_blank_row row then Skipped
    else if not (is_header_row row) then Data
    else if same_word (field row 0) (codes "@stboundedby") then Bounds
    else if same_word (field row 0) (codes "@columns") then Columns
    else Other

-- the row is an `@stboundedby` line
abbrev pub is_bounds : RowKind → Bool
is_bounds Bounds = true
is_bounds Skipped = false
is_bounds Columns = false
is_bounds Other = false
is_bounds Data = false

-- the row is an `@columns` line
abbrev pub is_columns : RowKind → Bool
is_columns Columns = true
is_columns Skipped = false
is_columns Bounds = false
is_columns Other = false
is_columns Data = false

-- the row is a data record
abbrev pub is_data : RowKind → Bool
is_data Data = true
is_data Skipped = false
is_data Bounds = false
is_data Columns = false
is_data Other = false

-- a header line of a kind that was met before
abbrev pub is_repeated : HeadsView → RowKind → Bool
is_repeated heads Bounds = is_some heads.bounds
is_repeated heads Columns = is_some heads.columns
is_repeated heads Skipped = false
is_repeated heads Other = false
is_repeated heads Data = false

-- both header lines were read
abbrev pub has_heads : HeadsView → Bool
has_heads heads = is_some heads.bounds && is_some heads.columns

-- `@stboundedby`, CRS name, dimension, lower corner, upper corner, start instant, end instant, unit
unfoldable pub lacks_bounds_fields : Row → Bool
lacks_bounds_fields row = nat_lt (length row) 7

-- the dimension that a text names
unfoldable pub dimension_of : List ℕ → Option Dimension
dimension_of text =
    if same_word text (codes "2d") then Some Two
    else (if same_word text (codes "3d") then Some Three else None)

-- the dimension is neither `2D` nor `3D`
unfoldable pub has_other_dimension : Row → Bool
has_other_dimension row = not (is_some (dimension_of (field row 2)))

-- what a reading gave, if it gave a value
abbrev pub value_read : {T E : Type 0} → Result T E → Option T
value_read (Ok value) = Some value
value_read (Err fault) = None

-- the start instant, if it is read and in range
unfoldable pub start_of : Row → Option ℤ
start_of row = value_read (moment_of (field row 5))

-- the start instant is not read as a moment
abbrev pub lacks_start : Row → Bool
lacks_start row = not (is_some (start_of row))

-- the unit of the times of the records that a text names; without one it is `sec`
unfoldable pub unit_of : List ℕ → Option Unit
unit_of text =
    if is_empty text || same_word text (codes "sec") then Some Sec
    else if same_word text (codes "minute") then Some Minute
    else if same_word text (codes "absolute") then Some Absolute
    else None

-- the unit is none that files may have
unfoldable pub has_other_unit : Row → Bool
has_other_unit row = not (is_some (unit_of (field row 7)))

-- the two columns that each file has first
unfoldable pub lacks_fixed_columns : Row → Bool
lacks_fixed_columns row =
    not (same_word (field row 1) (codes "mfidref") && same_word (field row 2) (codes "trajectory"))

-- attribute columns, a name and a type each; a last name alone has a blank type
unfoldable pub pairs : List (List ℕ) → List Column
pairs [] = []
pairs (name ∷ []) = record { name = name; kind = [] } ∷ []
pairs (name ∷ kind ∷ rest) = record { name = name; kind = kind } ∷ pairs rest

-- both the name and the type of a column are blank
abbrev pub is_blank_column : Column → Bool
is_blank_column column = is_empty column.name && is_empty column.kind

-- the attribute columns of a line `@columns`, without the pairs of two blanks at its end
unfoldable pub columns_of : Row → List Column
columns_of row =
    let all = pairs (drop 3 row) in
    take (length all - suffix_len is_blank_column all) all

-- what a line `@stboundedby` of that number says
abbrev pub bounds_of : ℕ → Row → BoundsView
bounds_of number row = record {
  number = number;
  crs = field row 1;
  dimension = dimension_of (field row 2);
  start = start_of row;
  unit = unit_of (field row 7);
}

-- what a line `@columns` of that number says
abbrev pub columns_line_of : ℕ → Row → ColumnsView
columns_line_of number row = record { number = number; columns = columns_of row }

-- the header lines after a record of that number
abbrev pub heads_by : RowKind → ℕ → HeadsView → Row → HeadsView
heads_by Bounds number heads row = record heads { bounds = Some (bounds_of number row) }
heads_by Columns number heads row = record heads { columns = Some (columns_line_of number row) }
heads_by Skipped number heads row = heads
heads_by Other number heads row = heads
heads_by Data number heads row = heads

-- the header lines that were read once this row was
unfoldable pub heads_after : ℕ → HeadsView → Row → HeadsView
heads_after number heads row = heads_by (kind_of row) number heads row
