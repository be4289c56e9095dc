-- A data record: what it says, and what is wrong with one.
use Rattle.std.specs.Prelude.{ℕ, ◌+◌, ◌%◌, ◌==◌, ◌&&◌, ◌||◌, not, nat_lt, Bool, false, List, [], ◌∷◌, map, drop, length, Option, Some, None, is_some, option_and_then, ℤ, pos, ◌-ℤ◌, int_le, int_lt}
use Rattle.std.specs.List.{list_all, range_with_len}
use Rattle.fixedpoint.specs.Number.{coord_of}
use Rattle.timebase.specs.Time.{time_of}
use Rattle.mfcsv.specs.Rows.{Row, field, is_empty, words}
use Rattle.mfcsv.specs.Views.{RecordView, leg_count}
use Rattle.mfcsv.specs.Header.{value_read}
use Rattle.mfcsv.specs.declared.Dimension.{Dimension}
use Rattle.mfcsv.specs.declared.Dimension.TheVariants.{Two, Three}
use Rattle.mfcsv.specs.declared.Position.{Position}
use Rattle.mfcsv.specs.declared.header.Clock.{Clock}

-- mfidref, start time, end time, trajectory, then one value for each attribute column: fewer fields than
-- the first four, or a field past the last attribute that is not blank
unfoldable pub has_wrong_fields : ℕ → Row → Bool
has_wrong_fields columns row =
    nat_lt (length row) 4 || not (list_all is_empty (drop (4 + columns) row))

-- the name is empty, or has more than 255 bytes
unfoldable pub has_wrong_name : Row → Bool
has_wrong_name row = is_empty (field row 0) || nat_lt 255 (length (field row 0))

-- the moment of a time field by the clock of the header lines, where it is read and in range
unfoldable pub moment_read : Option Clock → List ℕ → Option ℤ
moment_read clock text =
    option_and_then (λ (c : Clock). value_read (time_of c.unit c.start text)) clock

-- one of the two time fields is not read as a moment
abbrev pub lacks_moment : Option Clock → Row → Bool
lacks_moment clock row =
    not (is_some (moment_read clock (field row 1)) && is_some (moment_read clock (field row 2)))

-- an end that is not after the start, of moments that are read
abbrev pub is_not_after : Option ℤ → Option ℤ → Bool
is_not_after (Some t0) (Some t1) = int_le t1 t0
is_not_after (Some t0) None = false
is_not_after None t1 = false

-- both moments are read, and the end is not after the start
abbrev pub ends_early : Option Clock → Row → Bool
ends_early clock row =
    is_not_after (moment_read clock (field row 1)) (moment_read clock (field row 2))

-- the coordinates of the trajectory
abbrev pub coordinates : Row → List (List ℕ)
coordinates row = words (field row 3)

-- the text is read as a coordinate in range
unfoldable pub is_coordinate : List ℕ → Bool
is_coordinate text = is_some (value_read (coord_of text))

-- one of these texts is no coordinate
unfoldable pub has_wrong_coordinate : List (List ℕ) → Bool
has_wrong_coordinate texts = not (list_all is_coordinate texts)

-- how many coordinates a position has
abbrev pub axes : Dimension → ℕ
axes Two = 2
axes Three = 3

-- no position, or a number of coordinates that is no multiple of the dimension, where that is read
unfoldable pub has_wrong_count : Option Dimension → List (List ℕ) → Bool
has_wrong_count (Some dimension) texts =
    (length texts == 0) || not (length texts % axes dimension == 0)
has_wrong_count None texts = false

-- the position of three coordinates, if all are read
abbrev pub position_of : Option ℤ → Option ℤ → Option ℤ → Option Position
position_of (Some x) (Some y) (Some z) = Some (record { x = x; y = y; z = z })
position_of (Some x) (Some y) None = None
position_of (Some x) None z = None
position_of None y z = None

-- a position in front of others, if all are read
abbrev pub onto_positions : Option Position → Option (List Position) → Option (List Position)
onto_positions (Some position) (Some positions) = Some (position ∷ positions)
onto_positions (Some position) None = None
onto_positions None positions = None

-- the coordinate that a text says, if it is read
abbrev pub coordinate_of : List ℕ → Option ℤ
coordinate_of text = value_read (coord_of text)

-- the positions of pairs, where all coordinates are read and none is left over: x, then y; z is 0
unfoldable pub positions_of_pairs : List (List ℕ) → Option (List Position)
positions_of_pairs [] = Some []
positions_of_pairs (x ∷ []) = None
positions_of_pairs (x ∷ y ∷ rest) =
    onto_positions (position_of (coordinate_of x) (coordinate_of y) (Some (pos 0)))
    (positions_of_pairs rest)

-- the positions of triples: x, then y, then z
unfoldable pub positions_of_triples : List (List ℕ) → Option (List Position)
positions_of_triples [] = Some []
positions_of_triples (x ∷ []) = None
positions_of_triples (x ∷ y ∷ []) = None
positions_of_triples (x ∷ y ∷ z ∷ rest) =
    onto_positions (position_of (coordinate_of x) (coordinate_of y) (coordinate_of z))
    (positions_of_triples rest)

-- the positions of a dimension that is read
abbrev pub positions_of : Option Dimension → List (List ℕ) → Option (List Position)
positions_of (Some Two) texts = positions_of_pairs texts
positions_of (Some Three) texts = positions_of_triples texts
positions_of None texts = None

-- fewer milliseconds than legs, of moments and positions that are read
abbrev pub is_too_short : Option ℤ → Option ℤ → Option (List Position) → Bool
is_too_short (Some t0) (Some t1) (Some positions) =
    int_lt (t1 -ℤ t0) (pos (leg_count (length positions)))
is_too_short (Some t0) (Some t1) None = false
is_too_short (Some t0) None positions = false
is_too_short None t1 positions = false

-- what is read has too few milliseconds for its legs
abbrev pub lacks_time : Option Dimension → Option Clock → Row → Bool
lacks_time dimension clock row =
    is_too_short (moment_read clock (field row 1)) (moment_read clock (field row 2))
    (positions_of dimension (coordinates row))

-- the value of each attribute column; one that is missing is blank
unfoldable pub attributes_of : ℕ → Row → List (List ℕ)
attributes_of columns row = map (λ i. field row (4 + i)) (range_with_len 0 columns)

-- the data record of that number, where its moments and positions are read
abbrev pub record_with : ℕ → ℕ → Row → Option ℤ → Option ℤ → Option (List Position)
    → Option RecordView
record_with number columns row (Some t0) (Some t1) (Some positions) =
    Some (record {
      number = number;
      mfidref = field row 0;
      t0 = t0;
      t1 = t1;
      positions = positions;
      attributes = attributes_of columns row;
    })
record_with number columns row (Some t0) (Some t1) None = None
record_with number columns row (Some t0) None positions = None
record_with number columns row None t1 positions = None

-- the record that a row says, if its moments and positions are read
unfoldable pub record_of : ℕ → Option Dimension → Option Clock → ℕ → Row → Option RecordView
record_of number dimension clock columns row =
    record_with number columns row (moment_read clock (field row 1))
    (moment_read clock (field row 2)) (positions_of dimension (coordinates row))
