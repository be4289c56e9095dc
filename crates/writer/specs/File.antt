-- The texts of a file and of a list of names.
use Rattle.std.specs.Prelude.{List, ℕ, ◌∷◌, ◌++◌, [], ℤ, pos, codes, fold, map}
use Rattle.std.specs.Int.{int_max, int_min}
use Rattle.std.specs.List.{flat_map}
use Rattle.timebase.specs.InstantText.{instant_text}
use Rattle.mfcsv.specs.declared.Column.{Column}
use Rattle.mfcsv.specs.declared.Dimension.{Dimension}
use Rattle.mfcsv.specs.declared.Dimension.TheVariants.{Two, Three}
use Rattle.mfcsv.specs.declared.Position.{Position}
use Rattle.legs.specs.declared.head.BookHead.{BookHead}
use Rattle.writer.specs.Entries.{NamedLegView}
use Rattle.writer.specs.Records.{record_text, leg_record, point_text}
use Rattle.writer.specs.declared.entry.Frame.{Frame}

-- each name as a record of one field
abbrev pub features_text : List (List ℕ) → List ℕ
features_text names = flat_map (λ name. record_text (name ∷ [])) names

-- the x of the two ends of all legs
abbrev pub xs : List NamedLegView → List ℤ
xs entries = flat_map (λ e. e.leg.x0 ∷ e.leg.x1 ∷ []) entries

-- the y of the two ends of all legs
abbrev pub ys : List NamedLegView → List ℤ
ys entries = flat_map (λ e. e.leg.y0 ∷ e.leg.y1 ∷ []) entries

-- the z of the two ends of all legs
abbrev pub zs : List NamedLegView → List ℤ
zs entries = flat_map (λ e. e.leg.z0 ∷ e.leg.z1 ∷ []) entries

-- the first of numbers, 0 where there are none
abbrev pub first_or_zero : List ℤ → ℤ
first_or_zero [] = pos 0
first_or_zero (n ∷ ns) = n

-- the least of numbers, 0 where there are none
abbrev pub least : List ℤ → ℤ
least ns = fold int_min (first_or_zero ns) ns

-- the greatest of numbers, 0 where there are none
abbrev pub greatest : List ℤ → ℤ
greatest ns = fold int_max (first_or_zero ns) ns

-- the greatest end of all legs, or the base where that is later
abbrev pub end_from : ℤ → List NamedLegView → ℤ
end_from base entries = fold int_max base (map (λ e. e.leg.t1) entries)

-- a dimension as it is printed
abbrev pub dimension_text : Dimension → List ℕ
dimension_text Two = codes "2D"
dimension_text Three = codes "3D"

-- the least coordinates of all legs
abbrev pub lower_corner : List NamedLegView → Position
lower_corner entries =
    record { x = least (xs entries); y = least (ys entries); z = least (zs entries) }

-- the greatest coordinates of all legs
abbrev pub upper_corner : List NamedLegView → Position
upper_corner entries =
    record { x = greatest (xs entries); y = greatest (ys entries); z = greatest (zs entries) }

-- the fields of `@stboundedby`: the corners, the base and the end of all legs
unfoldable pub bounds_fields : BookHead → List NamedLegView → List (List ℕ)
bounds_fields head entries =
    codes "@stboundedby" ∷ head.crs ∷ dimension_text head.dimension
    ∷ point_text head.dimension (lower_corner entries)
    ∷ point_text head.dimension (upper_corner entries)
    ∷ instant_text head.base ∷ instant_text (end_from head.base entries) ∷ codes "sec" ∷ []

-- the names and types of the columns
abbrev pub column_fields : List Column → List (List ℕ)
column_fields columns = flat_map (λ column. column.name ∷ column.kind ∷ []) columns

-- the fields of `@columns`
abbrev pub columns_fields : BookHead → List (List ℕ)
columns_fields head =
    codes "@columns" ∷ codes "mfidref" ∷ codes "trajectory" ∷ column_fields head.columns

-- the record of an entry, its times as offsets from the base
abbrev pub entry_record : Frame → NamedLegView → List ℕ
entry_record frame e = leg_record e.name frame e.leg e.values

-- the records of entries
abbrev pub entries_text : Frame → List NamedLegView → List ℕ
entries_text frame entries = flat_map (entry_record frame) entries

-- the dimension of a head, and its base
abbrev pub frame_of : BookHead → Frame
frame_of head = record { dimension = head.dimension; base = head.base }

-- the records of a file: its two header lines, then each leg's
unfoldable pub file_text : BookHead → List NamedLegView → List ℕ
file_text head entries =
    record_text (bounds_fields head entries) ++ record_text (columns_fields head)
    ++ entries_text (frame_of head) entries
