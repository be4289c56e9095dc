-- The texts of records.
use Rattle.std.specs.Prelude.{List, ℕ, true, ◌∷◌, ◌++◌, [], ◌-ℤ◌}
use Rattle.csv.specs.Writing.{row_text, default_writer, with_flexible}
use Rattle.csv.specs.declared.writer.WriterBuilder.{WriterBuilder}
use Rattle.fixedpoint.specs.NumberText.{coord_text, offset_text}
use Rattle.mfcsv.specs.declared.Dimension.{Dimension}
use Rattle.mfcsv.specs.declared.Dimension.TheVariants.{Two, Three}
use Rattle.mfcsv.specs.declared.Position.{Position}
use Rattle.legs.specs.Legs.{LegView}
use Rattle.writer.specs.declared.entry.Frame.{Frame}

-- csv's writer: commas, quotes only where a field needs them, LF at a record's end, records of any length
abbrev pub record_writer : WriterBuilder
record_writer = with_flexible default_writer true

-- a record as csv writes it
abbrev pub record_text : List (List ℕ) → List ℕ
record_text fields = row_text record_writer fields

-- `x y`, or `x y z` in three dimensions
abbrev pub point_text : Dimension → Position → List ℕ
point_text Two p = coord_text p.x ++ 32 ∷ [] ++ coord_text p.y
point_text Three p = coord_text p.x ++ 32 ∷ [] ++ coord_text p.y ++ 32 ∷ [] ++ coord_text p.z

-- where a leg begins
abbrev pub begin_of : LegView → Position
begin_of leg = record { x = leg.x0; y = leg.y0; z = leg.z0 }

-- where a leg ends
abbrev pub last_position : LegView → Position
last_position leg = record { x = leg.x1; y = leg.y1; z = leg.z1 }

-- both positions of a leg
abbrev pub positions_text : Dimension → LegView → List ℕ
positions_text dimension leg =
    point_text dimension (begin_of leg) ++ 32 ∷ [] ++ point_text dimension (last_position leg)

-- a leg's fields: its feature's name, its start and end as offsets in seconds from the base, its
-- positions, the attribute values of its record
abbrev pub leg_fields : List ℕ → Frame → LegView → List (List ℕ) → List (List ℕ)
leg_fields name frame leg values =
    name ∷ offset_text (leg.t0 -ℤ frame.base) ∷ offset_text (leg.t1 -ℤ frame.base)
    ∷ positions_text frame.dimension leg ∷ values

-- a leg's record
abbrev pub leg_record : List ℕ → Frame → LegView → List (List ℕ) → List ℕ
leg_record name frame leg values = record_text (leg_fields name frame leg values)
