-- The texts of stays, visits and dwells: records of CSV, and the line that names their fields.
use Rattle.std.specs.Prelude.{ℕ, ◌+◌, ◌-◌, ◌/◌, ◌%◌, ◌==◌, if◌then◌else◌, List, [], ◌∷◌, ◌++◌, length, take, ℤ, pos, ◌-ℤ◌, ◌*ℤ◌, unsigned_abs, codes, decimal, flat_map}
use Rattle.std.specs.Fmt.{signed_decimal}
use Rattle.std.specs.Int.{int_div_euclid, int_rem_euclid}
use Rattle.fixedpoint.specs.NumberText.{coord_text}
use Rattle.timebase.specs.InstantText.{instant_text}
use Rattle.mfcsv.specs.declared.Dimension.{Dimension}
use Rattle.mfcsv.specs.declared.Dimension.TheVariants.{Two, Three}
use Rattle.mfcsv.specs.declared.Position.{Position}
use Rattle.legs.specs.Book.{Book}
use Rattle.writer.specs.Records.{record_text}
use Rattle.trajdb.specs.Answers.{feature_name}
use Rattle.moments.specs.Ends.{end_text, met_text}
use Rattle.moments.specs.Lengths.{micros_down, micros_up}
use Rattle.visiting.specs.declared.dwells.Dwell.{Dwell}
use Rattle.moments.specs.declared.ends.End.{End}
use Rattle.moments.specs.declared.moment.Moment.{Moment}
use Rattle.moments.specs.declared.stay.Stay.{Stay}
use Rattle.moments.specs.declared.visits.Visit.{Visit}
use Rattle.reports.specs.declared.moments_text.Frame.{Frame}

-- a text without its last byte
unfoldable pub without_last : List ℕ → List ℕ
without_last text = take (length text - 1) text

-- the last three digits of a number
unfoldable pub three_digits : ℕ → List ℕ
three_digits n = (48 + n / 100 % 10) ∷ (48 + n / 10 % 10) ∷ (48 + n % 10) ∷ []

-- a field behind another one: a comma, and its text
abbrev pub next_field : List ℕ → List ℕ
next_field text = codes "," ++ text

-- a name as it stands in a record of that field alone, without the line's end
unfoldable pub quoted_text : List ℕ → List ℕ
quoted_text name = without_last (record_text (name ∷ []))

-- the name of a feature
abbrev pub name_text : Book → ℕ → List ℕ
name_text book feature = quoted_text (feature_name book feature)

-- the field that stands before each record of a rectangle of that name, and a comma
abbrev pub label_text : List ℕ → List ℕ
label_text name = quoted_text name ++ codes ","

-- a moment as a fraction of milliseconds since a base
unfoldable pub fraction_text : ℤ → Moment → List ℕ
fraction_text base moment =
    signed_decimal (moment.num -ℤ base *ℤ pos moment.den) ++ codes "/" ++ decimal moment.den

-- an instant in microseconds: the text of its whole millisecond, with three digits more before the `Z`
unfoldable pub micros_text : ℤ → List ℕ
micros_text micros =
    without_last (instant_text (int_div_euclid micros (pos 1000)))
    ++ three_digits (unsigned_abs (int_rem_euclid micros (pos 1000))) ++ codes "Z"

-- a first and a last moment: as fractions, and as instants, the first rounded down and the last up
unfoldable pub times_text : ℤ → Moment → Moment → List ℕ
times_text base enters leaves =
    next_field (fraction_text base enters) ++ next_field (fraction_text base leaves)
    ++ next_field (micros_text (micros_down enters)) ++ next_field (micros_text (micros_up leaves))

-- a position: x and y, and in three dimensions z
unfoldable pub position_text : Dimension → Position → List ℕ
position_text Two p = next_field (coord_text p.x) ++ next_field (coord_text p.y)
position_text Three p =
    next_field (coord_text p.x) ++ next_field (coord_text p.y) ++ next_field (coord_text p.z)

-- what a first and a last moment are, and the edges that are met there
unfoldable pub ends_text : End → End → List ℕ
ends_text enters_by leaves_by =
    next_field (end_text enters_by) ++ next_field (end_text leaves_by)
    ++ next_field (met_text enters_by) ++ next_field (met_text leaves_by)

-- the record of a stay
unfoldable pub stay_text : Book → Frame → Stay → List ℕ
stay_text book frame stay =
    frame.label.now ++ name_text book stay.leg.feature ++ times_text frame.base stay.enters stay.leaves
    ++ position_text frame.dimension stay.entry ++ position_text frame.dimension stay.exit
    ++ ends_text stay.enters_by stay.leaves_by ++ codes "\n"

-- the record of a visit, with the number of its legs
unfoldable pub visit_text : Book → Frame → Visit → List ℕ
visit_text book frame visit =
    frame.label.now ++ name_text book visit.feature ++ times_text frame.base visit.enters visit.leaves
    ++ position_text frame.dimension visit.entry ++ position_text frame.dimension visit.exit
    ++ ends_text visit.enters_by visit.leaves_by ++ next_field (decimal visit.legs) ++ codes "\n"

-- the names of the fields of two positions
abbrev pub position_fields : Dimension → List ℕ
position_fields Two = codes "x_in,y_in,x_out,y_out"
position_fields Three = codes "x_in,y_in,z_in,x_out,y_out,z_out"

-- the line that names the fields of stays or visits, between the first of them and the last
unfoldable pub fields_text : List ℕ → Dimension → List ℕ → List ℕ
fields_text first dimension own =
    first ++ codes ",enters,leaves,enters_at,leaves_at" ++ next_field (position_fields dimension)
    ++ next_field own ++ codes "\n"

-- the records of stays
abbrev pub stays_text : Book → Frame → List Stay → List ℕ
stays_text book frame stays = flat_map (stay_text book frame) stays

-- the records of visits
abbrev pub visits_text : Book → Frame → List Visit → List ℕ
visits_text book frame visits = flat_map (visit_text book frame) visits

-- microseconds as seconds, with six digits behind the point
unfoldable pub seconds_text : ℕ → List ℕ
seconds_text micros =
    decimal (micros / 1000000) ++ codes "." ++ three_digits (micros / 1000) ++ three_digits micros

-- the line that names the fields of dwells, behind the first of them
unfoldable pub dwell_fields : List ℕ → List ℕ
dwell_fields first = first ++ codes ",visits,least,most\n"

-- the record of a feature's dwell: how many visits it pays, and for how many seconds it stays at least and at most
unfoldable pub dwell_text : Book → (label : List ℕ) → Dwell → List ℕ
dwell_text book label dwell =
    label ++ name_text book dwell.feature ++ next_field (decimal dwell.visits)
    ++ next_field (seconds_text dwell.least) ++ next_field (seconds_text dwell.most) ++ codes "\n"

-- the records of dwells
abbrev pub dwells_text : Book → (label : List ℕ) → List Dwell → List ℕ
dwells_text book label dwells = flat_map (dwell_text book label) dwells

-- a value as it stands behind other fields: nothing where it is blank, else as CSV has it
unfoldable pub shown_value : List ℕ → List ℕ
shown_value value = if length value == 0 then [] else quoted_text value

-- the values of a record, each behind a comma
abbrev pub values_text : List (List ℕ) → List ℕ
values_text values = flat_map (λ value. next_field (shown_value value)) values
