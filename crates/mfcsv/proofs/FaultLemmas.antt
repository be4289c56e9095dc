-- The first fault of a record, by the kind of its line.
use Rattle.std.proofs.Common.{[], ◌∷◌, ◌≡◌, ◌∙◌, ℕ, Some, None, ap, is_some, option_to_list, refl, sym, true, false}
use Rattle.std.specs.List.{list_all}
use Rattle.std.specs.Str.{is_utf8}
use Rattle.mfcsv.specs.Rows.{Row}
use Rattle.mfcsv.specs.Views.{HeadsView, RecordView}
use Rattle.mfcsv.specs.Header.{bounds_of, columns_line_of, has_heads, heads_after, is_data, kind_of, lacks_fixed_columns}
use Rattle.mfcsv.specs.FileText.{columns_before, dimension_before, first_fault, has_fault, line_of, record_by, records_of, clock_before}
use Rattle.mfcsv.specs.DataRecord.{record_of}
use Rattle.mfcsv.specs.Answer.{bounds_fault, data_fault}
use Rattle.mfcsv.specs.declared.Dimension.{Dimension}
use Rattle.mfcsv.specs.declared.Code.TheVariants.{F1, F2, F7, F8}
use Rattle.mfcsv.specs.declared.header.Clock.{Clock}
use Rattle.mfcsv.specs.declared.header.RowKind.{RowKind}
use Rattle.mfcsv.specs.declared.header.RowKind.TheVariants.{Skipped, Bounds, Columns, Other, Data}

-- a field that is no text comes before all else
pub no_text_fault : (heads : HeadsView) (row : Row) → list_all is_utf8 row ≡ false → first_fault heads row ≡ Some F1
unfolding first_fault has_fault
no_text_fault heads row t = rw t refl

-- a line that is skipped has no other fault
pub skipped_fault : (heads : HeadsView) (row : Row) → list_all is_utf8 row ≡ true → kind_of row ≡ Skipped → first_fault heads row ≡ None
unfolding first_fault has_fault
skipped_fault heads row t k = rw (t, k) refl

pub other_fault : (heads : HeadsView) (row : Row) → list_all is_utf8 row ≡ true → kind_of row ≡ Other → first_fault heads row ≡ None
unfolding first_fault has_fault
other_fault heads row t k = rw (t, k) refl

-- a line `@stboundedby`
pub repeated_bounds : (heads : HeadsView) (row : Row) → list_all is_utf8 row ≡ true → kind_of row ≡ Bounds → is_some heads.bounds ≡ true → first_fault heads row ≡ Some F2
unfolding first_fault has_fault
repeated_bounds heads row t k r = rw (t, k, r) refl

pub first_bounds : (heads : HeadsView) (row : Row) → list_all is_utf8 row ≡ true → kind_of row ≡ Bounds → is_some heads.bounds ≡ false → first_fault heads row ≡ bounds_fault row
unfolding first_fault has_fault
first_bounds heads row t k r = rw (t, k, r) refl

-- a line `@columns`
pub repeated_columns : (heads : HeadsView) (row : Row) → list_all is_utf8 row ≡ true → kind_of row ≡ Columns → is_some heads.columns ≡ true → first_fault heads row ≡ Some F2
unfolding first_fault has_fault
repeated_columns heads row t k r = rw (t, k, r) refl

pub wrong_columns : (heads : HeadsView) (row : Row) → list_all is_utf8 row ≡ true → kind_of row ≡ Columns → is_some heads.columns ≡ false → lacks_fixed_columns row ≡ true → first_fault heads row ≡ Some F7
unfolding first_fault has_fault
wrong_columns heads row t k r e = rw (t, k, r, e) refl

pub right_columns : (heads : HeadsView) (row : Row) → list_all is_utf8 row ≡ true → kind_of row ≡ Columns → is_some heads.columns ≡ false → lacks_fixed_columns row ≡ false → first_fault heads row ≡ None
unfolding first_fault has_fault
right_columns heads row t k r e = rw (t, k, r, e) refl

-- a data record
pub early_data : (heads : HeadsView) (row : Row) → list_all is_utf8 row ≡ true → kind_of row ≡ Data → has_heads heads ≡ false → first_fault heads row ≡ Some F8
unfolding first_fault has_fault
early_data heads row t k h = rw (t, k, h) refl

later_fault : (heads : HeadsView) (row : Row) → list_all is_utf8 row ≡ true → kind_of row ≡ Data → has_heads heads ≡ true → first_fault heads row ≡ data_fault (dimension_before heads) (clock_before heads) (columns_before heads) row
unfolding first_fault has_fault data_fault
later_fault heads row t k h = rw (t, k, h) refl

pub later_data : (heads : HeadsView) (row : Row) (dimension : Dimension) (clock : Clock) (columns : ℕ) → list_all is_utf8 row ≡ true → kind_of row ≡ Data → has_heads heads ≡ true → dimension_before heads ≡ Some dimension → clock_before heads ≡ Some clock
    → columns_before heads ≡ columns → first_fault heads row ≡ data_fault (Some dimension) (Some clock) columns row
later_data heads row dimension clock columns t k h d s n =
    later_fault heads row t k h ∙ ap (λ x. data_fault x (clock_before heads) (columns_before heads) row) d
    ∙ ap (λ x. data_fault (Some dimension) x (columns_before heads) row) s ∙ ap (λ x. data_fault (Some dimension) (Some clock) x row) n

pub data_records : (number : ℕ) (heads : HeadsView) (row : Row) (dimension : Dimension) (clock : Clock) (columns : ℕ) (r : RecordView) → kind_of row ≡ Data → dimension_before heads ≡ Some dimension → clock_before heads ≡ Some clock
    → columns_before heads ≡ columns → record_of number (Some dimension) (Some clock) columns row ≡ Some r → records_of (line_of number heads row) ≡ r ∷ []
data_records number heads row dimension clock columns r k d s n e =
    ap (λ kind. option_to_list (record_by kind (line_of number heads row))) k
    ∙ ap option_to_list (ap (λ x. record_of number x (clock_before heads) (columns_before heads) row) d
    ∙ ap (λ x. record_of number (Some dimension) x (columns_before heads) row) s ∙ ap (λ x. record_of number (Some dimension) (Some clock) x row) n ∙ e)

-- no other line has a data record
pub no_records : (number : ℕ) (heads : HeadsView) (row : Row) (kind : RowKind) → kind_of row ≡ kind → is_data kind ≡ false → records_of (line_of number heads row) ≡ []
no_records number heads row kind k e = ap (λ x. option_to_list (record_by x (line_of number heads row))) k ∙ none kind e
  where
    none : (x : RowKind) → is_data x ≡ false → option_to_list (record_by x (line_of number heads row)) ≡ []
    none Data d = cc
    none Skipped d = refl
    none Bounds d = refl
    none Columns d = refl
    none Other d = refl

-- the header lines after a record
pub heads_after-bounds : (number : ℕ) (heads : HeadsView) (row : Row) → kind_of row ≡ Bounds → heads_after number heads row ≡ record heads { bounds = Some (bounds_of number row) }
unfolding heads_after
heads_after-bounds number heads row k = rw k refl

pub heads_after-columns : (number : ℕ) (heads : HeadsView) (row : Row) → kind_of row ≡ Columns → heads_after number heads row ≡ record heads { columns = Some (columns_line_of number row) }
unfolding heads_after
heads_after-columns number heads row k = rw k refl

pub heads_after-data : (number : ℕ) (heads : HeadsView) (row : Row) → kind_of row ≡ Data → heads_after number heads row ≡ heads
unfolding heads_after
heads_after-data number heads row k = rw k refl

pub heads_after-skipped : (number : ℕ) (heads : HeadsView) (row : Row) → kind_of row ≡ Skipped → heads_after number heads row ≡ heads
unfolding heads_after
heads_after-skipped number heads row k = rw k refl

pub heads_after-other : (number : ℕ) (heads : HeadsView) (row : Row) → kind_of row ≡ Other → heads_after number heads row ≡ heads
unfolding heads_after
heads_after-other number heads row k = rw k refl

-- a line that is skipped: no fault, the same header lines, no record
pub skipped_line : (number : ℕ) (heads : HeadsView) (row : Row) → list_all is_utf8 row ≡ true → kind_of row ≡ Skipped
    → (first_fault heads row ≡ None) × ((heads ≡ heads_after number heads row) × (records_of (line_of number heads row) ≡ []))
skipped_line number heads row t k = (skipped_fault heads row t k, (sym (heads_after-skipped number heads row k), no_records number heads row Skipped k refl))

pub other_line : (number : ℕ) (heads : HeadsView) (row : Row) → list_all is_utf8 row ≡ true → kind_of row ≡ Other
    → (first_fault heads row ≡ None) × ((heads ≡ heads_after number heads row) × (records_of (line_of number heads row) ≡ []))
other_line number heads row t k = (other_fault heads row t k, (sym (heads_after-other number heads row k), no_records number heads row Other k refl))
