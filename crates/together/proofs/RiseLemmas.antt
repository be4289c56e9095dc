-- The records of a file have rising numbers.
use Rattle.std.proofs.Common.{[], ◌∷◌, ◌++◌, ◌+◌, ◌≤◌, ◌≡◌, ◌⊎◌, ℕ, ℤ, ap, sym, refl, subst, arith, flat_map, inl, inr, List, Option, Some, None, option_to_list, Ok}
use Rattle.std.specs.Prelude.{codes}
use Rattle.std.proofs.lemmas.Bool.{cases_Bool}
use Rattle.mfcsv.specs.Rows.{Row, field, rows_of, same_word}
use Rattle.mfcsv.specs.Views.{BoundsView, ColumnsView, HeadsView, RecordView}
use Rattle.mfcsv.specs.Header.{heads_after, is_blank_row, is_header_row, kind_of}
use Rattle.mfcsv.specs.DataRecord.{record_of, record_with}
use Rattle.mfcsv.specs.FileText.{Line, clock_before, columns_before, dimension_before, file_at, file_with, faults_of, first_or, heads_from, line_of, lines_from, no_heads, records_of, text_of_rows}
use Rattle.mfcsv.specs.declared.Code.{Code}
use Rattle.mfcsv.specs.declared.Dimension.{Dimension}
use Rattle.mfcsv.specs.declared.File.{File}
use Rattle.mfcsv.specs.declared.Position.{Position}
use Rattle.together.specs.Joining.{RisesLaw}
use Rattle.together.specs.Parts.{Rises}

rises_later : (a b : ℕ) (records : List RecordView) → a ≤ b → Rises b records → Rises a records
rises_later a b [] h rises = tt
rises_later a b (r ∷ records) h rises = (let g = rises.0 in omega (arith, g), rises.1)

-- a line's record has its number
with_number : (number columns : ℕ) (row : Row) (t0 t1 : Option ℤ) (positions : Option (List Position)) (records : List RecordView) → Rises (number + 1) records
    → Rises number (option_to_list (record_with number columns row t0 t1 positions) ++ records)
with_number number columns row (Some t0) (Some t1) (Some positions) records rises = (omega arith, rises)
with_number number columns row (Some t0) (Some t1) None records rises = rises_later number (number + 1) records (omega arith) rises
with_number number columns row (Some t0) None positions records rises = rises_later number (number + 1) records (omega arith) rises
with_number number columns row None t1 positions records rises = rises_later number (number + 1) records (omega arith) rises

-- a line has no record, or the one of its number
none_or_own : (line : Line) → (records_of line ≡ []) ⊎ (records_of line ≡ option_to_list (record_of line.number (dimension_before line.heads) (clock_before line.heads) (columns_before line.heads) line.row))
unfolding kind_of
none_or_own line = elim (cases_Bool (is_blank_row line.row)) [
  | inl e ↦ inl (rw e refl)
  | inr e ↦ elim (cases_Bool (is_header_row line.row)) [
    | inr h ↦ inr (rw (e, h) refl)
    | inl h ↦ elim (cases_Bool (same_word (field line.row 0) (codes "@stboundedby"))) [
      | inl b ↦ inl (rw (e, h, b) refl)
      | inr b ↦ elim (cases_Bool (same_word (field line.row 0) (codes "@columns"))) [
        | inl s ↦ inl (rw (e, h, b, s) refl)
        | inr s ↦ inl (rw (e, h, b, s) refl)
      ]
    ]
  ]
]

by_line : (line : Line) (records : List RecordView) → Rises (line.number + 1) records → Rises line.number (records_of line ++ records)
unfolding record_of
by_line line records rises = elim (none_or_own line) [
  | inl none ↦ subst (λ (own : List RecordView). Rises line.number (own ++ records)) (sym none) (rises_later line.number (line.number + 1) records (omega arith) rises)
  | inr one ↦ subst (λ (own : List RecordView). Rises line.number (own ++ records)) (sym one) (with_number line.number _ line.row _ _ _ records rises)
]

lines_rise : (number : ℕ) (heads : HeadsView) (rows : List Row) → Rises number (flat_map records_of (lines_from number heads rows))
lines_rise number heads [] = tt
lines_rise number heads (row ∷ rows) =
    by_line (line_of number heads row) (flat_map records_of (lines_from (number + 1) (heads_after number heads row) rows)) (lines_rise (number + 1) (heads_after number heads row) rows)

-- a file has the records that it was made of
at_records : (dimension : Option Dimension) (start : Option ℤ) (bounds : BoundsView) (line : ColumnsView) (records : List RecordView) (file : File) → file_at dimension start bounds line records ≡ Ok file → file.records ≡ records
at_records (Some dimension) (Some start) bounds line records file e =
    let same : file ≡ record { head = record { number_bounds = bounds.number; number_columns = line.number; crs = bounds.crs; dimension = dimension; start = start; columns = line.columns }; records = records } = cc in
    ap (λ (it : File). it.records) same
at_records (Some dimension) None bounds line records file e = absurd (cc)
at_records None start bounds line records file e = absurd (cc)

made_of : (bounds : Option BoundsView) (columns : Option ColumnsView) (records : List RecordView) (file : File) → file_with bounds columns records ≡ Ok file → file.records ≡ records
made_of (Some bounds) (Some line) records file e = at_records bounds.dimension bounds.start bounds line records file e
made_of (Some bounds) None records file e = absurd (cc)
made_of None columns records file e = absurd (cc)

behind_faults : (faults : List (Code × ℕ)) (bounds : Option BoundsView) (columns : Option ColumnsView) (records : List RecordView) (file : File)
    → first_or faults (file_with bounds columns records) ≡ Ok file → file.records ≡ records
behind_faults [] bounds columns records file e = made_of bounds columns records file e
behind_faults (fault ∷ faults) bounds columns records file e = absurd (cc)

pub rises_law : RisesLaw
unfolding text_of_rows
rises_law bytes file e =
    let lines = lines_from 1 no_heads (rows_of bytes) in
    let heads = heads_from 1 no_heads (rows_of bytes) in
    let same = behind_faults (flat_map faults_of lines) heads.bounds heads.columns (flat_map records_of lines) file e in
    subst (λ (records : List RecordView). Rises 1 records) (sym same) (lines_rise 1 no_heads (rows_of bytes))
