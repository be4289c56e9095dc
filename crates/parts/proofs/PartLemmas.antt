-- What the records of a part say.
use Rattle.std.proofs.Common.{[], ◌∷◌, ◌++◌, ◌+◌, ◌≡◌, ◌∙◌, ◌&&◌, ◌||◌, ℕ, ℤ, Bool, List, Option, Some, None, Result, Ok, Err, ap, cond, filter, flat_map, inl, inr, map, option_to_list, refl, sym, true, false}
use Rattle.std.specs.Prelude.{IfOk, codes}
use Rattle.std.specs.List.{list_all}
use Rattle.std.specs.Str.{is_utf8}
use Rattle.std.proofs.lemmas.Bool.{cases_Bool}
use Rattle.std.proofs.lemmas.Str.{IsUtf8-nil, is_utf8-from_IsUtf8}
use Rattle.std.proofs.lemmas.List.Elements.{filter-append}
use Rattle.mfcsv.specs.Rows.{Row, field, rows_of, same_word}
use Rattle.mfcsv.specs.Views.{BoundsView, ColumnsView, HeadsView, RecordView}
use Rattle.mfcsv.specs.Header.{heads_after, is_blank_row, is_data, is_header_row, kind_of}
use Rattle.mfcsv.specs.DataRecord.{record_of, record_with}
use Rattle.mfcsv.specs.FileText.{clock_before, columns_before, dimension_before, faults_of, file_at, file_of_bytes, file_with, first_or, has_fault, heads_from, line_of, lines_from, no_heads, records_of, text_of_rows}
use Rattle.mfcsv.specs.declared.Code.{Code}
use Rattle.mfcsv.specs.declared.Dimension.{Dimension}
use Rattle.mfcsv.specs.declared.Position.{Position}
use Rattle.mfcsv.specs.declared.File.{File}
use Rattle.mfcsv.proofs.FaultLemmas.{heads_after-data, heads_after-skipped, no_records}
use Rattle.parts.specs.Names.{is_in}
use Rattle.parts.specs.Part.{blank_row, file_part, is_own, row_part, said_part, stays, whole_part}
use Rattle.parts.proofs.BackLemmas.{part_rows}

or_false : (a b : Bool) → (a || b) ≡ false → (a ≡ false) × (b ≡ false)
or_false true b e = absurd (cc)
or_false false b e = (refl, e)

or_other : (a b : Bool) → (a || b) ≡ true → a ≡ false → b ≡ true
or_other true b e f = absurd (cc)
or_other false b e f = e

-- a record that goes is no header line, and is of another part
goes : (k n : ℕ) (row : Row) → stays k n row ≡ false → (is_header_row row ≡ false) × (is_in k n (field row 0) ≡ false)
unfolding stays
goes k n row e = or_false (is_header_row row) (is_in k n (field row 0)) e

stays_own : (k n : ℕ) (row : Row) → stays k n row ≡ true → is_header_row row ≡ false → is_in k n (field row 0) ≡ true
unfolding stays
stays_own k n row e f = or_other (is_header_row row) (is_in k n (field row 0)) e f

-- a header line is no data record
header_kind : (row : Row) → is_header_row row ≡ true → is_data (kind_of row) ≡ false
unfolding kind_of
header_kind row h = elim (cases_Bool (is_blank_row row)) [
  | inl e ↦ rw e refl
  | inr e ↦ elim (cases_Bool (same_word (field row 0) (codes "@stboundedby"))) [
    | inl b ↦ rw (e, h, b) refl
    | inr b ↦ elim (cases_Bool (same_word (field row 0) (codes "@columns"))) [
      | inl s ↦ rw (e, h, b, s) refl
      | inr s ↦ rw (e, h, b, s) refl
    ]
  ]
]

blank_kind : (row : Row) → is_blank_row row ≡ true → is_data (kind_of row) ≡ false
unfolding kind_of
blank_kind row e = rw e refl

-- a blank record
blank_is_text : list_all is_utf8 blank_row ≡ true
blank_is_text = ap (λ b. b && true) (is_utf8-from_IsUtf8 [] IsUtf8-nil)

pub blank_faults : (number : ℕ) (heads : HeadsView) → faults_of (line_of number heads blank_row) ≡ []
unfolding has_fault kind_of
blank_faults number heads = rw blank_is_text refl

blank_heads : (number : ℕ) (heads : HeadsView) → heads_after number heads blank_row ≡ heads
unfolding kind_of
blank_heads number heads = heads_after-skipped number heads blank_row refl

blank_records : (number : ℕ) (heads : HeadsView) → records_of (line_of number heads blank_row) ≡ []
unfolding kind_of
blank_records number heads = no_records number heads blank_row (kind_of blank_row) refl refl

-- the header lines after what stands in the place of a record
pub no_header-heads : (number : ℕ) (heads : HeadsView) (row : Row) → is_header_row row ≡ false → heads_after number heads row ≡ heads
unfolding kind_of
no_header-heads number heads row h = elim (cases_Bool (is_blank_row row)) [
  | inl e ↦ heads_after-skipped number heads row (rw e refl)
  | inr e ↦ heads_after-data number heads row (rw (e, h) refl)
]

goes_heads : (k n number : ℕ) (heads : HeadsView) (row : Row) → stays k n row ≡ false → heads_after number heads blank_row ≡ heads_after number heads row
goes_heads k n number heads row e = blank_heads number heads ∙ sym (no_header-heads number heads row (goes k n row e).0)

pub heads_one : (k n number : ℕ) (heads : HeadsView) (row : Row) → heads_after number heads (row_part k n row) ≡ heads_after number heads row
heads_one k n number heads row = by (stays k n row) refl
  where
    by : (b : Bool) → stays k n row ≡ b → heads_after number heads (cond b row blank_row) ≡ heads_after number heads row
    by true e = refl
    by false e = goes_heads k n number heads row e

-- its faults
pub faults_one : (k n number : ℕ) (heads : HeadsView) (row : Row) → faults_of (line_of number heads row) ≡ [] → faults_of (line_of number heads (row_part k n row)) ≡ []
faults_one k n number heads row none = by (stays k n row)
  where
    by : (b : Bool) → faults_of (line_of number heads (cond b row blank_row)) ≡ []
    by true = none
    by false = blank_faults number heads

-- its data record, if it is one: of a record that stays it is of the part, of another it is not
own_with : (k n number columns : ℕ) (row : Row) (t0 t1 : Option ℤ) (positions : Option (List Position)) (b : Bool) → is_in k n (field row 0) ≡ b
    → filter (is_own k n) (option_to_list (record_with number columns row t0 t1 positions)) ≡ cond b (option_to_list (record_with number columns row t0 t1 positions)) []
own_with k n number columns row (Some t0) (Some t1) (Some positions) b e =
    ap (λ c. cond c (option_to_list (record_with number columns row (Some t0) (Some t1) (Some positions))) []) e
own_with k n number columns row (Some t0) (Some t1) None true e = refl
own_with k n number columns row (Some t0) (Some t1) None false e = refl
own_with k n number columns row (Some t0) None positions true e = refl
own_with k n number columns row (Some t0) None positions false e = refl
own_with k n number columns row None t1 positions true e = refl
own_with k n number columns row None t1 positions false e = refl

own_of : (k n number : ℕ) (heads : HeadsView) (row : Row) (b : Bool) → is_in k n (field row 0) ≡ b
    → filter (is_own k n) (option_to_list (record_of number (dimension_before heads) (clock_before heads) (columns_before heads) row))
    ≡ cond b (option_to_list (record_of number (dimension_before heads) (clock_before heads) (columns_before heads) row)) []
unfolding record_of
own_of k n number heads row b e = own_with k n number (columns_before heads) row _ _ _ b e

-- what is neither a header line nor blank is a data record
data_records : (number : ℕ) (heads : HeadsView) (row : Row) → is_header_row row ≡ false → is_blank_row row ≡ false
    → records_of (line_of number heads row) ≡ option_to_list (record_of number (dimension_before heads) (clock_before heads) (columns_before heads) row)
unfolding kind_of
data_records number heads row h e = rw (e, h) refl

other_records : (number : ℕ) (heads : HeadsView) (row : Row) → is_data (kind_of row) ≡ false → records_of (line_of number heads row) ≡ []
other_records number heads row d = no_records number heads row (kind_of row) refl d

stays_records : (k n number : ℕ) (heads : HeadsView) (row : Row) → stays k n row ≡ true → records_of (line_of number heads row) ≡ filter (is_own k n) (records_of (line_of number heads row))
stays_records k n number heads row e = elim (cases_Bool (is_header_row row)) [
  | inl h ↦ let none = other_records number heads row (header_kind row h) in none ∙ sym (ap (filter (is_own k n)) none)
  | inr h ↦ elim (cases_Bool (is_blank_row row)) [
    | inl b ↦ let none = other_records number heads row (blank_kind row b) in none ∙ sym (ap (filter (is_own k n)) none)
    | inr b ↦
        let some = data_records number heads row h b in
        some ∙ sym (own_of k n number heads row true (stays_own k n row e h)) ∙ sym (ap (filter (is_own k n)) some)
  ]
]

goes_records : (k n number : ℕ) (heads : HeadsView) (row : Row) → stays k n row ≡ false → [] ≡ filter (is_own k n) (records_of (line_of number heads row))
goes_records k n number heads row e = elim (cases_Bool (is_blank_row row)) [
  | inl b ↦ sym (ap (filter (is_own k n)) (other_records number heads row (blank_kind row b)))
  | inr b ↦ sym (ap (filter (is_own k n)) (data_records number heads row (goes k n row e).0 b) ∙ own_of k n number heads row false (goes k n row e).1)
]

records_one : (k n number : ℕ) (heads : HeadsView) (row : Row) → records_of (line_of number heads (row_part k n row)) ≡ filter (is_own k n) (records_of (line_of number heads row))
records_one k n number heads row = by (stays k n row) refl
  where
    by : (b : Bool) → stays k n row ≡ b → records_of (line_of number heads (cond b row blank_row)) ≡ filter (is_own k n) (records_of (line_of number heads row))
    by true e = stays_records k n number heads row e
    by false e = blank_records number heads ∙ goes_records k n number heads row e

-- a list that is empty has empty parts
first_nil : {X : Type 0} (xs ys : List X) → xs ++ ys ≡ [] → xs ≡ []
first_nil [] ys e = refl
first_nil (x ∷ xs) ys e = absurd (let s : x ∷ (xs ++ ys) ≡ [] = e in (cc))

second_nil : {X : Type 0} (xs ys : List X) → xs ++ ys ≡ [] → ys ≡ []
second_nil [] ys e = e
second_nil (x ∷ xs) ys e = absurd (let s : x ∷ (xs ++ ys) ≡ [] = e in (cc))

-- all records
pub heads_all : (k n number : ℕ) (heads : HeadsView) (rows : List Row) → heads_from number heads (map (row_part k n) rows) ≡ heads_from number heads rows
heads_all k n number heads [] = refl
heads_all k n number heads (row ∷ rows) =
    ap (λ (h : HeadsView). heads_from (number + 1) h (map (row_part k n) rows)) (heads_one k n number heads row) ∙ heads_all k n (number + 1) (heads_after number heads row) rows

pub faults_all : (k n number : ℕ) (heads : HeadsView) (rows : List Row) → flat_map faults_of (lines_from number heads rows) ≡ [] → flat_map faults_of (lines_from number heads (map (row_part k n) rows)) ≡ []
faults_all k n number heads [] none = refl
faults_all k n number heads (row ∷ rows) none =
    let here : List (Code × ℕ) = faults_of (line_of number heads row) in
    let behind : List (Code × ℕ) = flat_map faults_of (lines_from (number + 1) (heads_after number heads row) rows) in
    ap (λ (faults : List (Code × ℕ)). faults ++ flat_map faults_of (lines_from (number + 1) (heads_after number heads (row_part k n row)) (map (row_part k n) rows)))
    (faults_one k n number heads row (first_nil here behind none))
    ∙ ap (λ (h : HeadsView). flat_map faults_of (lines_from (number + 1) h (map (row_part k n) rows))) (heads_one k n number heads row)
    ∙ faults_all k n (number + 1) (heads_after number heads row) rows (second_nil here behind none)

pub records_all : (k n number : ℕ) (heads : HeadsView) (rows : List Row) → flat_map records_of (lines_from number heads (map (row_part k n) rows)) ≡ filter (is_own k n) (flat_map records_of (lines_from number heads rows))
records_all k n number heads [] = refl
records_all k n number heads (row ∷ rows) =
    ap (λ (rs : List RecordView). rs ++ flat_map records_of (lines_from (number + 1) (heads_after number heads (row_part k n row)) (map (row_part k n) rows))) (records_one k n number heads row)
    ∙ ap (λ (h : HeadsView). filter (is_own k n) (records_of (line_of number heads row)) ++ flat_map records_of (lines_from (number + 1) h (map (row_part k n) rows))) (heads_one k n number heads row)
    ∙ ap (λ (rs : List RecordView). filter (is_own k n) (records_of (line_of number heads row)) ++ rs) (records_all k n (number + 1) (heads_after number heads row) rows)
    ∙ sym (filter-append (is_own k n) (records_of (line_of number heads row)) (flat_map records_of (lines_from (number + 1) (heads_after number heads row) rows)))

-- the file of these header lines with the records of the part
said_at : (k n : ℕ) (dimension : Option Dimension) (start : Option ℤ) (bounds : BoundsView) (line : ColumnsView) (records : List RecordView)
    → file_at dimension start bounds line (filter (is_own k n) records) ≡ said_part k n (file_at dimension start bounds line records)
said_at k n (Some dimension) (Some start) bounds line records = refl
said_at k n (Some dimension) None bounds line records = refl
said_at k n None start bounds line records = refl

pub said_with : (k n : ℕ) (bounds : Option BoundsView) (columns : Option ColumnsView) (records : List RecordView) → file_with bounds columns (filter (is_own k n) records) ≡ said_part k n (file_with bounds columns records)
said_with k n (Some bounds) (Some line) records = said_at k n bounds.dimension bounds.start bounds line records
said_with k n (Some bounds) None records = refl
said_with k n None columns records = refl

first_or_ok : (faults : List (Code × ℕ)) (said : Result File (Code × ℕ)) (file : File) → first_or faults said ≡ Ok file → (faults ≡ []) × (said ≡ Ok file)
first_or_ok [] said file e = (refl, e)
first_or_ok (fault ∷ faults) said file e = absurd (cc)

-- the records of the part of a file without a fault say its part
part_says : (k n : ℕ) (rows : List Row) (file : File) → text_of_rows rows ≡ Ok file → text_of_rows (map (row_part k n) rows) ≡ Ok (file_part k n file)
unfolding text_of_rows
part_says k n rows file e =
    let heads : HeadsView = heads_from 1 no_heads rows in
    let records : List RecordView = flat_map records_of (lines_from 1 no_heads rows) in
    let own : HeadsView = heads_from 1 no_heads (map (row_part k n) rows) in
    let kept : List RecordView = flat_map records_of (lines_from 1 no_heads (map (row_part k n) rows)) in
    let parts = first_or_ok (flat_map faults_of (lines_from 1 no_heads rows)) (file_with heads.bounds heads.columns records) file e in
    ap (λ (faults : List (Code × ℕ)). first_or faults (file_with own.bounds own.columns kept)) (faults_all k n 1 no_heads rows parts.0)
    ∙ ap (λ (h : HeadsView). file_with h.bounds h.columns kept) (heads_all k n 1 no_heads rows)
    ∙ ap (file_with heads.bounds heads.columns) (records_all k n 1 no_heads rows)
    ∙ said_with k n heads.bounds heads.columns records
    ∙ ap (said_part k n) parts.1

-- the text of the part
pub whole_says : (k n : ℕ) (bytes : List ℕ) (file : File) → file_of_bytes bytes ≡ Ok file → file_of_bytes (whole_part k n bytes) ≡ said_part k n (file_of_bytes bytes)
whole_says k n bytes file e = ap text_of_rows (part_rows k n bytes) ∙ part_says k n (rows_of bytes) file e ∙ sym (ap (said_part k n) e)

-- what was answered is a text that says that
pub said_by : {V E : Type 0} (items : V → List ℕ) (r : Result V E) (t : List ℕ) (s : Result File (Code × ℕ)) → IfOk r (λ text. items text ≡ t) → file_of_bytes t ≡ s → IfOk r (λ text. file_of_bytes (items text) ≡ s)
said_by items (Ok text) t s e f = ap (λ (x : List ℕ). file_of_bytes x) e ∙ f
said_by items (Err error) t s e f = tt
