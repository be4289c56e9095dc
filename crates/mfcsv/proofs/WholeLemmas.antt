-- Each record of a file has a value for each column.
use Rattle.std.proofs.Common.{[], ◌∷◌, ◌++◌, ◌+◌, ◌≡◌, ◌∙◌, ℕ, Bool, List, Option, Some, None, Result, Ok, Err, ap, cond, filter, flat_map, is_some, length, option_to_list, refl, subst, sym, true, false, ◌&&◌, not, ◌⊎◌, inl, inr, ℤ}
use Rattle.std.specs.Prelude.{All, IfOk, map}
use Rattle.std.proofs.lemmas.List.Elements.{All-append, All-nil, All-push}
use Rattle.std.proofs.lemmas.List.FromFn.{length-map-range_with_len}
use Rattle.mfcsv.specs.Rows.{Row, field}
use Rattle.mfcsv.specs.Views.{BoundsView, ColumnsView, HeadsView, RecordView}
use Rattle.mfcsv.specs.Header.{has_heads, heads_after, heads_by, is_data, is_repeated, kind_of}
use Rattle.mfcsv.specs.DataRecord.{attributes_of, record_of, record_with}
use Rattle.mfcsv.specs.FileText.{HasWholeRows, Line, clock_before, columns_before, count_in, dimension_before, faults_of, file_at, file_with, first_or, has_fault, heads_from, line_of, lines_from, no_heads, record_by, records_of, table, text_of_rows}
use Rattle.mfcsv.specs.Answer.{Gives}
use Rattle.mfcsv.specs.declared.Code.{Code}
use Rattle.mfcsv.specs.declared.Code.TheVariants.{F1, F2, F3, F4, F5, F6, F7, F8, F11, F12, F13, F14, F15, F16, F17}
use Rattle.mfcsv.specs.declared.Dimension.{Dimension}
use Rattle.mfcsv.specs.declared.Position.{Position}
use Rattle.mfcsv.specs.declared.File.{File}
use Rattle.mfcsv.specs.declared.FileFault.{FileFault}
use Rattle.mfcsv.specs.declared.header.Clock.{Clock}
use Rattle.mfcsv.specs.declared.header.RowKind.{RowKind}
use Rattle.mfcsv.specs.declared.header.RowKind.TheVariants.{Skipped, Bounds, Columns, Other, Data}

-- a list that is empty has empty parts
first_nil : {X : Type 0} (xs ys : List X) → xs ++ ys ≡ [] → xs ≡ []
first_nil [] ys e = refl
first_nil (x ∷ xs) ys e = absurd (let s : x ∷ (xs ++ ys) ≡ [] = e in (cc))

second_nil : {X : Type 0} (xs ys : List X) → xs ++ ys ≡ [] → ys ≡ []
second_nil [] ys e = e
second_nil (x ∷ xs) ys e = absurd (let s : x ∷ (xs ++ ys) ≡ [] = e in (cc))

map_nil : {X Y : Type 0} (f : X → Y) (xs : List X) → map f xs ≡ [] → xs ≡ []
map_nil f [] e = refl
map_nil f (x ∷ xs) e = absurd (let s : f x ∷ map f xs ≡ [] = e in (cc))

-- where none passes, the first does not, and no other does
by_head : {X : Type 0} (b : Bool) (x : X) (xs : List X) → cond b (x ∷ xs) xs ≡ [] → (b ≡ false) × (xs ≡ [])
by_head true x xs e = absurd (let s : x ∷ xs ≡ [] = e in (cc))
by_head false x xs e = (refl, e)

none_passes : {X : Type 0} (p : X → Bool) (x : X) (xs : List X) → filter p (x ∷ xs) ≡ [] → (p x ≡ false) × (filter p xs ≡ [])
none_passes p x xs e = by_head (p x) x (filter p xs) e

-- a line without faults repeats no header line, and is no data record before both
unrepeated : (heads : HeadsView) (row : Row) → filter (has_fault heads row) table ≡ [] → (has_fault heads row F2 ≡ false) × (has_fault heads row F8 ≡ false)
unrepeated heads row e =
    let p = has_fault heads row in
    let last = F11 ∷ F12 ∷ F13 ∷ F14 ∷ F15 ∷ F16 ∷ F17 ∷ [] in
    let a = none_passes p F1 (F2 ∷ F3 ∷ F4 ∷ F5 ∷ F6 ∷ F7 ∷ F8 ∷ last) e in
    let b = none_passes p F2 (F3 ∷ F4 ∷ F5 ∷ F6 ∷ F7 ∷ F8 ∷ last) a.1 in
    let c = none_passes p F3 (F4 ∷ F5 ∷ F6 ∷ F7 ∷ F8 ∷ last) b.1 in
    let d = none_passes p F4 (F5 ∷ F6 ∷ F7 ∷ F8 ∷ last) c.1 in
    let f = none_passes p F5 (F6 ∷ F7 ∷ F8 ∷ last) d.1 in
    let g = none_passes p F6 (F7 ∷ F8 ∷ last) f.1 in
    let h = none_passes p F7 (F8 ∷ last) g.1 in
    let i = none_passes p F8 last h.1 in
    (b.0, i.0)

-- the columns stay behind such a line
kept_by : (kind : RowKind) (number : ℕ) (heads : HeadsView) (row : Row) → is_repeated heads kind ≡ false → is_some heads.columns ≡ true → (heads_by kind number heads row).columns ≡ heads.columns
kept_by Bounds number heads row r s = refl
kept_by Columns number heads row r s = cc
kept_by Skipped number heads row r s = refl
kept_by Other number heads row r s = refl
kept_by Data number heads row r s = refl

kept_one : (number : ℕ) (heads : HeadsView) (row : Row) → has_fault heads row F2 ≡ false → is_some heads.columns ≡ true → (heads_after number heads row).columns ≡ heads.columns
unfolding heads_after has_fault
kept_one number heads row r s = kept_by (kind_of row) number heads row r s

-- the faults of lines, one after another
first_free : (number : ℕ) (heads : HeadsView) (row : Row) (rows : List Row) → flat_map faults_of (lines_from number heads (row ∷ rows)) ≡ [] → (has_fault heads row F2 ≡ false) × (has_fault heads row F8 ≡ false)
first_free number heads row rows e =
    unrepeated heads row (map_nil (λ code. (code, number)) (filter (has_fault heads row) table)
    (first_nil (faults_of (line_of number heads row)) (flat_map faults_of (lines_from (number + 1) (heads_after number heads row) rows)) e))

others_free : (number : ℕ) (heads : HeadsView) (row : Row) (rows : List Row) → flat_map faults_of (lines_from number heads (row ∷ rows)) ≡ [] → flat_map faults_of (lines_from (number + 1) (heads_after number heads row) rows) ≡ []
others_free number heads row rows e = second_nil (faults_of (line_of number heads row)) (flat_map faults_of (lines_from (number + 1) (heads_after number heads row) rows)) e

-- columns that were met are those of the end
kept_all : (number : ℕ) (heads : HeadsView) (rows : List Row) → flat_map faults_of (lines_from number heads rows) ≡ [] → is_some heads.columns ≡ true → (heads_from number heads rows).columns ≡ heads.columns
kept_all number heads [] e s = refl
kept_all number heads (row ∷ rows) e s =
    let one = kept_one number heads row (first_free number heads row rows e).0 s in
    kept_all (number + 1) (heads_after number heads row) rows (others_free number heads row rows e) (ap is_some one ∙ s) ∙ one

-- a data record has a value for each column before it
length_attributes : (columns : ℕ) (row : Row) → length (attributes_of columns row) ≡ columns
unfolding attributes_of
length_attributes columns row = length-map-range_with_len (λ i. field row (4 + i)) 0 columns

abbrev IsWide : ℕ → RecordView → Type 0
IsWide n r = length r.attributes ≡ n

wide_with : (number columns : ℕ) (row : Row) (t0 t1 : Option ℤ) (positions : Option (List Position)) → All (IsWide columns) (option_to_list (record_with number columns row t0 t1 positions))
wide_with number columns row (Some t0) (Some t1) (Some positions) = All-push (IsWide columns) [] _ (All-nil (IsWide columns)) (length_attributes columns row)
wide_with number columns row (Some t0) (Some t1) None = All-nil (IsWide columns)
wide_with number columns row (Some t0) None positions = All-nil (IsWide columns)
wide_with number columns row None t1 positions = All-nil (IsWide columns)

wide_data : (number : ℕ) (dimension : Option Dimension) (clock : Option Clock) (columns : ℕ) (row : Row) → All (IsWide columns) (option_to_list (record_of number dimension clock columns row))
unfolding record_of
wide_data number dimension clock columns row = wide_with number columns row _ _ _

wide_by : (kind : RowKind) (line : Line) → All (IsWide (columns_before line.heads)) (option_to_list (record_by kind line))
wide_by Data line = wide_data line.number (dimension_before line.heads) (clock_before line.heads) (columns_before line.heads) line.row
wide_by Skipped line = All-nil (IsWide (columns_before line.heads))
wide_by Bounds line = All-nil (IsWide (columns_before line.heads))
wide_by Columns line = All-nil (IsWide (columns_before line.heads))
wide_by Other line = All-nil (IsWide (columns_before line.heads))

-- it stands behind both header lines
headed_by : (kind : RowKind) (heads : HeadsView) → (is_data kind && not (has_heads heads)) ≡ false → (is_some heads.columns ≡ true) ⊎ (is_data kind ≡ false)
headed_by Skipped heads e = inr refl
headed_by Bounds heads e = inr refl
headed_by Columns heads e = inr refl
headed_by Other heads e = inr refl
headed_by Data heads e = inl (by (is_some heads.bounds) (is_some heads.columns) e)
  where
    by : (a b : Bool) → not (a && b) ≡ false → b ≡ true
    by true true e = refl
    by true false e = cc
    by false b e = cc

headed : (heads : HeadsView) (row : Row) → has_fault heads row F8 ≡ false → (is_some heads.columns ≡ true) ⊎ (is_data (kind_of row) ≡ false)
unfolding has_fault
headed heads row e = headed_by (kind_of row) heads e

no_data : (kind : RowKind) (line : Line) (n : ℕ) → is_data kind ≡ false → All (IsWide n) (option_to_list (record_by kind line))
no_data Data line n e = absurd (cc)
no_data Skipped line n e = All-nil (IsWide n)
no_data Bounds line n e = All-nil (IsWide n)
no_data Columns line n e = All-nil (IsWide n)
no_data Other line n e = All-nil (IsWide n)

-- so it has a value for each column of the end
wide_one : (number : ℕ) (heads : HeadsView) (row : Row) (rows : List Row) → flat_map faults_of (lines_from number heads (row ∷ rows)) ≡ []
    → All (IsWide (columns_before (heads_from number heads (row ∷ rows)))) (records_of (line_of number heads row))
wide_one number heads row rows e =
    elim (headed heads row (first_free number heads row rows e).1) [
      | inl s ↦ subst (λ n. All (IsWide n) (records_of (line_of number heads row))) (ap count_in (sym (kept_all number heads (row ∷ rows) e s))) (wide_by (kind_of row) (line_of number heads row))
      | inr d ↦ no_data (kind_of row) (line_of number heads row) _ d
    ]

wide_all : (number : ℕ) (heads : HeadsView) (rows : List Row) → flat_map faults_of (lines_from number heads rows) ≡ []
    → All (IsWide (columns_before (heads_from number heads rows))) (flat_map records_of (lines_from number heads rows))
wide_all number heads [] e = All-nil _
wide_all number heads (row ∷ rows) e =
    All-append (IsWide (columns_before (heads_from number heads (row ∷ rows)))) (records_of (line_of number heads row)) (flat_map records_of (lines_from (number + 1) (heads_after number heads row) rows)) (wide_one number heads row rows e)
    (wide_all (number + 1) (heads_after number heads row) rows (others_free number heads row rows e))

-- the file of these header lines and records
whole_at : (dimension : Option Dimension) (start : Option ℤ) (bounds : BoundsView) (line : ColumnsView) (records : List RecordView) (file : File) → All (IsWide (length line.columns)) records
    → file_at dimension start bounds line records ≡ Ok file → HasWholeRows file
whole_at (Some dimension) (Some start) bounds line records file wide e = subst (λ (r : Result File (Code × ℕ)). IfOk r HasWholeRows) e wide
whole_at (Some dimension) None bounds line records file wide e = absurd (cc)
whole_at None start bounds line records file wide e = absurd (cc)

whole_with : (bounds : Option BoundsView) (columns : Option ColumnsView) (records : List RecordView) (file : File) → All (IsWide (count_in columns)) records → file_with bounds columns records ≡ Ok file → HasWholeRows file
whole_with (Some bounds) (Some line) records file wide e = whole_at bounds.dimension bounds.start bounds line records file wide e
whole_with (Some bounds) None records file wide e = absurd (cc)
whole_with None columns records file wide e = absurd (cc)

first_or_ok : (faults : List (Code × ℕ)) (said : Result File (Code × ℕ)) (file : File) → first_or faults said ≡ Ok file → (faults ≡ []) × (said ≡ Ok file)
first_or_ok [] said file e = (refl, e)
first_or_ok (fault ∷ faults) said file e = absurd (cc)

pub whole_text : (rows : List Row) (file : File) → text_of_rows rows ≡ Ok file → HasWholeRows file
unfolding text_of_rows
whole_text rows file e =
    let heads : HeadsView = heads_from 1 no_heads rows in
    let lines : List Line = lines_from 1 no_heads rows in
    let parts = first_or_ok (flat_map faults_of lines) (file_with heads.bounds heads.columns (flat_map records_of lines)) file e in
    whole_with heads.bounds heads.columns (flat_map records_of lines) file (wide_all 1 no_heads rows parts.0) parts.1
