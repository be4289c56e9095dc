-- What the records that are left say, one record after another.
use Rattle.std.proofs.Common.{[], ◌∷◌, ◌++◌, ◌+◌, ◌≡◌, ◌∙◌, ◌⊎◌, ℕ, ℤ, Bool, List, Option, Some, None, Result, Ok, Err, ap, cond, filter, find, flat_map, inl, inr, map, refl, sym, true, false}
use Rattle.std.proofs.lemmas.List.{append_assoc, append-nil}
use Rattle.mfcsv.specs.Rows.{Row}
use Rattle.mfcsv.specs.Views.{BoundsView, ColumnsView, HeadsView, RecordView}
use Rattle.mfcsv.specs.Header.{heads_after}
use Rattle.mfcsv.specs.FileText.{Line, faults_of, file_at, file_with, first_fault, first_or, has_fault, heads_from, line_of, lines_from, no_heads, records_of, table, text_of_rows}
use Rattle.mfcsv.specs.Left.{text_left, with_all, with_first}
use Rattle.mfcsv.specs.declared.Code.{Code}
use Rattle.mfcsv.specs.declared.Dimension.{Dimension}
use Rattle.mfcsv.specs.declared.File.{File}
use Rattle.mfcsv.specs.declared.Head.{Head}

none_parts : {X : Type 0} (b : Bool) (x : X) (o : Option X) → cond b (Some x) o ≡ None → (b ≡ false) × (o ≡ None)
none_parts true x o e = cc
none_parts false x o e = (refl, e)

some_parts : {X : Type 0} (b : Bool) (y x : X) (o : Option X) → cond b (Some y) o ≡ Some x → ((b ≡ true) × (y ≡ x)) ⊎ ((b ≡ false) × (o ≡ Some x))
some_parts true y x o e = inl (refl, cc)
some_parts false y x o e = inr (refl, e)

-- the first that passes, and all that pass
filter_none : {X : Type 0} (p : X → Bool) (xs : List X) → find p xs ≡ None → filter p xs ≡ []
filter_none p [] e = refl
filter_none p (x ∷ xs) e = let q = none_parts (p x) x (find p xs) e in ap (λ b. cond b (x ∷ filter p xs) (filter p xs)) q.0 ∙ filter_none p xs q.1

filter_some : {X : Type 0} (p : X → Bool) (xs : List X) (x : X) → find p xs ≡ Some x → (rest : List X) × (filter p xs ≡ x ∷ rest)
filter_some p [] x e = cc
filter_some p (y ∷ ys) x e =
    elim (some_parts (p y) y x (find p ys) e) [
      | inl q ↦ (filter p ys, ap (λ b. cond b (y ∷ filter p ys) (filter p ys)) q.0 ∙ ap (λ z. z ∷ filter p ys) q.1)
      | inr q ↦ let r = filter_some p ys x q.1 in (r.0, ap (λ b. cond b (y ∷ filter p ys) (filter p ys)) q.0 ∙ r.1)
    ]

no_faults : (number : ℕ) (heads : HeadsView) (row : Row) → first_fault heads row ≡ None → faults_of (line_of number heads row) ≡ []
unfolding first_fault
no_faults number heads row e = ap (map (λ code. (code, number))) (filter_none (has_fault heads row) table e)

some_fault : (number : ℕ) (heads : HeadsView) (row : Row) (code : Code) → first_fault heads row ≡ Some code → (rest : List (Code × ℕ)) × (faults_of (line_of number heads row) ≡ (code, number) ∷ rest)
unfolding first_fault
some_fault number heads row code e =
    let f = filter_some (has_fault heads row) table code e in
    (map (λ c. (c, number)) f.0, ap (map (λ c. (c, number))) f.1)

-- all of them, from the first on
pub left_whole : (rows : List Row) → text_left 1 no_heads rows ≡ text_of_rows rows
unfolding text_left text_of_rows
left_whole rows = refl

-- with no record left
pub left_end : (number : ℕ) (heads : HeadsView) → text_left number heads [] ≡ file_with heads.bounds heads.columns []
unfolding text_left
left_end number heads = refl

-- at a fault
pub left_fault : (number : ℕ) (heads : HeadsView) (row : Row) (rest : List Row) (code : Code) → first_fault heads row ≡ Some code → text_left number heads (row ∷ rest) ≡ Err (code, number)
unfolding text_left
left_fault number heads row rest code found =
    let some = some_fault number heads row code found in
    let more : List Line = lines_from (number + 1) (heads_after number heads row) rest in
    let last : HeadsView = heads_from (number + 1) (heads_after number heads row) rest in
    let file : Result File (Code × ℕ) = file_with last.bounds last.columns (records_of (line_of number heads row) ++ flat_map records_of more) in
    ap (λ (faults : List (Code × ℕ)). first_or (faults ++ flat_map faults_of more) file) some.1

-- at a record without a fault
left_step : (number : ℕ) (heads : HeadsView) (row : Row) (rest : List Row) (records : List RecordView) → first_fault heads row ≡ None → records_of (line_of number heads row) ≡ records
    → text_left number heads (row ∷ rest)
    ≡ first_or (flat_map faults_of (lines_from (number + 1) (heads_after number heads row) rest))
    (file_with (heads_from (number + 1) (heads_after number heads row) rest).bounds (heads_from (number + 1) (heads_after number heads row) rest).columns
    (records ++ flat_map records_of (lines_from (number + 1) (heads_after number heads row) rest)))
unfolding text_left
left_step number heads row rest records fine found =
    let more : List Line = lines_from (number + 1) (heads_after number heads row) rest in
    let last : HeadsView = heads_from (number + 1) (heads_after number heads row) rest in
    ap (λ (faults : List (Code × ℕ)). first_or (faults ++ flat_map faults_of more) (file_with last.bounds last.columns (records_of (line_of number heads row) ++ flat_map records_of more))) (no_faults number heads row fine)
    ∙ ap (λ (rs : List RecordView). first_or (flat_map faults_of more) (file_with last.bounds last.columns (rs ++ flat_map records_of more))) found

-- a record in front of a file
at_first : (dimension : Option Dimension) (start : Option ℤ) (bounds : BoundsView) (line : ColumnsView) (r : RecordView) (records : List RecordView) → file_at dimension start bounds line (r ∷ records) ≡ with_first r (file_at dimension start bounds line records)
at_first (Some dimension) (Some start) bounds line r records = refl
at_first (Some dimension) None bounds line r records = refl
at_first None start bounds line r records = refl

file_first : (bounds : Option BoundsView) (columns : Option ColumnsView) (r : RecordView) (records : List RecordView) → file_with bounds columns (r ∷ records) ≡ with_first r (file_with bounds columns records)
file_first (Some bounds) (Some line) r records = at_first bounds.dimension bounds.start bounds line r records
file_first (Some bounds) None r records = refl
file_first None columns r records = refl

or_first : (faults : List (Code × ℕ)) (bounds : Option BoundsView) (columns : Option ColumnsView) (r : RecordView) (records : List RecordView) → first_or faults (file_with bounds columns (r ∷ records)) ≡ with_first r (first_or faults (file_with bounds columns records))
or_first [] bounds columns r records = file_first bounds columns r records
or_first (fault ∷ faults) bounds columns r records = refl

-- a header line, or a record that is skipped
pub left_skip : (number : ℕ) (heads : HeadsView) (row : Row) (rest : List Row) → first_fault heads row ≡ None → records_of (line_of number heads row) ≡ [] → text_left number heads (row ∷ rest) ≡ text_left (number + 1) (heads_after number heads row) rest
unfolding text_left
left_skip number heads row rest fine none = left_step number heads row rest [] fine none

-- a data record
pub left_record : (number : ℕ) (heads : HeadsView) (row : Row) (rest : List Row) (r : RecordView) → first_fault heads row ≡ None → records_of (line_of number heads row) ≡ r ∷ [] → text_left number heads (row ∷ rest) ≡ with_first r (text_left (number + 1) (heads_after number heads row) rest)
unfolding text_left
left_record number heads row rest r fine found =
    let more : List Line = lines_from (number + 1) (heads_after number heads row) rest in
    let last : HeadsView = heads_from (number + 1) (heads_after number heads row) rest in
    left_step number heads row rest (r ∷ []) fine found ∙ or_first (flat_map faults_of more) last.bounds last.columns r (flat_map records_of more)

-- records in front
pub all_none : (text : Result File (Code × ℕ)) → with_all [] text ≡ text
all_none (Ok file) = refl
all_none (Err fault) = refl

pub all_more : (records : List RecordView) (r : RecordView) (text : Result File (Code × ℕ)) → with_all records (with_first r text) ≡ with_all (records ++ r ∷ []) text
all_more records r (Ok file) = ap (λ (rs : List RecordView). Ok (record file { records = rs })) (sym (append_assoc records (r ∷ []) file.records))
all_more records r (Err fault) = refl

pub all_head : (records : List RecordView) (head : Head) (text : Result File (Code × ℕ)) → text ≡ Ok (record { head = head; records = [] }) → with_all records text ≡ Ok (record { head = head; records = records })
all_head records head text e = ap (with_all records) e ∙ ap (λ (rs : List RecordView). Ok (record { head = head; records = rs })) (append-nil records)
