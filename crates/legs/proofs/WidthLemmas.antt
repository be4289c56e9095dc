-- Each row of a book with a file more has a value for each column.
use Rattle.std.proofs.Common.{ℕ, ◌≡◌, ◌∙◌, ap, sym, refl, List, [], ◌∷◌, length, true, false, cond, eqb, arith, Option, Some, None, Ok, subst, Bool, ◌&&◌, zip}
use Rattle.std.specs.Prelude.{All}
use Rattle.std.specs.List.{list_all}
use Rattle.std.proofs.lemmas.Bool.Decides.{nat_tests}
use Rattle.std.proofs.lemmas.List.Elements.{All-push, All-head, All-tail, All-nil}
use Rattle.mfcsv.specs.declared.Column.{Column}
use Rattle.mfcsv.specs.declared.File.{File}
use Rattle.mfcsv.specs.declared.Head.{Head}
use Rattle.mfcsv.specs.FileText.{HasWholeRows}
use Rattle.mfcsv.specs.Views.{RecordView}
use Rattle.legs.specs.declared.head.BookHead.{BookHead}
use Rattle.legs.specs.Legs.{LegView}
use Rattle.legs.specs.Limits.{LimitsView}
use Rattle.legs.specs.Book.{Book, with_record, with_records, with_file, head_with, head_faults, kept_head, record_faults, records_legs, joined, file_faults, same_column, same_columns, same_space}
use Rattle.legs.specs.Law.{IsBook}
use Rattle.legs.specs.declared.joining.JoinCode.{JoinCode}
use Rattle.legs.specs.declared.joining.JoinCode.TheVariants.{F9, F10}
use Rattle.legs.proofs.AcceptLemmas.{first_nil, second_nil, first_or_ok}
use Rattle.legs.proofs.RecordLemmas.{with_record-rows}

abbrev pub IsRow : ℕ → List (List ℕ) → Type 0
IsRow n row = length row ≡ n

abbrev pub IsWide : ℕ → RecordView → Type 0
IsWide n r = length r.attributes ≡ n

-- the rows of records go behind those of the book
rows_all : (n : ℕ) (records : List RecordView) (b : Book) → All (IsWide n) records → All (IsRow n) b.rows → All (IsRow n) (with_records b records).rows
rows_all n [] b wide rows = rows
rows_all n (r ∷ records) b wide rows =
    rows_all n records (with_record b r) (All-tail (IsWide n) r records wide)
    (subst (λ (rs : List (List (List ℕ))). All (IsRow n) rs) (sym (with_record-rows b r)) (All-push (IsRow n) b.rows r.attributes rows (All-head (IsWide n) r records wide)))

same_length : (first second : List Column) → same_columns first second ≡ true → length first ≡ length second
same_length first second e = by (eqb (length first) (length second)) (list_all (λ (p : Column × Column). same_column p.0 p.1) (zip first second)) refl e
  where
    by : (a b : Bool) → eqb (length first) (length second) ≡ a → (a && b) ≡ true → length first ≡ length second
    by true b h e = grind (arith, nat_tests)
    by false b h e = cc

-- no fault of the columns
no_fault : (b : Bool) (fault : JoinCode × ℕ) → cond b [] (fault ∷ []) ≡ [] → b ≡ true
no_fault true fault e = refl
no_fault false fault e = cc

-- the head of the book with the file has as many columns as the file
head_wide : (first : Option BookHead) (head : Head) (h : BookHead) → head_faults first head ≡ [] → head_with first head ≡ Some h → length head.columns ≡ length h.columns
head_wide None head h none e = let kept : kept_head head ≡ h = cc in ap (λ (x : BookHead). length x.columns) kept
head_wide (Some first) head h none e =
    let same : first ≡ h = cc in
    let columns = no_fault (same_columns first.columns head.columns) (F10, head.number_columns)
    (second_nil (cond (same_space first head) [] ((F9, head.number_bounds) ∷ [])) (cond (same_columns first.columns head.columns) [] ((F10, head.number_columns) ∷ [])) none) in
    sym (same_length first.columns head.columns columns) ∙ ap (λ (x : BookHead). length x.columns) same

-- the rows so far fit the head of the file
rows_fit : (limits : LimitsView) (book : Book) (file : File) (first : Option BookHead) → book.head ≡ first → IsBook limits book → head_faults first file.head ≡ [] → All (IsRow (length file.head.columns)) book.rows
rows_fit limits book file None at law none = subst (λ (b : Book). All (IsRow (length file.head.columns)) b.rows) (sym (law.none at)) (All-nil (IsRow (length file.head.columns)))
rows_fit limits book file (Some first) at law none =
    subst (λ n. All (IsRow n) book.rows) (sym (head_wide (Some first) file.head first none refl)) (law.rows first at)

-- a file that was joined has no fault of its head
head_joined : (limits : LimitsView) (b : Book) (file : File) (legs : List LegView) → joined limits b file ≡ Ok legs → head_faults b.head file.head ≡ []
head_joined limits b file legs e = first_nil (head_faults b.head file.head) (record_faults limits b file.records) (first_or_ok (file_faults limits b file) (records_legs b file.records) legs e).0

pub rows_with_file : (limits : LimitsView) (book : Book) (file : File) (legs : List LegView) → IsBook limits book → HasWholeRows file → joined limits book file ≡ Ok legs
    → (head : BookHead) → (with_file book file).head ≡ Some head → All (λ row. length row ≡ length head.columns) (with_file book file).rows
rows_with_file limits book file legs law whole ok head at =
    let none = head_joined limits book file legs ok in
    subst (λ n. All (IsRow n) (with_records book file.records).rows) (head_wide book.head file.head head none at)
    (rows_all (length file.head.columns) file.records book whole (rows_fit limits book file book.head refl law none))
