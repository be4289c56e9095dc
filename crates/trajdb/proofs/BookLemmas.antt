-- The book with a file more.
use Rattle.std.proofs.Common.{ℕ, ◌≡◌, ◌∙◌, ◌++◌, ◌∷◌, [], List, map, ap, sym, refl, Ok, Option}
use Rattle.std.proofs.lemmas.List.{append_assoc, append-nil}
use Rattle.mfcsv.specs.Views.{RecordView}
use Rattle.mfcsv.specs.declared.File.{File}
use Rattle.legs.specs.declared.head.BookHead.{BookHead}
use Rattle.legs.specs.Legs.{LegView}
use Rattle.legs.specs.Limits.{LimitsView}
use Rattle.legs.specs.Book.{Book, with_record, with_records, record_legs, records_legs, with_file, joined, legs_or_fault, file_faults, head_with}
use Rattle.legs.specs.declared.joining.JoinCode.{JoinCode}

with_record-legs : (book : Book) (r : RecordView) → (with_record book r).legs ≡ book.legs ++ record_legs book r
unfolding with_record
with_record-legs book r = refl

with_record-rows : (book : Book) (r : RecordView) → (with_record book r).rows ≡ book.rows ++ r.attributes ∷ []
unfolding with_record
with_record-rows book r = refl

pub with_records-legs : (book : Book) (records : List RecordView) → (with_records book records).legs ≡ book.legs ++ records_legs book records
with_records-legs book [] = sym (append-nil book.legs)
with_records-legs book (r ∷ records) =
    with_records-legs (with_record book r) records ∙ ap (λ legs. legs ++ records_legs (with_record book r) records) (with_record-legs book r)
    ∙ append_assoc book.legs (record_legs book r) (records_legs (with_record book r) records)

pub with_records-rows : (book : Book) (records : List RecordView) → (with_records book records).rows ≡ book.rows ++ map (λ (r : RecordView). r.attributes) records
with_records-rows book [] = sym (append-nil book.rows)
with_records-rows book (r ∷ records) =
    with_records-rows (with_record book r) records ∙ ap (λ rows. rows ++ map (λ (r : RecordView). r.attributes) records) (with_record-rows book r)
    ∙ append_assoc book.rows (r.attributes ∷ []) (map (λ (r : RecordView). r.attributes) records)

-- a book of these parts
abbrev pub book_with_parts : Option BookHead → List (List ℕ) → List LegView → List (List (List ℕ)) → Book
book_with_parts head names legs rows = record { head = head; names = names; legs = legs; rows = rows }

first_or-ok : (faults : List (JoinCode × ℕ)) (legs found : List LegView) → legs_or_fault faults legs ≡ Ok found → legs ≡ found
first_or-ok [] legs found e = cc
first_or-ok (f ∷ faults) legs found e = absurd (cc)

pub joined-legs : (limits : LimitsView) (book : Book) (file : File) (legs : List LegView) → joined limits book file ≡ Ok legs → records_legs book file.records ≡ legs
joined-legs limits book file legs e = first_or-ok (file_faults limits book file) (records_legs book file.records) legs e

-- what was put together is the book with the file
pub with_file-parts : (limits : LimitsView) (book : Book) (file : File) (legs content : List LegView) (head : Option BookHead) (names : List (List ℕ)) (rows : List (List (List ℕ)))
    → joined limits book file ≡ Ok legs → head ≡ head_with book.head file.head → names ≡ (with_file book file).names → content ≡ book.legs ++ legs → rows ≡ book.rows ++ map (λ (r : RecordView). r.attributes) file.records
    → book_with_parts head names content rows ≡ with_file book file
with_file-parts limits book file legs content head names rows e h n l r =
    let all : content ≡ (with_records book file.records).legs = l ∙ ap (λ x. book.legs ++ x) (sym (joined-legs limits book file legs e)) ∙ sym (with_records-legs book file.records) in
    let values : rows ≡ (with_records book file.records).rows = r ∙ sym (with_records-rows book file.records) in
    rw (h, n, all, values) refl
