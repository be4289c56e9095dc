-- The book, and how a file is accepted into it.
use Rattle.std.specs.Prelude.{ℕ, ◌≡◌, ◌==◌, zip, ◌+◌, nat_lt, ◌&&◌, Bool, true, false, if◌then◌else◌, List, [], ◌∷◌, ◌++◌, length, map, filter, fold, position, Option, Some, None, Result, Ok, Err, ℤ, int_lt, bytes_eq}
use Rattle.std.specs.Option.{option_and_then}
use Rattle.std.specs.List.{range_with_len, position_or_len, list_any, list_all}
use Rattle.mfcsv.specs.declared.Column.{Column}
use Rattle.mfcsv.specs.declared.Dimension.{Dimension}
use Rattle.mfcsv.specs.declared.Dimension.TheVariants.{Two, Three}
use Rattle.mfcsv.specs.declared.Head.{Head}
use Rattle.mfcsv.specs.declared.File.{File}
use Rattle.mfcsv.specs.Views.{RecordView, leg_count}
use Rattle.legs.specs.declared.head.BookHead.{BookHead}
use Rattle.legs.specs.Legs.{LegView, leg_of, step_at}
use Rattle.legs.specs.Index.{last_end}
use Rattle.legs.specs.Limits.{LimitsView}
use Rattle.legs.specs.declared.joining.JoinCode.{JoinCode}
use Rattle.legs.specs.declared.joining.JoinCode.TheVariants.{F9, F10, F18, F19, F20}
use Rattle.legs.specs.declared.joining.JoinFault.{JoinFault}
use Rattle.legs.specs.declared.joining.JoinFault.TheVariants.{Refused, Memory}

-- The book: what it keeps of the head of the first accepted file, the names of the features in order of first acceptance, all
-- legs in accepted order, and the attribute values of each record.
pub record Book : Type 0 where
  pub head : Option BookHead
  pub names : List (List ℕ)
  pub legs : List LegView
  pub rows : List (List (List ℕ))

-- no file was accepted yet
abbrev pub empty_book : Book
empty_book = record { head = None; names = []; legs = []; rows = [] }

-- the number of a name, if it is there
abbrev pub feature_named : List (List ℕ) → List ℕ → Option ℕ
feature_named names name = position (bytes_eq name) names

-- the number of a name; a new one gets the next
abbrev pub feature_number : List (List ℕ) → List ℕ → ℕ
feature_number names name = position_or_len (bytes_eq name) names

-- the names, with that one
abbrev pub names_with : List (List ℕ) → List ℕ → List (List ℕ)
names_with names name = if list_any (bytes_eq name) names then names else names ++ name ∷ []

-- leg k of a record, in a book
abbrev pub leg_added : Book → RecordView → ℕ → LegView
leg_added book r k =
    leg_of (length book.legs + k) (feature_number book.names r.mfidref) (length book.rows) (step_at r k)

-- the legs of a record, in a book
abbrev pub record_legs : Book → RecordView → List LegView
record_legs book r = map (leg_added book r) (range_with_len 0 (leg_count (length r.positions)))

-- the book with a record more
unfoldable pub with_record : Book → RecordView → Book
with_record book r =
    record book {
      names = names_with book.names r.mfidref;
      legs = book.legs ++ record_legs book r;
      rows = book.rows ++ r.attributes ∷ [];
    }

-- the book with records, one after another
abbrev pub with_records : Book → List RecordView → Book
with_records book records = fold with_record book records

-- the legs of records, one after another, in a book
abbrev pub records_legs : Book → List RecordView → List LegView
records_legs book [] = []
records_legs book (r ∷ records) = record_legs book r ++ records_legs (with_record book r) records

-- what a book keeps of a file's head: all but the numbers of its records
abbrev pub kept_head : Head → BookHead
kept_head head =
    record { crs = head.crs; dimension = head.dimension; base = head.start; columns = head.columns }

-- the head of the first accepted file stays
abbrev pub head_with : Option BookHead → Head → Option BookHead
head_with (Some first) head = Some first
head_with None head = Some (kept_head head)

-- the file of that head and those records
abbrev pub file_of : Head → List RecordView → File
file_of head records = record { head = head; records = records }

-- the book with a file more
abbrev pub with_file : Book → File → Book
with_file book file =
    record (with_records book file.records) { head = head_with book.head file.head }

-- when the last leg of a name ends
abbrev pub name_end : Book → List ℕ → Option ℤ
name_end book name =
    option_and_then (λ feature. last_end feature book.legs) (feature_named book.names name)

-- a moment is before an end
abbrev pub is_before : ℤ → Option ℤ → Bool
is_before at (Some end) = int_lt at end
is_before at None = false

-- whether a joining fault holds of a record, given the book with the records before it
abbrev pub has_join_fault : LimitsView → Book → RecordView → JoinCode → Bool
has_join_fault limits book r F18 = is_before r.t0 (name_end book r.mfidref)
has_join_fault limits book r F19 = nat_lt limits.legs (length (with_record book r).legs)
has_join_fault limits book r F20 = nat_lt limits.features (length (with_record book r).names)
has_join_fault limits book r _ = false

-- the joining faults of a record, in the order of the table
unfoldable pub join_faults_of : LimitsView → Book → RecordView → List JoinCode
join_faults_of limits book r = filter (has_join_fault limits book r) (F18 ∷ F19 ∷ F20 ∷ [])

-- all joining faults of records, with their numbers
abbrev pub record_faults : LimitsView → Book → List RecordView → List (JoinCode × ℕ)
record_faults limits book [] = []
record_faults limits book (r ∷ records) =
    map (λ code. (code, r.number)) (join_faults_of limits book r)
    ++ record_faults limits (with_record book r) records

-- two columns have the same name and the same type
abbrev pub same_column : Column → Column → Bool
same_column a b = bytes_eq a.name b.name && bytes_eq a.kind b.kind

-- as many columns, each with the name and the type of its fellow
abbrev pub same_columns : List Column → List Column → Bool
same_columns first second =
    (length first == length second) && list_all (λ p. same_column p.0 p.1) (zip first second)

-- two dimensions are the same
abbrev pub same_dimension : Dimension → Dimension → Bool
same_dimension Two Two = true
same_dimension Three Three = true
same_dimension _ _ = false

-- whether a file's head has the CRS name and the dimension of the book's
abbrev pub same_space : BookHead → Head → Bool
same_space first head = bytes_eq first.crs head.crs && same_dimension first.dimension head.dimension

-- all joining faults of a head, against the head of the first accepted file: another CRS or dimension, other
-- columns
abbrev pub head_faults : Option BookHead → Head → List (JoinCode × ℕ)
head_faults None head = []
head_faults (Some first) head =
    (if same_space first head then [] else (F9, head.number_bounds) ∷ [])
    ++ (if same_columns first.columns head.columns then [] else (F10, head.number_columns) ∷ [])

-- all joining faults of a file: those of its head, then those of its records
abbrev pub file_faults : LimitsView → Book → File → List (JoinCode × ℕ)
file_faults limits book file =
    head_faults book.head file.head ++ record_faults limits book file.records

-- the first fault, if there is one; else the legs
abbrev pub legs_or_fault : List (JoinCode × ℕ) → List LegView → Result (List LegView) (JoinCode × ℕ)
legs_or_fault [] legs = Ok legs
legs_or_fault (fault ∷ faults) legs = Err fault

-- the legs by which a file is joined to a book, or the first joining fault
abbrev pub joined : LimitsView → Book → File → Result (List LegView) (JoinCode × ℕ)
joined limits book file = legs_or_fault (file_faults limits book file) (records_legs book file.records)

-- the book after a file: with its legs, or as it was at a fault
abbrev pub book_after : LimitsView → Book → File → Book
book_after limits book file =
    elim (joined limits book file) [ Ok legs ↦ with_file book file | Err fault ↦ book ]

-- a fault that `join` answers is the first joining fault, unless memory ran out
abbrev pub IsRefusal : JoinFault → Result (List LegView) (JoinCode × ℕ) → Type 0
IsRefusal Memory joined_legs = Unit {0}
IsRefusal (Refused code number) joined_legs = joined_legs ≡ Err (code, number)
