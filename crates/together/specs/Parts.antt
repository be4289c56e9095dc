-- A part of a book and of a file, by a function that gives each name the number of its part.
use Rattle.std.specs.Prelude.{ℕ, ◌+◌, ◌≡◌, ◌≢◌, ◌≤◌, ◌<◌, ◌==◌, ◌++◌, ◌∷◌, [], Bool, if◌then◌else◌, List, filter, length, All, AllPairs}
use Rattle.mfcsv.specs.Views.{RecordView}
use Rattle.mfcsv.specs.declared.File.{File}
use Rattle.legs.specs.Book.{Book, with_record, with_records, is_before, name_end}
use Rattle.legs.specs.Law.{IsThere}
use Rattle.legs.specs.Limits.{LimitsView}
use Rattle.legs.specs.declared.joining.JoinCode.{JoinCode}
use Rattle.legs.specs.declared.joining.JoinCode.TheVariants.{F18}
use Rattle.writer.specs.Entries.{NamedLegView}
use Rattle.together.specs.Told.{all_told}

-- a name of part k
abbrev pub is_in : (List ℕ → ℕ) → ℕ → List ℕ → Bool
is_in f k name = f name == k

-- the names of part k, in their order
abbrev pub own_names : (List ℕ → ℕ) → ℕ → List (List ℕ) → List (List ℕ)
own_names f k names = filter (is_in f k) names

-- the told legs of part k, in their order
abbrev pub own_legs : (List ℕ → ℕ) → ℕ → List NamedLegView → List NamedLegView
own_legs f k entries = filter (λ e. is_in f k e.name) entries

-- the records of part k, in their order
abbrev pub own_records : (List ℕ → ℕ) → ℕ → List RecordView → List RecordView
own_records f k records = filter (λ r. is_in f k r.mfidref) records

-- the book is part k of the whole: it has its head, the names of the part, and its legs but for their numbers
pub record IsPartOf (f : List ℕ → ℕ) (k : ℕ) (whole part : Book) : Type 0 where
  pub head : part.head ≡ whole.head
  pub names : part.names ≡ own_names f k whole.names
  pub legs : all_told part ≡ own_legs f k (all_told whole)

-- what the laws ask of a book: no name twice, and the feature and the row of each leg are there; each lawful book is
-- so
pub record IsTold (book : Book) : Type 0 where
  pub distinct : AllPairs (λ a b. a ≢ b) book.names
  pub there : All (IsThere book) book.legs

-- the records that begin before their feature's last leg ends, given the records before them: those with fault F18
abbrev pub late_one : Book → RecordView → List RecordView
late_one book r = if is_before r.t0 (name_end book r.mfidref) then r ∷ [] else []

-- such records of a list, each given the ones before it
abbrev pub late : Book → List RecordView → List RecordView
late book [] = []
late book (r ∷ records) = late_one book r ++ late (with_record book r) records

-- the file with the records of part k alone, under their numbers
abbrev pub file_part : (List ℕ → ℕ) → ℕ → File → File
file_part f k file = record file { records = own_records f k file.records }

-- fault F18 of a record
abbrev pub late_fault : RecordView → JoinCode × ℕ
late_fault r = (F18, r.number)

-- the book with these records is within the limits
pub record Fits (limits : LimitsView) (book : Book) (records : List RecordView) : Type 0 where
  pub legs : length (with_records book records).legs ≤ limits.legs
  pub features : length (with_records book records).names ≤ limits.features

-- books, each part k of the whole
pub record ArePartsOf (f : List ℕ → ℕ) (n : ℕ) (whole : Book) (parts : ℕ → Book) : Type 0 where
  pub some : 0 < n
  pub within : (name : List ℕ) → f name < n
  pub whole_told : IsTold whole
  pub each : (k : ℕ) → k < n → IsPartOf f k whole (parts k)
  pub each_told : (k : ℕ) → k < n → IsTold (parts k)

-- the parts are within limits of their own with their records
abbrev pub FitEach : (List ℕ → ℕ) → ℕ → (ℕ → LimitsView) → (ℕ → Book) → List RecordView → Type 0
FitEach f n own_limits parts records =
    (k : ℕ) → k < n → Fits (own_limits k) (parts k) (own_records f k records)

-- the records have rising numbers, from m on
abbrev pub Rises : ℕ → List RecordView → Type 0
Rises m [] = Unit {0}
Rises m (r ∷ records) = (m ≤ r.number) × Rises (r.number + 1) records
