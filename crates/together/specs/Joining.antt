-- How the parts of a book take in the parts of a file.
use Rattle.std.specs.Prelude.{ℕ, ◌≡◌, ◌≤◌, ◌<◌, ◌++◌, ◌∷◌, [], List, map, All, Ok, sum_by}
use Rattle.std.specs.List.{range_with_len}
use Rattle.mfcsv.specs.Views.{IsRecord, RecordView}
use Rattle.mfcsv.specs.FileText.{HasWholeRows, file_of_bytes}
use Rattle.mfcsv.specs.declared.File.{File}
use Rattle.legs.specs.Book.{Book, book_after, file_faults, head_faults, joined, record_faults, with_records}
use Rattle.legs.specs.Law.{IsBook}
use Rattle.legs.specs.Legs.{LegView}
use Rattle.legs.specs.Limits.{IsLimits, LimitsView}
use Rattle.trajdb.specs.Answers.{counts_of}
use Rattle.trajdb.specs.declared.Counts.{Counts}
use Rattle.together.specs.Parts.{FitEach, Fits, IsPartOf, IsTold, Rises, file_part, late, late_fault, own_records}

-- all of a lawful book is told
abbrev pub BookLaw : Type 0
BookLaw = (limits : LimitsView) (book : Book) → IsBook limits book → IsTold book

-- where the limits hold in the end, the faults of records are those that come too early
abbrev pub FaultsLaw : Type 0
FaultsLaw =
    (limits : LimitsView) (book : Book) (records : List RecordView) → Fits limits book records
    → record_faults limits book records ≡ map late_fault (late book records)

-- where a lawful book takes a file in, they hold in the end
abbrev pub FitsLaw : Type 0
FitsLaw =
    (limits : LimitsView) (book : Book) (file : File) (legs : List LegView) → IsLimits limits
    → IsBook limits book → All IsRecord file.records → HasWholeRows file
    → joined limits book file ≡ Ok legs → Fits limits book file.records

-- what part k of a whole takes in of the records of a file
pub record PartTakes (f : List ℕ → ℕ) (k : ℕ) (whole part : Book) : Type 0 where
  -- the records that come too early for the part are those of the whole that are its own
  pub too_early : (records : List RecordView)
      → late part (own_records f k records) ≡ own_records f k (late whole records)
  -- they stay a book and its part, each with its own records
  pub stays : (records : List RecordView)
      → IsPartOf f k (with_records whole records) (with_records part (own_records f k records))
      × IsTold (with_records whole records) × IsTold (with_records part (own_records f k records))
  -- where the whole is within some limits with them, so is the part
  pub part_fits : (limits : LimitsView) (records : List RecordView) → Fits limits whole records
      → Fits limits part (own_records f k records)
  -- within its own limits, the part has the head's faults, and those of its own records
  pub part_faults : (own_limits : LimitsView) (file : File)
      → Fits own_limits part (own_records f k file.records)
      → file_faults own_limits part (file_part f k file)
      ≡ head_faults whole.head file.head ++ map late_fault (own_records f k (late whole file.records))
  -- they stay a book and its part once both took in a file and its part
  pub after : (limits own_limits : LimitsView) (file : File) (a b : List LegView)
      → joined limits whole file ≡ Ok a → joined own_limits part (file_part f k file) ≡ Ok b
      → IsPartOf f k (book_after limits whole file)
      (book_after own_limits part (file_part f k file))

-- counts are the sums of those of n parts
pub record IsSumOf (n : ℕ) (all : Counts) (each : ℕ → Counts) : Type 0 where
  pub records : all.records ≡ sum_by (λ k. (each k).records) (range_with_len 0 n)
  pub legs : all.legs ≡ sum_by (λ k. (each k).legs) (range_with_len 0 n)
  pub features : all.features ≡ sum_by (λ k. (each k).features) (range_with_len 0 n)

-- how the parts of a whole take in the parts of a file
pub record PartsTake (f : List ℕ → ℕ) (n : ℕ) (whole : Book) (parts : ℕ → Book) : Type 0 where
  -- within the limits of the whole, and its own for each part, the whole has no fault exactly if no part has one
  pub accepts : (limits : LimitsView) (own_limits : ℕ → LimitsView) (file : File)
      → Fits limits whole file.records → FitEach f n own_limits parts file.records
      → (file_faults limits whole file ≡ [] → (k : ℕ) → k < n
      → file_faults (own_limits k) (parts k) (file_part f k file) ≡ [])
      × (((k : ℕ) → k < n → file_faults (own_limits k) (parts k) (file_part f k file) ≡ [])
      → file_faults limits whole file ≡ [])
  -- `load`: the counts of a file that the whole takes in, and each part its part, are the sums of the parts'
  pub counted : (limits : LimitsView) (own_limits : ℕ → LimitsView) (file : File)
      (legs : List LegView) (own : ℕ → List LegView) → joined limits whole file ≡ Ok legs
      → ((k : ℕ) → k < n → joined (own_limits k) (parts k) (file_part f k file) ≡ Ok (own k))
      → IsSumOf n (counts_of file legs) (λ k. counts_of (file_part f k file) (own k))

-- the first record that comes too early for the whole is the first that does for its part
abbrev pub FirstLaw : Type 0
FirstLaw =
    (f : List ℕ → ℕ) (r : RecordView) (others : List RecordView)
    → own_records f (f r.mfidref) (r ∷ others) ≡ r ∷ own_records f (f r.mfidref) others

-- it has the least number of the first ones of all parts
abbrev pub LeastLaw : Type 0
LeastLaw =
    (f : List ℕ → ℕ) (k m : ℕ) (whole : Book) (records : List RecordView) (r q : RecordView)
    (others more : List RecordView) → Rises m records
    → late whole records ≡ r ∷ others → own_records f k (late whole records) ≡ q ∷ more
    → r.number ≤ q.number

-- the records of a file have rising numbers, from 1 on
abbrev pub RisesLaw : Type 0
RisesLaw = (bytes : List ℕ) (file : File) → file_of_bytes bytes ≡ Ok file → Rises 1 file.records
