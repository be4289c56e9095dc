-- How the stores of parts stay the parts of the store of the whole, file by file.
use Rattle.std.specs.Prelude.{ℕ, ◌≡◌, ◌<◌, ◌⊎◌, List, [], ◌∷◌, fold, Ok, Err, IfErr, IfOk}
use Rattle.mfcsv.specs.FileText.{file_of_bytes}
use Rattle.mfcsv.specs.declared.Code.{Code}
use Rattle.mfcsv.specs.declared.File.{File}
use Rattle.legs.specs.Book.{Book, empty_book}
use Rattle.legs.specs.Limits.{LimitsView}
use Rattle.parts.specs.Names.{part_of}
use Rattle.parts.specs.Faults.{IsBehind}
use Rattle.parts.specs.Part.{said_part, whole_part}
use Rattle.trajdb.specs.Answers.{book_with, load_of}
use Rattle.trajdb.specs.declared.Counts.{Counts}
use Rattle.together.specs.Parts.{ArePartsOf, FitEach, Fits, IsPartOf, IsTold, file_part}

-- the bytes say part k of n of what others say, where those have no fault, as `part` and `parts` of the crate `parts`
-- make them
abbrev pub IsPartText : ℕ → ℕ → List ℕ → List ℕ → Type 0
IsPartText k n bytes own =
    IfOk (file_of_bytes bytes) (λ file. file_of_bytes own ≡ Ok (file_part (part_of n) k file))

-- each file of a list is a part of its fellow
abbrev pub ArePartTexts : ℕ → ℕ → List (List ℕ) → List (List ℕ) → Type 0
ArePartTexts k n [] owns = owns ≡ []
ArePartTexts k n (bytes ∷ files) [] = ⊥
ArePartTexts k n (bytes ∷ files) (own ∷ owns) =
    IsPartText k n bytes own × ArePartTexts k n files owns

-- the book takes the file in
abbrev pub Takes : LimitsView → Book → List ℕ → Type 0
Takes limits book bytes = (counts : Counts) × (load_of limits book bytes ≡ Ok counts)

-- it takes all files in, one after another
abbrev pub TakesAll : LimitsView → Book → List (List ℕ) → Type 0
TakesAll limits book [] = Unit {0}
TakesAll limits book (bytes ∷ files) =
    Takes limits book bytes × TakesAll limits (book_with limits book bytes) files

-- the book after files
abbrev pub book_of : LimitsView → Book → List (List ℕ) → Book
book_of limits book files = fold (book_with limits) book files

-- books that take in the files, and the parts of the files, each within limits of its own, stay a book and its part
abbrev pub LoadLaw : Type 0
LoadLaw =
    (k n : ℕ) (whole part : Book) (limits own_limits : LimitsView) (files owns : List (List ℕ))
    → IsPartOf (part_of n) k whole part → IsTold whole → IsTold part
    → ArePartTexts k n files owns → TakesAll limits whole files → TakesAll own_limits part owns
    → IsPartOf (part_of n) k (book_of limits whole files) (book_of own_limits part owns)
    × IsTold (book_of limits whole files) × IsTold (book_of own_limits part owns)

-- books without files are a book and its part
abbrev pub EmptyLaw : Type 0
EmptyLaw = (k n : ℕ) → IsPartOf (part_of n) k empty_book empty_book × IsTold empty_book

-- a file whose text has a fault is refused alike by the whole and by each book that gets what `part` makes of it
abbrev pub TextLaw : Type 0
TextLaw =
    (k n : ℕ) (limits own_limits : LimitsView) (whole part : Book) (bytes own : List ℕ)
    (fault : Code × ℕ) → file_of_bytes own ≡ said_part k n (file_of_bytes bytes)
    → file_of_bytes bytes ≡ Err fault
    → load_of own_limits part own ≡ load_of limits whole bytes

-- of the books that get what `parts` makes of it, one refuses it as the whole does, and each other fault of a text stands
-- behind that
abbrev pub FirstTextLaw : Type 0
FirstTextLaw =
    (n : ℕ) (limits : LimitsView) (own_limits : ℕ → LimitsView) (whole : Book) (parts : ℕ → Book)
    (bytes : List ℕ) (fault : Code × ℕ) → 0 < n → file_of_bytes bytes ≡ Err fault
    → ((k : ℕ) × (k < n)
    × (load_of (own_limits k) (parts k) (whole_part k n bytes) ≡ load_of limits whole bytes))
    × ((k : ℕ) → IfErr (file_of_bytes (whole_part k n bytes))
    (λ other. (other ≡ fault) ⊎ IsBehind fault.1 other.1))

-- where the limits hold in the end, those of the whole and its own for each part, the whole takes a file in exactly
-- where each part takes in its part
abbrev pub TakesLaw : Type 0
TakesLaw =
    (n : ℕ) (limits : LimitsView) (own_limits : ℕ → LimitsView) (whole : Book) (parts : ℕ → Book)
    (bytes : List ℕ) (own : ℕ → List ℕ) (file : File) → ArePartsOf (part_of n) n whole parts
    → ((k : ℕ) → k < n → IsPartText k n bytes (own k)) → file_of_bytes bytes ≡ Ok file
    → Fits limits whole file.records → FitEach (part_of n) n own_limits parts file.records
    → (Takes limits whole bytes → (k : ℕ) → k < n → Takes (own_limits k) (parts k) (own k))
    × (((k : ℕ) → k < n → Takes (own_limits k) (parts k) (own k)) → Takes limits whole bytes)
