-- What a command answers over a book, and what it makes of it. No index occurs here.
use Rattle.std.specs.Prelude.{ℕ, ◌≡◌, ◌+◌, ◌∷◌, [], ◌++◌, List, length, map, slice_index_or, Option, Some, None, Result, Ok, Err, pos, codes, decimal}
use Rattle.std.specs.List.{range_with_len}
use Rattle.timebase.specs.Period.{PeriodView}
use Rattle.mfcsv.specs.FileText.{file_of_bytes}
use Rattle.mfcsv.specs.declared.Code.{Code}
use Rattle.mfcsv.specs.declared.File.{File}
use Rattle.mfcsv.specs.declared.Dimension.TheVariants.{Two}
use Rattle.legs.specs.declared.head.BookHead.{BookHead}
use Rattle.legs.specs.Legs.{LegView}
use Rattle.legs.specs.Boxes.{RectView, box_over}
use Rattle.legs.specs.Index.{legs_in_box, legs_of}
use Rattle.legs.specs.Limits.{LimitsView}
use Rattle.legs.specs.Book.{Book, joined, book_after, feature_named}
use Rattle.legs.specs.Counting.{names_after}
use Rattle.legs.specs.declared.joining.JoinCode.{JoinCode}
use Rattle.querylang.specs.Line.{line_command}
use Rattle.querylang.specs.CodeText.{line_code_text}
use Rattle.querylang.specs.declared.LineCode.{LineCode}
use Rattle.querylang.specs.declared.Command.{Command}
use Rattle.querylang.specs.declared.Command.TheVariants.{Load, Count, Box, Legs, Features, Trajectory, Write}
use Rattle.predicates.specs.declared.Predicate.{Predicate}
use Rattle.predicates.specs.Predicates.{Holds}
use Rattle.writer.specs.Entries.{NamedLegView}
use Rattle.writer.specs.File.{entries_text, features_text, file_text as written_text, frame_of as head_frame}
use Rattle.writer.specs.declared.entry.Frame.{Frame}
use Rattle.trajdb.specs.Picks.{Picks}
use Rattle.trajdb.specs.Script.{file_named}
use Rattle.trajdb.specs.Faults.{file_code}
use Rattle.trajdb.specs.declared.Counts.{Counts}
use Rattle.trajdb.specs.declared.FileCode.{FileCode}
use Rattle.trajdb.specs.declared.FileCode.TheVariants.{Text, Join}

-- how many data records, legs and distinct features a file has
abbrev pub counts_of : File → List LegView → Counts
counts_of file legs =
    record {
      records = length file.records;
      legs = length legs;
      features = length (names_after [] file.records);
    }

-- the counts of a file that was joined, or the fault of joining it
abbrev pub counts_or : File → Result (List LegView) (JoinCode × ℕ) → Result Counts (FileCode × ℕ)
counts_or file (Ok legs) = Ok (counts_of file legs)
counts_or file (Err fault) = Err (Join fault.0, fault.1)

-- the counts of a file that joins a book, or its first fault: of its text, else of joining it
abbrev pub joined_counts : LimitsView → Book → Result File (Code × ℕ) → Result Counts (FileCode × ℕ)
joined_counts limits book (Ok file) = counts_or file (joined limits book file)
joined_counts limits book (Err fault) = Err (Text fault.0, fault.1)

-- the counts of a file that is accepted into a book, or its first fault: of its text, else of its joining
unfoldable pub load_of : LimitsView → Book → List ℕ → Result Counts (FileCode × ℕ)
load_of limits book bytes = joined_counts limits book (file_of_bytes bytes)

-- the book after a file that was read; as it was where the text has a fault
abbrev pub book_by : LimitsView → Book → Result File (Code × ℕ) → Book
book_by limits book (Ok file) = book_after limits book file
book_by limits book (Err fault) = book

-- the book after a file: with its legs, or as it was where the file is refused
unfoldable pub book_with : LimitsView → Book → List ℕ → Book
book_with limits book bytes = book_by limits book (file_of_bytes bytes)

-- `ok N` and a line end
abbrev pub ok_text : ℕ → List ℕ
ok_text n = codes "ok " ++ decimal n ++ 10 ∷ []

-- `refused CODE` and a line end
abbrev pub refusal_text : List ℕ → List ℕ
refusal_text code = codes "refused " ++ code ++ 10 ∷ []

-- `ok 1`, and on a line the counts of records, legs and features
abbrev pub counts_text : Counts → List ℕ
counts_text counts =
    ok_text 1 ++ decimal counts.records ++ 44 ∷ [] ++ decimal counts.legs ++ 44 ∷ []
    ++ decimal counts.features ++ 10 ∷ []

-- the answer to `load`
abbrev pub load_text : Result Counts (FileCode × ℕ) → List ℕ
load_text (Ok counts) = counts_text counts
load_text (Err fault) =
    codes "refused " ++ file_code fault.0 ++ codes " at " ++ decimal fault.1 ++ 10 ∷ []

-- the text is an answer to `load`: counts, or a refusal
abbrev pub IsCountsText : List ℕ → Type 0
IsCountsText text = (counts : Counts) × (text ≡ counts_text counts)

-- the text is the refusal of a file
abbrev pub IsFileRefusal : List ℕ → Type 0
IsFileRefusal text = (fault : FileCode × ℕ) × (text ≡ load_text (Err fault))

-- the answer to `count`, by how many legs and features there are
abbrev pub count_text : ℕ → ℕ → List ℕ
count_text legs features = ok_text 1 ++ decimal legs ++ 44 ∷ [] ++ decimal features ++ 10 ∷ []

-- how legs are written: with the dimension of the first accepted file, and with times as offsets from its start
-- instant
abbrev pub book_frame : Option BookHead → Frame
book_frame (Some head) = head_frame head
book_frame None = record { dimension = Two; base = pos 0 }

-- the name of a feature
abbrev pub feature_name : Book → ℕ → List ℕ
feature_name book feature = slice_index_or book.names feature []

-- a leg with its name and attribute values
abbrev pub named_leg_of : Book → LegView → NamedLegView
named_leg_of book leg =
    record {
      name = feature_name book leg.feature;
      leg = leg;
      values = slice_index_or book.rows leg.row [];
    }

-- the answer of legs: a record for each
abbrev pub legs_text : Book → List LegView → List ℕ
legs_text book legs =
    ok_text (length legs) ++ entries_text (book_frame book.head) (map (named_leg_of book) legs)

-- the legs of a feature, if there is one
abbrev pub track_of : Option ℕ → List LegView → List LegView
track_of (Some feature) legs = legs_of feature legs
track_of None legs = []

-- the answer to `load` of a file; Q9 where no file has that name
abbrev pub named_text : LimitsView → Book → Option (List ℕ) → List ℕ
named_text limits book (Some bytes) = load_text (load_of limits book bytes)
named_text limits book None = refusal_text (codes "Q9")

-- the book after a `load`: with the file, if one has that name
abbrev pub named_book : LimitsView → Book → Option (List ℕ) → Book
named_book limits book (Some bytes) = book_with limits book bytes
named_book limits book None = book

-- the file is there, and is accepted into a book
abbrev pub AcceptsNamed : LimitsView → Book → Option (List ℕ) → Type 0
AcceptsNamed limits book (Some bytes) = (counts : Counts) × (load_of limits book bytes ≡ Ok counts)
AcceptsNamed limits book None = ⊥

-- the predicate holds of a leg taken alone
abbrev pub HoldsOfLeg : Predicate → RectView → PeriodView → LegView → Type 0
HoldsOfLeg predicate rect period leg = Holds predicate (leg ∷ []) rect period

-- the predicate holds of the whole list of legs of a feature
abbrev pub HoldsOfFeature : Predicate → RectView → PeriodView → List LegView → ℕ → Type 0
HoldsOfFeature predicate rect period legs feature =
    Holds predicate (legs_of feature legs) rect period

-- the answer of the legs of which the predicate holds
abbrev pub IsLegsAnswer : Book → Predicate → RectView → PeriodView → List ℕ → Type 0
IsLegsAnswer book predicate rect period text =
    (picked : List LegView) × Picks (HoldsOfLeg predicate rect period) book.legs picked
    × (text ≡ legs_text book picked)

-- the answer of features
abbrev pub names_text : Book → List ℕ → List ℕ
names_text book features =
    ok_text (length features) ++ features_text (map (feature_name book) features)

-- the picked are exactly the features of which the predicate holds, in the order of first acceptance
abbrev pub PicksFeatures : Book → Predicate → RectView → PeriodView → List ℕ → Type 0
PicksFeatures book predicate rect period picked =
    Picks (HoldsOfFeature predicate rect period book.legs)
    (range_with_len 0 (length book.names)) picked

-- the answer of the features of which the predicate holds
abbrev pub IsFeaturesAnswer : Book → Predicate → RectView → PeriodView → List ℕ → Type 0
IsFeaturesAnswer book predicate rect period text =
    (picked : List ℕ) × PicksFeatures book predicate rect period picked
    × (text ≡ names_text book picked)

-- legs as a file: two header lines and a record for each leg
abbrev pub file_answer : Book → BookHead → List LegView → List ℕ
file_answer book head legs =
    ok_text (length legs + 2) ++ written_text head (map (named_leg_of book) legs)

-- the answer to `write`: the book as a file; Q10 where no file was accepted
abbrev pub write_text : Option BookHead → Book → List ℕ
write_text (Some head) book = file_answer book head book.legs
write_text None book = refusal_text (codes "Q10")

-- the text is what a command answers over a book, with the named files at hand
abbrev pub IsAnswer : LimitsView → List (List ℕ × List ℕ) → Book → Command → List ℕ → Type 0
IsAnswer limits files book (Load name) text = text ≡ named_text limits book (file_named files name)
IsAnswer limits files book Count text = text ≡ count_text (length book.legs) (length book.names)
IsAnswer limits files book (Box rect period) text =
    text ≡ legs_text book (legs_in_box (box_over rect period) book.legs)
IsAnswer limits files book (Legs predicate rect period) text =
    IsLegsAnswer book predicate rect period text
IsAnswer limits files book (Features predicate rect period) text =
    IsFeaturesAnswer book predicate rect period text
IsAnswer limits files book (Trajectory name) text =
    text ≡ legs_text book (track_of (feature_named book.names name) book.legs)
IsAnswer limits files book Write text = text ≡ write_text book.head book

-- the book after a command
abbrev pub book_then : LimitsView → List (List ℕ × List ℕ) → Book → Command → Book
book_then limits files book (Load name) = named_book limits book (file_named files name)
book_then limits files book _ = book

-- the command is a `load` of a file that is there and is accepted into the book, be it one without legs
abbrev pub AcceptsBy : LimitsView → List (List ℕ × List ℕ) → Book → Command → Type 0
AcceptsBy limits files book (Load name) = AcceptsNamed limits book (file_named files name)
AcceptsBy limits files book _ = ⊥

-- the text is what a line answers: nothing where it is no command
abbrev pub IsSaid : LimitsView → List (List ℕ × List ℕ) → Book → Result (Option Command) LineCode
    → List ℕ → Type 0
IsSaid limits files book (Ok (Some command)) text = IsAnswer limits files book command text
IsSaid limits files book (Ok None) text = text ≡ []
IsSaid limits files book (Err code) text = text ≡ refusal_text (line_code_text code)

-- the book after a line that was read
abbrev pub said_book : LimitsView → List (List ℕ × List ℕ) → Book → Result (Option Command) LineCode
    → Book
said_book limits files book (Ok (Some command)) = book_then limits files book command
said_book limits files book _ = book

-- a line that was read is the `load` of a file that is there and is accepted
abbrev pub AcceptsSaid : LimitsView → List (List ℕ × List ℕ) → Book
    → Result (Option Command) LineCode → Type 0
AcceptsSaid limits files book (Ok (Some command)) = AcceptsBy limits files book command
AcceptsSaid limits files book _ = ⊥

-- the text is the answer to a line, over a book
unfoldable pub IsLineText : LimitsView → List (List ℕ × List ℕ) → Book → List ℕ → List ℕ → Type 0
IsLineText limits files book line text = IsSaid limits files book (line_command line) text

-- the book after a line
unfoldable pub line_book : LimitsView → List (List ℕ × List ℕ) → Book → List ℕ → Book
line_book limits files book line = said_book limits files book (line_command line)

-- so is the line
unfoldable pub AcceptsLine : LimitsView → List (List ℕ × List ℕ) → Book → List ℕ → Type 0
AcceptsLine limits files book line = AcceptsSaid limits files book (line_command line)
