-- A file that is read and joined, record by record.
use Rattle.std.proofs.Common.{[], ◌∷◌, ◌++◌, ◌≡◌, ◌∙◌, ℕ, List, Option, Result, Ok, Err, ap, length, refl, subst, sym}
use Rattle.std.proofs.lemmas.List.{map_push}
use Rattle.mfcsv.specs.FileText.{file_of_bytes}
use Rattle.mfcsv.specs.Rows.{rows_of}
use Rattle.mfcsv.specs.Views.{RecordView}
use Rattle.mfcsv.specs.Left.{with_all, with_first}
use Rattle.mfcsv.specs.Answer.{FaultIs as IsTextFault}
use Rattle.mfcsv.specs.declared.Code.{Code}
use Rattle.mfcsv.specs.declared.File.{File}
use Rattle.mfcsv.specs.declared.FileFault.{FileFault}
use Rattle.mfcsv.specs.declared.FileFault.TheVariants as text
use Rattle.mfcsv.specs.declared.Head.{Head}
use Rattle.mfcsv.proofs.ReadLemmas.{all_fails, all_read, read_so_far}
use Rattle.mfcsv.proofs.WalkLemmas.{all_none}
use Rattle.mfcsv.proofs.WholeLemmas.{whole_text}
use Rattle.legs.specs.Book.{Book, IsRefusal, file_of, joined, with_file}
use Rattle.legs.specs.Joining.{IsJoinedBy, IsJoining, JoinedView, JoiningView}
use Rattle.legs.specs.Legs.{LegView}
use Rattle.legs.specs.Limits.{LimitsView}
use Rattle.legs.specs.Tracks.{StandsFor, TracksView}
use Rattle.legs.specs.declared.head.BookHead.{BookHead}
use Rattle.legs.specs.declared.joining.JoinCode.{JoinCode}
use Rattle.legs.specs.declared.joining.JoinFault.{JoinFault}
use Rattle.legs.specs.declared.joining.JoinFault.TheVariants as join
use Rattle.trajdb.specs.Answers.{book_by, book_with, counts_or, joined_counts, load_of}
use Rattle.legs.specs.Counting.{names_after}
use Rattle.trajdb.specs.Database.{FaultIs, IsRefused}
use Rattle.trajdb.specs.Loads.{Accepts, IsRead, code_fault, counts_in, join_fault, values_of}
use Rattle.trajdb.specs.declared.FileCode.{FileCode}
use Rattle.trajdb.specs.declared.LoadFault.{LoadFault}
use Rattle.trajdb.specs.declared.LoadFault.TheVariants.{Refused, Run}
use Rattle.trajdb.specs.declared.load.NewFile.{NewFile}

-- some records were read and joined, and this is left of the text
pub record IsReading (tracks : TracksView) (limits : LimitsView) (text left : Result File (Code × ℕ)) (joiner : JoiningView) (rows : List (List (List ℕ))) : Type 0 where
  pub records : List RecordView
  pub said : with_all records left ≡ text
  pub joining : (book : Book) → StandsFor tracks book → IsJoining limits joiner book records
  pub values : rows ≡ values_of records

pub reading_starts : (tracks : TracksView) (limits : LimitsView) (text left : Result File (Code × ℕ)) (joiner : JoiningView) (rows : List (List (List ℕ))) → left ≡ text → ((book : Book) → StandsFor tracks book → IsJoining limits joiner book []) → rows ≡ []
    → IsReading tracks limits text left joiner rows
reading_starts tracks limits text left joiner rows e joining none = record { records = []; said = all_none left ∙ e; joining = joining; values = none }

-- one record more
pub reading_more : (tracks : TracksView) (limits : LimitsView) (text left rest : Result File (Code × ℕ)) (joiner joiner' : JoiningView) (rows rows' : List (List (List ℕ))) (r : RecordView) → IsReading tracks limits text left joiner rows → left ≡ with_first r rest
    → ((ls : LimitsView) (book : Book) (records : List RecordView) → IsJoining ls joiner book records → IsJoining ls joiner' book (records ++ r ∷ [])) → rows' ≡ rows ++ r.attributes ∷ [] → IsReading tracks limits text rest joiner' rows'
reading_more tracks limits text left rest joiner joiner' rows rows' r is e joins pushed = record {
  records = is.records ++ r ∷ [];
  said = read_so_far is.records (is.records ++ r ∷ []) r left rest text is.said e refl;
  joining = λ book stands. joins limits book is.records (is.joining book stands);
  values = pushed ∙ ap (λ values. values ++ r.attributes ∷ []) is.values ∙ sym (map_push (λ (x : RecordView). x.attributes) is.records r);
}

-- a fault of the text
code_told : (limits : LimitsView) (book : Book) (fault : FileFault) (text : Result File (Code × ℕ)) → IsTextFault fault text → FaultIs (code_fault fault) (joined_counts limits book text)
code_told limits book text.Memory said f = tt
code_told limits book (text.Refused code number) said f = ap (joined_counts limits book) f

pub reading_fails : (tracks : TracksView) (limits : LimitsView) (bytes : List ℕ) (left : Result File (Code × ℕ)) (joiner : JoiningView) (rows : List (List (List ℕ))) (fault : FileFault) (book : Book) → IsReading tracks limits (file_of_bytes bytes) left joiner rows
    → IsTextFault fault left → FaultIs (code_fault fault) (load_of limits book bytes)
unfolding load_of
reading_fails tracks limits bytes left joiner rows fault book is f = code_told limits book fault (file_of_bytes bytes) (all_fails fault is.records left (file_of_bytes bytes) is.said f)

pub reading_head_fails : (tracks : TracksView) (limits : LimitsView) (bytes : List ℕ) (left over : Result File (Code × ℕ)) (joiner : JoiningView) (rows : List (List (List ℕ))) (fault : FileFault) (book : Book) → IsReading tracks limits (file_of_bytes bytes) left joiner rows
    → over ≡ left → IsTextFault fault over → FaultIs (code_fault fault) (load_of limits book bytes)
reading_head_fails tracks limits bytes left over joiner rows fault book is o f =
    reading_fails tracks limits bytes left joiner rows fault book is (subst (λ (t : Result File (Code × ℕ)). IsTextFault fault t) o f)

-- all records were read: the file
pub reading_ends : (tracks : TracksView) (limits : LimitsView) (bytes : List ℕ) (left over : Result File (Code × ℕ)) (joiner : JoiningView) (rows : List (List (List ℕ))) (head : Head) (is : IsReading tracks limits (file_of_bytes bytes) left joiner rows)
    → over ≡ left → over ≡ Ok (record { head = head; records = [] }) → file_of_bytes bytes ≡ Ok (file_of head is.records)
reading_ends tracks limits bytes left over joiner rows head is o h = all_read is.records is.records head left over (file_of_bytes bytes) is.said o h refl

pub reading_joined : (tracks : TracksView) (limits : LimitsView) (bytes : List ℕ) (left : Result File (Code × ℕ)) (joiner : JoiningView) (rows : List (List (List ℕ))) (first : Option BookHead) (head : Head) (by : JoinedView) (is : IsReading tracks limits (file_of_bytes bytes) left joiner rows)
    → file_of_bytes bytes ≡ Ok (file_of head is.records)
    → ((ls : LimitsView) (book : Book) (records : List RecordView) → IsJoining ls joiner book records → book.head ≡ first → IsJoinedBy ls book (file_of head records) by)
    → IsRead tracks first limits (file_of_bytes bytes) (record { head = head; joined = by; rows = rows })
reading_joined tracks limits bytes left joiner rows first head by is said joined = record {
  file = file_of head is.records;
  said = said;
  accepts = λ book stands same.
      let all = joined limits book is.records (is.joining book stands) same in
      (all, all.follow, whole_text (rows_of bytes) (file_of head is.records) said, refl, is.values);
}

-- a joining fault
join_told : (limits : LimitsView) (book : Book) (file : File) (fault : JoinFault) → IsRefusal fault (joined limits book file) → FaultIs (join_fault fault) (joined_counts limits book (Ok file))
join_told limits book file join.Memory f = tt
join_told limits book file (join.Refused code number) f = ap (counts_or file) f

pub reading_refused : (tracks : TracksView) (limits : LimitsView) (bytes : List ℕ) (left : Result File (Code × ℕ)) (joiner : JoiningView) (rows : List (List (List ℕ))) (head : Head) (book : Book) (fault : JoinFault) (is : IsReading tracks limits (file_of_bytes bytes) left joiner rows)
    → file_of_bytes bytes ≡ Ok (file_of head is.records) → IsRefusal fault (joined limits book (file_of head is.records)) → FaultIs (join_fault fault) (load_of limits book bytes)
unfolding load_of
reading_refused tracks limits bytes left joiner rows head book fault is said f =
    subst (λ (text : Result File (Code × ℕ)). FaultIs (join_fault fault) (joined_counts limits book text)) (sym said) (join_told limits book (file_of head is.records) fault f)

-- what is told of a file that was read and joined
pub accepted_counts : (limits : LimitsView) (book : Book) (bytes : List ℕ) (file : File) (new : NewFile) → file_of_bytes bytes ≡ Ok file → Accepts limits book file new → load_of limits book bytes ≡ Ok (counts_in new.joined)
unfolding load_of
accepted_counts limits book bytes file new said accepts =
    ap (joined_counts limits book) said ∙ ap (counts_or file) accepts.0.legs
    ∙ ap (λ n. Ok (record { records = n; legs = length new.joined.legs; features = length (names_after [] file.records) })) (sym accepts.0.records)
    ∙ ap (λ (names : List (List ℕ)). Ok (record { records = new.joined.records; legs = length new.joined.legs; features = length names })) (sym accepts.0.names)

pub accepted_book : (limits : LimitsView) (book : Book) (bytes : List ℕ) (file : File) (new : NewFile) → file_of_bytes bytes ≡ Ok file → Accepts limits book file new → book_with limits book bytes ≡ with_file book file
unfolding book_with
accepted_book limits book bytes file new said accepts = ap (book_by limits book) said ∙ ap (λ (o : Result (List LegView) (JoinCode × ℕ)). elim o [ Ok legs ↦ with_file book file | Err fault ↦ book ]) accepts.0.legs

-- a refused file leaves the book
refused_by : (limits : LimitsView) (book : Book) (text : Result File (Code × ℕ)) (fault : FileCode × ℕ) → joined_counts limits book text ≡ Err fault → book_by limits book text ≡ book
refused_by limits book (Err e) fault said = refl
refused_by limits book (Ok file) fault said = by (joined limits book file) said
  where
    by : (o : Result (List LegView) (JoinCode × ℕ)) → counts_or file o ≡ Err fault → elim o [ Ok legs ↦ with_file book file | Err e ↦ book ] ≡ book
    by (Ok legs) s = absurd (cc)
    by (Err e) s = refl

pub refused_book : (limits : LimitsView) (book : Book) (bytes : List ℕ) (fault : FileCode × ℕ) → load_of limits book bytes ≡ Err fault → book_with limits book bytes ≡ book
unfolding load_of book_with
refused_book limits book bytes fault said = refused_by limits book (file_of_bytes bytes) fault said

pub told_kept : (limits : LimitsView) (book : Book) (bytes : List ℕ) (fault : LoadFault) → IsRefused fault → FaultIs fault (load_of limits book bytes) → book ≡ book_with limits book bytes
told_kept limits book bytes (Refused code number) told said = sym (refused_book limits book bytes (code, number) said)
told_kept limits book bytes (Run fault) told said = absurd told
