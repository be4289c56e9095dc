-- Helpers of private functions: how a file is read and joined.
use Rattle.std.specs.Prelude.{ℕ, ◌≡◌, List, map, length, Option, Result, Ok}
use Rattle.mfcsv.specs.FileText.{HasWholeRows}
use Rattle.mfcsv.specs.Views.{RecordView}
use Rattle.mfcsv.specs.declared.Code.{Code}
use Rattle.mfcsv.specs.declared.File.{File}
use Rattle.mfcsv.specs.declared.FileFault.{FileFault}
use Rattle.mfcsv.specs.declared.FileFault.TheVariants as text
use Rattle.legs.specs.Book.{Book}
use Rattle.legs.specs.Index.{CanFollowInTurn}
use Rattle.legs.specs.Joining.{IsJoinedBy, JoinedView}
use Rattle.legs.specs.Limits.{LimitsView}
use Rattle.legs.specs.Tracks.{StandsFor, TracksView}
use Rattle.legs.specs.declared.head.BookHead.{BookHead}
use Rattle.legs.specs.declared.joining.JoinFault.{JoinFault}
use Rattle.legs.specs.declared.joining.JoinFault.TheVariants as join
use Rattle.trajdb.specs.declared.Counts.{Counts}
use Rattle.trajdb.specs.declared.FileCode.TheVariants.{Text, Join}
use Rattle.trajdb.specs.declared.LoadFault.{LoadFault}
use Rattle.trajdb.specs.declared.LoadFault.TheVariants.{Refused, Run}
use Rattle.trajdb.specs.declared.RunFault.TheVariants.{Memory}
use Rattle.trajdb.specs.declared.load.NewFile.{NewFile}

-- how `load` reports a fault of reading a file
abbrev pub code_fault : FileFault → LoadFault
code_fault (text.Refused code number) = Refused (Text code) number
code_fault text.Memory = Run Memory

-- how `load` reports a fault of joining a file
abbrev pub join_fault : JoinFault → LoadFault
join_fault (join.Refused code number) = Refused (Join code) number
join_fault join.Memory = Run Memory

-- the counts of a file that was joined
abbrev pub counts_in : JoinedView → Counts
counts_in joined = record {
  records = joined.records;
  legs = length joined.legs;
  features = length joined.names.names;
}

-- the rows of attribute values of records
abbrev pub values_of : List RecordView → List (List (List ℕ))
values_of records = map (λ (r : RecordView). r.attributes) records

-- a file is joined to a book by that, and each of its records has a value for each column
abbrev pub Accepts : LimitsView → Book → File → NewFile → Type 0
Accepts limits book file new =
    IsJoinedBy limits book file new.joined × CanFollowInTurn book.legs new.joined.legs
    × HasWholeRows file × (new.head ≡ file.head) × (new.rows ≡ values_of file.records)

-- the file that the text says was read, and is joined to each book that the tracks stand for
pub record IsRead (tracks : TracksView) (head : Option BookHead) (limits : LimitsView)
    (text : Result File (Code × ℕ)) (new : NewFile) : Type 0 where
  pub file : File
  pub said : text ≡ Ok file
  pub accepts : (book : Book) → StandsFor tracks book → book.head ≡ head
      → Accepts limits book file new
