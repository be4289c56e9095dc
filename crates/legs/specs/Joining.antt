-- How a file is joined to a book, record by record.
use Rattle.std.specs.Prelude.{ℕ, ◌≡◌, ◌+◌, [], List, length, All, Option, Some, None, Ok}
use Rattle.mfcsv.specs.declared.File.{File}
use Rattle.mfcsv.specs.Views.{RecordView, IsRecord}
use Rattle.legs.specs.Legs.{LegView}
use Rattle.legs.specs.Index.{CanFollowInTurn}
use Rattle.legs.specs.Limits.{LimitsView}
use Rattle.legs.specs.Book.{Book, joined, record_faults, records_legs, with_records}
use Rattle.legs.specs.Counting.{names_after}
use Rattle.legs.specs.Drafts.{IsDraft}
use Rattle.legs.specs.FirstFault.{IsFirst}
use Rattle.legs.specs.Names.{NamesView, fresh_names, names_and}
use Rattle.legs.specs.Tracks.{StandsFor}
use Rattle.legs.specs.declared.draft.Draft.{Draft}
use Rattle.legs.specs.declared.joining.JoinFault.{JoinFault}

-- a file that was joined: its names, its legs, and how many records it has
pub record JoinedView : Type 0 where
  pub names : NamesView
  pub legs : List LegView
  pub records : ℕ

-- that is what joins a file to a book
pub record IsJoinedBy (limits : LimitsView) (book : Book) (file : File)
    (by : JoinedView) : Type 0 where
  pub legs : joined limits book file ≡ Ok by.legs
  pub follow : CanFollowInTurn book.legs by.legs
  -- the distinct names of its records, in order of first appearance
  pub names : by.names.names ≡ names_after [] file.records
  -- those of new features are the names that it adds
  pub fresh : names_and book.names (fresh_names (length book.names) by.names.names by.names.latest)
      ≡ names_after book.names file.records
  pub records : by.records ≡ length file.records
  pub lawful : All IsRecord file.records

-- that has the distinct names of these records, in order of first appearance, and as many records
pub record IsCounted (records : List RecordView) (by : JoinedView) : Type 0 where
  pub names : by.names.names ≡ names_after [] records
  pub many : by.records ≡ length records

-- Helper of private functions: records were joined without a fault.
pub record AreJoined (limits : LimitsView) (book : Book) (records : List RecordView)
    (legs : List LegView)
    (draft : Draft) : Type 0 where
  pub draft_of : IsDraft draft (with_records book records)
  pub faultless : record_faults limits book records ≡ []
  pub all : records_legs book records ≡ legs
  pub follow : CanFollowInTurn book.legs legs
  pub names : draft.names.names ≡ names_after [] records
  pub lawful : All IsRecord records

-- Helper of private functions: the same, or the first fault was met.
abbrev pub AreJoinedOr : Option JoinFault → LimitsView → Book → List RecordView → List LegView
    → Draft
    → Type 0
AreJoinedOr None limits book records legs draft = AreJoined limits book records legs draft
AreJoinedOr (Some fault) limits book records legs draft =
    IsFirst fault (record_faults limits book records)

-- what is known of a file whose records are joined one by one
pub record JoiningView : Type 0 where
  pub draft : Draft
  pub legs : List LegView
  pub limits : LimitsView
  pub fault : Option JoinFault

-- records were joined to a book, as far as they have no fault
pub record IsJoining (limits : LimitsView) (joiner : JoiningView) (book : Book)
    (records : List RecordView) : Type 0 where
  pub limited : joiner.limits ≡ limits
  pub stands : StandsFor joiner.draft.tracks.now book
  pub joined : AreJoinedOr joiner.fault limits book records joiner.legs joiner.draft

-- whatever the tracks say, records were counted, as long as none had a fault: their distinct names are kept, and their
-- rows are those behind the rows of the tracks
pub record HasCounted (joiner : JoiningView) (records : List RecordView) : Type 0 where
  pub names : joiner.fault ≡ None → joiner.draft.names.names ≡ names_after [] records
  pub rows : joiner.fault ≡ None
      → joiner.draft.rows ≡ joiner.draft.tracks.now.rows + length records
