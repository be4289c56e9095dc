-- What a database stands for.
use Rattle.std.specs.Prelude.{◌≡◌, [], Bool, false, ℕ, Result, Ok, Err}
use Rattle.legs.specs.Limits.{LimitsView, IsLimits}
use Rattle.legs.specs.Book.{Book, empty_book}
use Rattle.legs.specs.declared.listed.Listed.{Ghosts}
use Rattle.legs.specs.Tracks.{TracksView, StandsFor}
use Rattle.legs.specs.Law.{IsBook}
use Rattle.register.specs.Saved.{CatalogueView}
use Rattle.trajdb.specs.declared.Counts.{Counts}
use Rattle.trajdb.specs.declared.FileCode.{FileCode}
use Rattle.trajdb.specs.declared.LoadFault.{LoadFault}
use Rattle.trajdb.specs.declared.LoadFault.TheVariants.{Refused, Run}

-- what contracts see of a database: its index, its tracks, its book by the list of legs for which the index
-- stands, its limits, whether it has begun (it was made, or accepted a file since it was opened), and whether it failed
pub record CoreView (I : Type 0) : Type 0 where
  pub index : I
  pub tracks : TracksView
  pub book : Book
  pub limits : LimitsView
  pub begun : Bool
  pub failed : Bool

-- a database of a catalogue and the index of its legs, which was made, or into which no file was accepted since it was
-- opened
abbrev pub restored : {I : Type 0} → Ghosts I → CatalogueView → I → Bool → CoreView I
restored g c index begun = record {
  index = index;
  tracks = c.tracks;
  book = record { head = c.head; names = c.tracks.names; legs = g.content index; rows = c.rows };
  limits = c.limits;
  begun = begun;
  failed = false;
}

-- a database under these limits, into which no file was accepted, over an index without legs
abbrev pub fresh : {I : Type 0} → LimitsView → I → Bool → CoreView I
fresh limits index begun = record {
  index = index;
  tracks = record { names = []; tracks = []; legs = 0; rows = 0 };
  book = empty_book;
  limits = limits;
  begun = begun;
  failed = false;
}

-- the catalogue of a database
abbrev pub catalogue_of : {I : Type 0} → CoreView I → CatalogueView
catalogue_of core =
    record {
      head = core.book.head;
      limits = core.limits;
      tracks = core.tracks;
      rows = core.book.rows;
    }

-- a database whose index is sound, whose tracks are those of its book, which keeps the law
pub record IsSound {I : Type 0} (g : Ghosts I) (core : CoreView I) : Type 0 where
  pub index : g.is_sound core.index
  pub limits : IsLimits core.limits
  pub tracks : StandsFor core.tracks core.book
  pub law : IsBook core.limits core.book

-- what `load` answers: exactly the counts or exactly the fault, or that the database could not tell
abbrev pub FaultIs : LoadFault → Result Counts (FileCode × ℕ) → Type 0
FaultIs (Refused code number) said = said ≡ Err (code, number)
FaultIs (Run fault) said = Unit {0}

-- `load` returns exactly the counts or the fault that are said, or that it could not tell
abbrev pub LoadGives : Result Counts LoadFault → Result Counts (FileCode × ℕ) → Type 0
LoadGives (Ok counts) said = said ≡ Ok counts
LoadGives (Err fault) said = FaultIs fault said

-- the file was refused for a fault of its own
abbrev pub IsRefused : LoadFault → Type 0
IsRefused (Refused code number) = Unit {0}
IsRefused (Run fault) = ⊥

-- whether `load` told of the file: it was accepted, or is refused for a fault of its own
abbrev pub IsTold : Result Counts LoadFault → Type 0
IsTold (Ok counts) = Unit {0}
IsTold (Err fault) = IsRefused fault

-- a fault after which the database is failed
abbrev pub FailsBy : LoadFault → Type 0
FailsBy (Refused code number) = ⊥
FailsBy (Run fault) = Unit {0}

-- a sound database stays so, and has this book
abbrev pub Becomes : {I : Type 0} → Ghosts I → CoreView I → CoreView I → Book → Type 0
Becomes g old new book = IsSound g old → IsSound g new × (new.book ≡ book)
