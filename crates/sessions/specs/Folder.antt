-- What the name of a store stands for, from moment to moment, and what a run makes of it.
use Rattle.std.specs.Prelude.{ℕ, ◌≡◌, ◌<◌, ◌⊎◌, ◌^◌, ◌+◌, ◌-◌, min, List, [], ◌∷◌, length, Bool, Option, Some, None, IfErr, IfSome, IsTrue, OnOk, Err, Ok, Result, false, true, ⊤}
use Rattle.legs.specs.Book.{Book, empty_book}
use Rattle.legs.specs.Costs.{ShapeView}
use Rattle.legs.specs.Limits.{LimitsView}
use Rattle.pages.specs.Sealed.{sealed}
use Rattle.pages.specs.Store.{Store, IsSynced, Keeps, Writes}
use Rattle.pages.specs.declared.unsynced.Unsynced.TheVariants.{Others}
use Rattle.catalogue.specs.Beginning.{IsLeft}
use Rattle.catalogue.specs.Holding.{HoldsBook}
use Rattle.header.specs.Fields.{header_payload}
use Rattle.register.specs.Saving.{IsSavingStop}
use Rattle.trajdb.specs.Calls.{IsLoadFault}
use Rattle.trajdb.specs.Db.{capacity_of, shape_of, store_of, DbView, HasPages, IsCaused}
use Rattle.trajdb.specs.Database.{fresh}
use Rattle.trajdb.specs.Faults.{IsNotOutput}
use Rattle.trajdb.specs.Lasting.{HasBook}
use Rattle.trajdb.specs.Promises.{OpenCall}
use Rattle.register.specs.declared.fault.CatalogueFault.{CatalogueFault}
use Rattle.trajdb.specs.declared.RunFault.{RunFault}
use Rattle.trajdb.specs.declared.RunFault.TheVariants.{Failed, Memory, Output, Store as StoreFailed}
use Rattle.sessions.specs.Answers.{new_shape, IsAtLoad, SendsLines}
use Rattle.sessions.specs.declared.fault.Fault.{Fault}
use Rattle.sessions.specs.declared.fault.Named.{Named}
use Rattle.sessions.specs.declared.folder_refusals.FolderRefusals.{FolderRefusals}
use Rattle.sessions.specs.declared.fault.Fault.TheVariants.{CannotRead, InUse, NoStore, Run}

-- the pages of the file of that name at each moment so far, the last one first; `None` where there was no file
abbrev pub History : Type 0
History = List (Option (List (List ℕ)))

-- what contracts see of a folder: what the store's name stood for at each moment so far, the last one first, where the
-- folder tells it; whether each name that was given is on the disk, and whether a copy that this folder made lies beside the
-- store's file, both as far as the system lets it; and how often the folder refused a call, and why the last time
pub record FolderView : Type 0 where
  pub held : Option History
  pub is_settled : Bool
  pub has_copy : Bool
  pub refused : FolderRefusals

-- one refusal more, for that fault; 2^64 - 1 stands for any greater number
abbrev pub noted : Fault → FolderRefusals → FolderRefusals
noted fault before = record { refusals = min (before.refusals + 1) (2 ^ 64 - 1); last = Some fault }

-- the store of a file of these pages, which may all be unsynced
abbrev pub file_store : List (List ℕ) → Store
file_store pages = record {
  count = length pages;
  most = 2 ^ 32 - 1;
  faults = 0;
  unsynced = Others;
  has_lost = false;
  is_faithful = true;
  pages = pages;
}

-- the pages of a file, or none where there is no file
abbrev pub pages_in : Option (List (List ℕ)) → List (List ℕ)
pages_in None = []
pages_in (Some pages) = pages

-- the store of what the name stands for now
abbrev pub store_in : History → Store
store_in [] = file_store []
store_in (now ∷ past) = file_store (pages_in now)

-- a run begins with a book: the one that a store holds, or the empty one under given limits, where the store has no page
-- and is made
abbrev pub BeginsWith : Bool → (given : LimitsView) → Store → ShapeView → LimitsView → Book → Type 0
BeginsWith is_new given store shape limits book =
    HoldsBook store shape limits book
    ⊎ (IsTrue is_new × (store.count ≡ 0) × (shape ≡ new_shape)
    × (limits ≡ given) × (book ≡ empty_book))

-- something is so of each book that a run begins with, where the folder tells what the name stands for
abbrev pub OfEachBook : Option History → Bool → LimitsView
    → (ShapeView → LimitsView → Book → Type 0) → Type 0
OfEachBook held is_new given IsSo = IfSome held (λ past.
    (shape : ShapeView) (limits : LimitsView) (book : Book)
    → BeginsWith is_new given (store_in past) shape limits book → IsSo shape limits book)

-- a store is as another one in all but its count of faults, what is synced and whether it may be lost
abbrev pub HasPagesOf : Store → Store → Type 0
HasPagesOf store other = record store { faults = 0; unsynced = Others; has_lost = false } ≡ other

-- a store has the pages of what the name stands for, where a folder tells it
abbrev pub HasPagesHeld : Store → Option History → Type 0
HasPagesHeld store (Some past) = HasPagesOf store (store_in past)
HasPagesHeld store None = ⊤

-- the name stands for a file of these pages now, and did at each moment before for what it stood for then: nothing came
-- between
pub record IsNext (store : Store) (old new : History) : Type 0 where
  pub pages : List (List ℕ)
  pub are : HasPagesOf store (file_store pages)
  pub next : new ≡ Some pages ∷ old

-- that, where a folder tells it
abbrev pub IsGiven : Store → Option History → Option History → Type 0
IsGiven store (Some old) (Some new) = IsNext store old new
IsGiven store (Some old) None = ⊥
IsGiven store None (Some new) = ⊥
IsGiven store None None = ⊤

-- the name is given to the copy, which had these pages: no copy is left beside it. Whether the name is on the disk, this does not say
pub record IsReplaced (store : Store) (old new : FolderView) : Type 0 where
  pub given : IsGiven store old.held new.held
  pub rest : new ≡ record old { held = new.held; is_settled = new.is_settled; has_copy = false }

-- the name stands for a file of these pages now: nothing came between, or nothing has changed
abbrev pub NameIsKept : Store → Option History → Option History → Type 0
NameIsKept store old new = IsGiven store old new ⊎ ((new ≡ old) × HasPagesHeld store old)

-- what a run did on a copy is kept: the name stands for its pages, and is on the disk if it was; the folder refused nothing
pub record IsKept (store : Store) (old new : FolderView) : Type 0 where
  pub name : NameIsKept store old.held new.held
  pub settled : IsTrue old.is_settled → IsTrue new.is_settled
  pub refused : new.refused ≡ old.refused

-- what the name stands for now holds the book, where a folder tells it
abbrev pub HoldsNow : ShapeView → LimitsView → Book → Option History → Type 0
HoldsNow shape limits book held = IfSome held (λ now. HoldsBook (store_in now) shape limits book)

-- why a folder refuses a call: memory ran out, a call of the system failed, or another run holds the store. It names no page
-- of a database, and says nothing of a script or a part
abbrev pub IsOfFolder : Fault → Type 0
IsOfFolder (Run why) = (why ≡ Memory) ⊎ (why ≡ StoreFailed)
IsOfFolder InUse = Unit {0}
IsOfFolder (NoStore cause) = Unit {0}
IsOfFolder _ = ⊥

-- the folder refused one call, which it counts, and this fault is why: it made no copy, did not make it last, or did not
-- give it the name
abbrev pub IsRefusedByFolder : Fault → FolderView → FolderView → Type 0
IsRefusedByFolder fault old new = IsOfFolder fault × (new.refused ≡ noted fault old.refused)

-- a call that a folder refuses for that fault changes nothing else; but it may leave a copy, and takes none away
pub record Refuses (fault : Fault) (old new : FolderView) : Type 0 where
  pub why : IsRefusedByFolder fault old new
  pub copy : IsTrue old.has_copy → IsTrue new.has_copy
  pub rest : new ≡ record old { has_copy = new.has_copy; refused = new.refused }

-- how a run on a copy is refused: nothing was sent of it, or it says which kind of fault it is: of the output, want of
-- memory, or of a store that failed or is full; that it is so, this does not say
abbrev pub IsRefusedBeside : (sent sent' : Option (List ℕ)) → Fault → Type 0
IsRefusedBeside sent sent' fault =
    (sent' ≡ sent) ⊎ ((why : RunFault) × (fault ≡ Run why) × (IsNotOutput why → IsLoadFault why))

-- why what a run on a copy did is not kept, where no folder refused it: there was no database, which is why it was
-- refused, and nothing was sent; a load of a file that is there failed; or the database was not closed, as memory ran out,
-- or as its store failed or is full
abbrev pub IsDropped : List (List ℕ × List ℕ) → (sent sent' : Option (List ℕ)) → List (List ℕ)
    → (ran : Result (Unit {0}) Fault) → Fault → Type 0
IsDropped files sent sent' lines ran fault =
    ((sent' ≡ sent) × (ran ≡ Err fault))
    ⊎ (((fault ≡ Run Failed) × (k : ℕ) × IsAtLoad files lines k)
    ⊎ ((why : RunFault) × (fault ≡ Run why) × IsLoadFault why))

-- what a run over a copy of a store with a book leaves of that copy: what was sent of it, and, where it is to be kept, the
-- book after the lines whose answers were sent
pub record LeavesCopy (files : List (List ℕ × List ℕ)) (sent sent' : Option (List ℕ))
    (lines : List (List ℕ)) (ran kept : Result (Unit {0}) Fault) (store : Store)
    (shape : ShapeView) (limits : LimitsView) (book : Book) : Type 0 where
  pub sends : SendsLines (Run Output) limits book files sent sent' lines ran
  pub holds : OnOk kept (HoldsBook store shape limits sends.part.after)
  pub dropped : IfErr kept (IsDropped files sent sent' lines ran)
  pub refused : IfErr ran (IsRefusedBeside sent sent')

-- the store of a run over a book that is kept, and of which nothing else than its pages takes the name, which then stands
-- for a file that holds the book after the lines whose answers were sent: a later run finds it
pub record RunsBeside (shape : ShapeView) (limits : LimitsView) (book : Book)
    (files : List (List ℕ × List ℕ)) (sent sent' : Option (List ℕ)) (lines : List (List ℕ))
    (ran : Result (Unit {0}) Fault) (old new : Option History) : Type 0 where
  pub sends : SendsLines (Run Output) limits book files sent sent' lines ran
  pub store : Store
  pub holds : HoldsBook store shape limits sends.part.after
  pub kept : NameIsKept store old new
  pub held : HoldsNow shape limits sends.part.after new

-- of a store without pages a database is made under these limits with the empty book that has begun and not failed, with a cache of so many
-- pages: its store has page 0 alone, which of a faithful one is its header, and is synced; over a faithful one it is sound,
-- and its pages are as its state says. Or it is not: as the store failed, or may have no page, where that is said, and over a faithful one else for want
-- of memory alone; what is left has no page, or page 0 alone, which of a faithful one is that header, unless it failed
abbrev pub Makes : {S : Type 0} (seen : S → Store) (store : Store) (limits : LimitsView) (cache_pages : ℕ)
    → Result DbView (S × CatalogueFault) → Type 0
Makes seen store limits cache_pages (Ok db) =
    (IsTrue store.is_faithful → HasBook new_shape limits empty_book db × HasPages db)
    × (db ≡ fresh limits db.index true) × (shape_of db ≡ new_shape) × (capacity_of db ≡ cache_pages)
    × Writes 0 (sealed 0 (header_payload new_shape limits)) store (store_of db)
    × IsSynced (store_of db)
Makes seen store limits cache_pages (Err back) =
    (IsTrue store.is_faithful → IsSavingStop back.1) × IsCaused store (seen back.0) back.1
    × Keeps store (seen back.0) × IsLeft new_shape limits store (seen back.0)

-- a store is opened, or made a database under these limits where it has no page and that is asked for, with a cache of so many pages; or it
-- is not, and why
pub record OpensOrMakes {S : Type 0} (seen : S → Store) (store : Store) (is_new : Bool)
    (limits : LimitsView) (cache_pages : ℕ) (opened : Result DbView (S × CatalogueFault)) : Type 0 where
  pub opens : (is_new ≡ false) ⊎ (0 < store.count) → OpenCall seen store cache_pages opened
  pub makes : IsTrue is_new → store.count ≡ 0 → Makes seen store limits cache_pages opened

-- memory ran out, or that file is said not to be read
abbrev pub IsUnreadFile : Named → Fault → Type 0
IsUnreadFile named (Run why) = why ≡ Memory
IsUnreadFile named (CannotRead said cause) = said ≡ named
IsUnreadFile named _ = ⊥
