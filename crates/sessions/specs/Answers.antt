-- What a run of the program sends, and what its store then holds.
use Rattle.std.specs.Prelude.{ℕ, ◌≡◌, ◌≢◌, ◌⊎◌, ◌<◌, ◌-◌, [], List, length, take, slice_index_or, false, true, Option, Result, Ok, Err, IfErr, OnErr, OnOk}
use Rattle.std.specs.Io.KnownBytes.{Appends}
use Rattle.legs.specs.Book.{Book}
use Rattle.legs.specs.Costs.{ShapeView}
use Rattle.legs.specs.Limits.{LimitsView}
use Rattle.outputs.specs.Output.{OutputView}
use Rattle.pages.specs.Store.{Store, Faulted, IsSynced}
use Rattle.boxsearch.specs.Index.{written, words}
use Rattle.catalogue.specs.Holding.{HoldsBook, HoldsButFirst, IsUnfinishedStore}
use Rattle.catalogue.specs.Beginning.{IsLeftOver}
use Rattle.version1.specs.Migrating.{IsMigratingFault}
use Rattle.trajdb.specs.Calls.{IsLoadFault, LoadsBy, Speaks}
use Rattle.trajdb.specs.Db.{page_count_of, shape_of, DbView, HasPages, IsSoundDb}
use Rattle.trajdb.specs.Faults.{IsNotOutput}
use Rattle.trajdb.specs.Lasting.{IsFaultless, IsIdle, IsSafe, IsSafeStore}
use Rattle.trajdb.specs.Promises.{CheckCall, CloseCall, KeepsStore, RunCall}
use Rattle.trajdb.specs.Run.{AcceptsSome, AnswersLine, DoesAll, IsPrefixOf, Runs, RunsBy}
use Rattle.register.specs.declared.fault.CatalogueFault.{CatalogueFault}
use Rattle.register.specs.declared.fault.CatalogueFault.TheVariants as opening
use Rattle.trajdb.specs.declared.Report.{Report}
use Rattle.trajdb.specs.declared.RunFault.{RunFault}
use Rattle.trajdb.specs.declared.RunFault.TheVariants as run
use Rattle.sessions.specs.declared.fault.Fault.{Fault}
use Rattle.sessions.specs.declared.fault.Fault.TheVariants.{Run, Open}

-- the shape of the tree of a new database
abbrev pub new_shape : ShapeView
new_shape = record { leaf = 50; inner = 72 }

-- what was sent is exactly the text of the run over a book, and the store holds the book after it, in
-- a tree of that shape
pub record Answers (shape : ShapeView) (limits : LimitsView) (book : Book)
    (files : List (List ℕ × List ℕ)) (sent sent' : Option (List ℕ)) (lines : List (List ℕ))
    (store : Store) : Type 0 where
  pub after : Book
  pub run : RunsBy (AnswersLine limits files) sent sent' book after lines
  pub holds : HoldsBook store shape limits after

-- what was sent is the front of the answers to the first lines, each over the book after the lines before
pub record SendsFront (limits : LimitsView) (book : Book) (files : List (List ℕ × List ℕ))
    (sent sent' : Option (List ℕ)) (lines : List (List ℕ)) : Type 0 where
  pub front : List ℕ
  pub sends : Appends sent sent' front
  pub done : ℕ
  pub text : List ℕ
  pub after : Book
  pub answers : DoesAll (AnswersLine limits files) book after (take done lines) text
  pub is_front : IsPrefixOf front text

-- what was sent of a run that ended so: the answers to some first lines, and to all lines where it was brought to its end;
-- all of these answers, or where the output failed, as that fault says, a front of them that has all but the last one
pub record SendsLines {E : Type 0} (output : E) (limits : LimitsView) (book : Book)
    (files : List (List ℕ × List ℕ)) (sent sent' : Option (List ℕ)) (lines : List (List ℕ))
    (ran : Result (Unit {0}) E) : Type 0 where
  pub part : SendsFront limits book files sent sent' lines
  pub whole : OnOk ran (part.done ≡ length lines)
  pub all : ran ≢ Err output → part.front ≡ part.text
  pub cut : ran ≡ Err output
      → (before : List ℕ) × (mid : Book)
      × DoesAll (AnswersLine limits files) book mid (take (part.done - 1) lines) before
      × IsPrefixOf before part.front

-- what the closing of a database with a book leaves, by what it answered: the store holds the book, or where memory ran
-- out or the store is full, it is one that is not finished; where the store failed, it is that, or all of its pages but
-- page 0 are those of one that holds the book, and are synced
abbrev pub ClosesWith : ShapeView → LimitsView → Book → Result (Unit {0}) RunFault → Store → Type 0
ClosesWith shape limits book (Ok x) store = HoldsBook store shape limits book
ClosesWith shape limits book (Err fault) store =
    IsLoadFault fault × (IsFaultless fault → IsUnfinishedStore store)
    × (IsUnfinishedStore store ⊎ HoldsButFirst store shape limits book)

-- line k + 1 is there, and is a command, or is refused
abbrev pub IsAtLine : List (List ℕ) → ℕ → Type 0
IsAtLine lines k = (k < length lines) × Speaks (slice_index_or lines k [])

-- line k + 1 is there, and is a `load` of a file that is there
abbrev pub IsAtLoad : List (List ℕ × List ℕ) → List (List ℕ) → ℕ → Type 0
IsAtLoad files lines k = (k < length lines) × LoadsBy files (slice_index_or lines k [])

-- a run over a database stopped at line k + 1, which is a `load` of a file, and the database was not closed but abandoned;
-- the store is then one that is not finished, or the one that was there before, but for page 0 where the store failed
pub record FailsToLoad (db : DbView) (files : List (List ℕ × List ℕ)) (lines : List (List ℕ))
    (k : ℕ) (ran closed : Result (Unit {0}) RunFault) (store : Store) : Type 0 where
  pub fault : RunFault
  pub ran_is : ran ≡ Err fault
  pub inside : fault ≢ run.Output
  pub at : IsAtLoad files lines k
  pub closed_is : closed ≡ Err run.Failed
  pub safe : (was : Store) → IsSafe was db → IsSafeStore was store

-- a store has the pages that a database counts, as they were written
abbrev pub HasWritten : DbView → Store → Type 0
HasWritten db store = take (page_count_of db) store.pages ≡ written db.index

-- a database is closed with the book after so many lines; and without a fault where it had not begun and none of these
-- lines is a `load` that is accepted
abbrev pub ClosesAfter : DbView → List (List ℕ × List ℕ) → List (List ℕ) → ℕ → (after : Book)
    → (closed : Result (Unit {0}) RunFault) → Store → Type 0
ClosesAfter db files lines done after closed store =
    ClosesWith (shape_of db) db.limits after closed store
    × (db.begun ≡ false → OnErr closed (AcceptsSome db.limits files db.book (take done lines)))

-- what a run over a database and its closing leave, whatever they answer, beside what was sent. The database was closed
-- with the book after the lines that were answered (`ClosesAfter`); or the next line is a `load` of a file, which failed.
-- Where the run stopped at a line, that is the next one, and it says that memory ran out, or that the store failed or, at
-- such a `load`, is full; where the closing says that it is full, it is. Where the closing answers well, all of the store
-- is synced, or it has the pages that the database had, as they were written
pub record Ends (db : DbView) (files : List (List ℕ × List ℕ)) (sent sent' : Option (List ℕ))
    (lines : List (List ℕ)) (ran closed : Result (Unit {0}) RunFault) (store : Store) : Type 0 where
  pub sends : SendsLines run.Output db.limits db.book files sent sent' lines ran
  pub stopped : IfErr ran (λ fault. IsNotOutput fault
      → IsLoadFault fault × IsAtLine lines sends.part.done)
  pub full : ran ≡ Err run.StoreFull
      → FailsToLoad db files lines sends.part.done ran closed store
  pub closed_full : closed ≡ Err run.StoreFull → store.count ≡ store.most
  pub left : ClosesAfter db files lines sends.part.done sends.part.after closed store
      ⊎ FailsToLoad db files lines sends.part.done ran closed store
  pub lasts : OnOk closed (IsSynced store ⊎ HasWritten db store)

-- a run over a database and its closing, be it sound or not: there is a database between them, and the run and the closing
-- do with it what each promises; over a sound one they leave what `Ends` says
pub record RunsAndCloses {O : Type 0} (shown : O → OutputView) (db : DbView)
    (files : List (List ℕ × List ℕ)) (out out' : O) (lines : List (List ℕ))
    (ran closed : Result (Unit {0}) RunFault) (store : Store) : Type 0 where
  pub between : DbView
  pub ok : OnOk ran (IsSoundDb db
      → Runs files (shown out).contents (shown out').contents db between lines)
  pub run : RunCall words shown files out out' db between lines ran
  pub keeps : KeepsStore db between
  pub close : CloseCall between store closed
  pub ends : IsSoundDb db → HasPages db → IsIdle db → db.failed ≡ false
      → Ends db files (shown out).contents (shown out').contents lines ran closed store

-- how a run and its closing are answered: the run's own fault comes first
abbrev pub said : Result (Unit {0}) RunFault → Result (Unit {0}) RunFault → Result (Unit {0}) Fault
said (Ok x) (Ok y) = Ok tt
said (Ok x) (Err fault) = Err (Run fault)
said (Err fault) closed = Err (Run fault)

-- a database that was made or opened is run over and closed, and the fault of these is answered, and that of the closing,
-- for which what the run did is not kept; where there is none, why is answered twice, the store is the one that was given
-- back, and nothing was sent
abbrev pub RunsOver : {S O : Type 0} (seen : S → Store) (shown : O → OutputView)
    → Result DbView (S × CatalogueFault) → List (List ℕ × List ℕ) → (out out' : O)
    → List (List ℕ) → (answered kept : Result (Unit {0}) Fault) → Store → Type 0
RunsOver seen shown (Ok db) files out out' lines answered kept store =
    (ran : Result (Unit {0}) RunFault) × (closed : Result (Unit {0}) RunFault)
    × (answered ≡ said ran closed) × (kept ≡ said (Ok tt) closed)
    × RunsAndCloses shown db files out out' lines ran closed store
RunsOver seen shown (Err back) files out out' lines answered kept store =
    (answered ≡ Err (Open back.1)) × (kept ≡ Err (Open back.1)) × (store ≡ seen back.0)
    × (shown out' ≡ shown out)

-- the store holds the book of a database, in a tree of its shape; the report says how many legs and features the book has,
-- and, where the database had not begun, how many pages the store
pub record Checks (store : Store) (db : DbView) (report : Report) : Type 0 where
  pub holds : HoldsBook store (shape_of db) db.limits db.book
  pub pages : db.begun ≡ false → report.pages ≡ store.count
  pub legs : report.legs ≡ length db.book.legs
  pub features : report.features ≡ length db.book.names

-- a store holds the book of a database; or that had begun, and the store is not finished, or has all pages but page 0 of one
-- that holds the book, synced
abbrev pub HoldsOrNot : Store → DbView → Type 0
HoldsOrNot store db =
    HoldsBook store (shape_of db) db.limits db.book
    ⊎ ((db.begun ≡ true)
    × (IsUnfinishedStore store ⊎ HoldsButFirst store (shape_of db) db.limits db.book))

-- how a check and its closing are answered: the check's own fault comes first
abbrev pub said_checked : Result Report RunFault → Result (Unit {0}) RunFault
    → Result Report RunFault
said_checked (Ok report) (Ok x) = Ok report
said_checked (Ok report) (Err fault) = Err fault
said_checked (Err fault) closed = Err fault

-- a check of a database and its closing, be it sound or not: there is a database between them, and the check and the closing
-- do with it what each promises
pub record ChecksAndCloses (db : DbView) (store : Store)
    (answered : Result Report RunFault) : Type 0 where
  pub between : DbView
  pub checked : Result Report RunFault
  pub closed : Result (Unit {0}) RunFault
  pub answers : answered ≡ said_checked checked closed
  pub check : CheckCall db between checked
  pub keeps : KeepsStore db between
  pub close : CloseCall between store closed

-- a store failed, or is full, where that is said of bringing one over: either store, or in the closing the new one
abbrev pub IsOverFault : (old after new left : Store) → Fault → Type 0
IsOverFault old after new left (Run run.Memory) = Unit {0}
IsOverFault old after new left (Run run.Store) = Faulted new left
IsOverFault old after new left (Run (run.Damaged page)) = Unit {0}
IsOverFault old after new left (Run run.StoreFull) = left.count ≡ left.most
IsOverFault old after new left (Open fault) = IsMigratingFault old after new left fault
IsOverFault old after new left _ = ⊥

-- why a store of version 1 that holds a book is not brought over: memory ran out or the new store is full, which then
-- has no page, or says that it is not finished, or has a page 0 alone, whose write failed; or a store failed, and where
-- the new one did in the closing, nothing is said of what it has
abbrev pub IsNotOver : (new left : Store) → Fault → Type 0
IsNotOver new left (Run run.Memory) = IsLeftOver new left
IsNotOver new left (Run run.Store) = Unit {0}
IsNotOver new left (Run run.StoreFull) = IsLeftOver new left
IsNotOver new left (Open opening.Memory) = IsLeftOver new left
IsNotOver new left (Open opening.Store) = IsLeftOver new left
IsNotOver new left (Open opening.StoreFull) = IsLeftOver new left
IsNotOver new left _ = ⊥
