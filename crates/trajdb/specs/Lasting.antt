-- A database that lasts between runs.
use Rattle.std.specs.Prelude.{◌≡◌, ◌≤◌, ◌⊎◌, drop, true, false, Result, Ok, Err, IsTrue}
use Rattle.legs.specs.Book.{Book}
use Rattle.legs.specs.Costs.{ShapeView}
use Rattle.legs.specs.Limits.{LimitsView}
use Rattle.pages.specs.Store.{Store, Faulted, IsLawful}
use Rattle.boxsearch.specs.Index.{written, IndexView, IsMarked, IsSoundIndex}
use Rattle.catalogue.specs.Holding.{HoldsBook, IsAtRest, IsUnfinishedStore}
use Rattle.register.specs.Lasting.{IsStop}
use Rattle.register.specs.declared.fault.CatalogueFault.{CatalogueFault}
use Rattle.trajdb.specs.Database.{catalogue_of}
use Rattle.trajdb.specs.Db.{DbView, IsSoundDb}
use Rattle.trajdb.specs.declared.RunFault.{RunFault}
use Rattle.trajdb.specs.declared.RunFault.TheVariants as run

-- a database that has neither begun nor failed is at rest: its pages as written, of a finished store, keep its catalogue
abbrev pub IsIdle : DbView → Type 0
IsIdle db = db.begun ≡ false → db.failed ≡ false → IsAtRest (catalogue_of db) db.index

-- a sound database with this book under these limits, whose tree has this shape
pub record HasBook (shape : ShapeView) (limits : LimitsView) (book : Book)
    (db : DbView) : Type 0 where
  pub sound : IsSoundDb db
  pub shape_is : db.index.tree.shape ≡ shape
  pub book_is : db.book ≡ book
  pub limits_are : db.limits ≡ limits

-- a store that was not finished is refused as such, but for memory and a store that failed
abbrev pub IsUnfinishedAnswer : {X Y : Type 0} → Result X (Y × CatalogueFault) → Type 0
IsUnfinishedAnswer (Ok db) = ⊥
IsUnfinishedAnswer (Err back) = (back.1 ≡ CatalogueFault.Unfinished) ⊎ IsStop back.1

-- no store failed
abbrev pub IsFaultless : RunFault → Type 0
IsFaultless run.Memory = Unit {0}
IsFaultless run.StoreFull = Unit {0}
IsFaultless _ = ⊥

-- why a database was not closed: the store failed, or is full, where that is said; or the database
-- is failed
abbrev pub IsClosingFault : DbView → Store → RunFault → Type 0
IsClosingFault db new run.Store = Faulted db.index.cache.store new
IsClosingFault db new run.StoreFull = new.count ≡ new.most
IsClosingFault db new run.Failed = db.failed ≡ true
IsClosingFault db new run.Output = ⊥
IsClosingFault db new _ = Unit {0}

-- a store has the pages that it had, and holds a book that it held, but for page 0 where it failed since
pub record IsUnchanged (was now : Store) : Type 0 where
  pub others : drop 1 now.pages ≡ drop 1 was.pages
  pub pages : (Faulted was now → ⊥) → now.pages ≡ was.pages
  pub holds : (Faulted was now → ⊥) → (shape : ShapeView) (limits : LimitsView) (book : Book)
      → HoldsBook was shape limits book → HoldsBook now shape limits book

-- a store that is left is refused as not finished where it is opened, or is the one that was
abbrev pub IsSafeStore : Store → Store → Type 0
IsSafeStore was left = IsUnfinishedStore left ⊎ IsUnchanged was left

-- no page was written since the store of a sound index was this faithful one, but page 0 where it failed since
pub record IsUntouched (was : Store) (index : IndexView) : Type 0 where
  pub lawful : IsLawful was
  pub faithful : IsTrue was.is_faithful
  pub faults : was.faults ≤ index.cache.store.faults
  pub sound : IsSoundIndex index
  pub others : drop 1 (written index) ≡ drop 1 was.pages
  pub pages : (Faulted was index.cache.store → ⊥) → written index ≡ was.pages

-- a database, failed or not, keeps its store safe: page 0 as written is marked, or no page was written since the store was
-- this one
abbrev pub IsSafe : Store → DbView → Type 0
IsSafe was db = IsMarked db.index.cache ⊎ IsUntouched was db.index
