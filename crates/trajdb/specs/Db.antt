-- What contracts see of a database over pages, and what a check finds of it.
use Rattle.std.specs.Prelude.{ℕ, ◌≡◌, ◌≢◌, ◌≤◌, List, length, slice_get, All, AllPairs, Option, Some, None}
use Rattle.legs.specs.Book.{feature_named}
use Rattle.legs.specs.Costs.{ShapeView}
use Rattle.legs.specs.Law.{IsName}
use Rattle.legs.specs.declared.head.BookHead.{BookHead}
use Rattle.boxsearch.specs.Index.{IndexView, words}
use Rattle.pages.specs.Store.{Store, Faulted}
use Rattle.trajdb.specs.Database.{CoreView, IsSound as IsSoundCore}
use Rattle.trajdb.specs.Calls.{HasIndexPages}
use Rattle.register.specs.declared.fault.CatalogueFault.{CatalogueFault}
use Rattle.register.specs.declared.fault.CatalogueFault.TheVariants.{Memory, Store as StoreFailed, Damaged, StoreFull}
use Rattle.trajdb.specs.declared.Report.{Report}

-- what contracts see of a database over the pages of a store
abbrev pub DbView : Type 0
DbView = CoreView IndexView

-- its store, as its cache sees it
abbrev pub store_of : DbView → Store
store_of db = db.index.cache.store

-- the shape of its tree
abbrev pub shape_of : DbView → ShapeView
shape_of db = db.index.tree.shape

-- how many pages its cache holds at most
abbrev pub capacity_of : DbView → ℕ
capacity_of db = db.index.cache.capacity

-- how many pages its cache counts
abbrev pub page_count_of : DbView → ℕ
page_count_of db = db.index.cache.count

-- the index is sound, the tracks are those of the book, and the book keeps the law
abbrev pub IsSoundDb : DbView → Type 0
IsSoundDb db = IsSoundCore words db

-- of a database that has begun page 0 is marked; of one that has neither begun nor failed no page is changed
abbrev pub HasPages : DbView → Type 0
HasPages db = HasIndexPages words db

-- the store failed where that is said, and has no room for any page where that is said
abbrev pub IsCaused : Store → Store → CatalogueFault → Type 0
IsCaused old new Memory = Unit {0}
IsCaused old new StoreFailed = Faulted old new
IsCaused old new (Damaged page) = Unit {0}
IsCaused old new StoreFull = old.most ≡ 0
IsCaused old new _ = ⊥

-- how many pages its store has, and how many legs and features its book
pub record Reports (db : DbView) (report : Report) : Type 0 where
  pub pages : report.pages ≡ db.index.cache.store.count
  pub legs : report.legs ≡ length db.book.legs
  pub features : report.features ≡ length db.book.names

-- Helpers of private functions: what a check looks for beside the pages.

-- names of 1 to 255 bytes, no two the same
pub record AreNames (names : List (List ℕ)) : Type 0 where
  pub each : All IsName names
  pub distinct : AllPairs (λ a b. a ≢ b) names

-- the name of that number has 1 to 255 bytes, and is found at its number
abbrev pub IsOwnName : List (List ℕ) → ℕ → Type 0
IsOwnName names feature =
    (name : List ℕ) → slice_get names feature ≡ Some name
    → IsName name × (feature_named names name ≡ Some feature)

-- before the first accepted file there is no name; each row has as many attribute values as the head has columns
pub record FitsHead (of : Option BookHead) (features : ℕ)
    (rows : List (List (List ℕ))) : Type 0 where
  pub none : of ≡ None → features ≡ 0
  pub rows_fit : (head : BookHead) → of ≡ Some head
      → All (λ row. length row ≡ length head.columns) rows

-- the names, the numbers and the rows are those of a book under its limits
pub record KeepsLaw {I : Type 0} (core : CoreView I) : Type 0 where
  pub few_legs : core.tracks.legs ≤ core.limits.legs
  pub few_features : length core.book.names ≤ core.limits.features
  pub names : AreNames core.book.names
  pub head : FitsHead core.book.head (length core.book.names) core.book.rows
