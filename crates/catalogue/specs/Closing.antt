-- A store that is closed.
use Rattle.std.specs.Prelude.{◌≡◌, ◌⊎◌, IfErr, OnErr, OnOk, Result}
use Rattle.legs.specs.Book.{Book}
use Rattle.pages.specs.Store.{Store as StoreView, Faulted, IsSynced, IsSyncedButFirst, Keeps}
use Rattle.boxsearch.specs.Index.{content, IndexView, IsMarked, IsSoundIndex}
use Rattle.register.specs.Saved.{CatalogueView}
use Rattle.register.specs.Saving.{IsSavingStop}
use Rattle.register.specs.declared.fault.CatalogueFault.{CatalogueFault}
use Rattle.register.specs.declared.fault.CatalogueFault.TheVariants.{Memory, Store, StoreFull, Damaged, Malformed}
use Rattle.catalogue.specs.Holding.{HoldsBook, HoldsButFirst, IsOfBook, IsUnfinishedStore}

-- memory ran out, or the store is full: the store did not fail
abbrev pub IsNoStoreFault : CatalogueFault → Type 0
IsNoStoreFault Memory = Unit {0}
IsNoStoreFault StoreFull = Unit {0}
IsNoStoreFault _ = ⊥

-- the store failed where that is said, and is full where that is said
abbrev pub IsClosingFault : StoreView → StoreView → CatalogueFault → Type 0
IsClosingFault old new Memory = Unit {0}
IsClosingFault old new Store = Faulted old new
IsClosingFault old new StoreFull = new.count ≡ new.most
IsClosingFault old new (Damaged page) = Unit {0}
IsClosingFault old new Malformed = Unit {0}
IsClosingFault old new _ = ⊥

-- it holds of each book that a sound index and a catalogue are of
abbrev pub OfBook : CatalogueView → IndexView → (Book → Type 0) → Type 0
OfBook c index holds =
    (book : Book) → IsOfBook c.limits book c → content index ≡ book.legs → holds book

-- what `close` of a catalogue and an index promises of the store that is left
pub record CloseStoreCall (c : CatalogueView) (index : IndexView) (left : StoreView)
    (result : Result (Unit {0}) CatalogueFault) : Type 0 where
  -- it then holds the book that index and catalogue are of
  pub holds : OnOk result (IsSoundIndex index → IsMarked index.cache
      → OfBook c index (λ book. HoldsBook left index.tree.shape c.limits book))
  -- after `Ok` every page is synced, and no sync of the store ever failed
  pub synced : OnOk result (IsSynced left)
  -- closing the index of a book fails only if memory runs out, or the store fails or is full
  pub only : IfErr result (λ fault. IsSoundIndex index → OfBook c index (λ _. IsSavingStop fault))
  -- if memory runs out or the store is full, a marked store says that it is not finished
  pub unfinished : IfErr result (λ fault. IsNoStoreFault fault → IsMarked index.cache
      → IsUnfinishedStore left)
  -- before page 0 may say that the store is finished, all else is written and synced
  pub refused : OnErr result (IsSoundIndex index → IsMarked index.cache → OfBook c index
      (λ book. IsUnfinishedStore left ⊎ HoldsButFirst left index.tree.shape c.limits book))
  -- on an error a marked store is unfinished, or all its pages but page 0 are synced
  pub ordered : OnErr result (IsMarked index.cache
      → IsUnfinishedStore left ⊎ IsSyncedButFirst left)
  -- it is the same store, and its count of faults did not fall
  pub keeps : Keeps index.cache.store left
  -- `Store` is returned only if the store failed, and `StoreFull` only if it is full
  pub caused : IfErr result (IsClosingFault index.cache.store left)
