-- A store of version 1 that is brought over into a new store.
use Rattle.std.specs.Prelude.{ℕ, ◌≡◌, ◌≤◌, ◌⊎◌, List, [], None, IsErrOf, IsTrue, Result, ◌++◌, IfErr, OnOk}
use Rattle.legs.specs.Asking.{IsLater}
use Rattle.legs.specs.Book.{Book}
use Rattle.legs.specs.Costs.{ShapeView}
use Rattle.legs.specs.Index.{HasRisen, MayRefuseLeg, CanFollowInTurn}
use Rattle.legs.specs.Legs.{LegView}
use Rattle.legs.specs.Limits.{LimitsView}
use Rattle.legs.specs.Tracks.{TracksView}
use Rattle.legs.specs.declared.index.IndexFault.{IndexFault}
use Rattle.legs.specs.declared.listed.Listed.{Ghosts}
use Rattle.pages.specs.Store.{Store as StoreView, Faulted, Stays}
use Rattle.pagecache.specs.Cache.{stored_payload}
use Rattle.treecheck.specs.Check.{HoldChains}
use Rattle.treecheck.specs.Checking.{Agree}
use Rattle.tbtree.specs.declared.tree.Place.{Place}
use Rattle.boxsearch.specs.Index.{content, IndexView, IsMarked, IsSoundIndex}
use Rattle.version1.specs.OldLegs.{pages_of_old}
use Rattle.version1.specs.OldStore.{old_first_fault, present_shape, AnswersOld, HoldsOldBook}
use Rattle.catalogue.specs.Holding.{AnswersBook}
use Rattle.register.specs.Lasting.{ComesFirst}
use Rattle.register.specs.Saved.{CatalogueView}
use Rattle.register.specs.Saving.{IsSavingStop}
use Rattle.register.specs.declared.fault.CatalogueFault.{CatalogueFault}
use Rattle.register.specs.declared.fault.CatalogueFault.TheVariants.{Memory, Store, StoreFull, Damaged, Malformed}
use Rattle.legs.specs.declared.index.IndexFault.TheVariants as index

-- how a fault of bringing legs over is answered
abbrev pub brought_fault : IndexFault → CatalogueFault
brought_fault index.Memory = Memory
brought_fault index.Store = Store
brought_fault (index.Damaged page) = Damaged page
brought_fault index.StoreFull = StoreFull
brought_fault index.Spent = Malformed

-- what the pages of a finished store of version 1 keep is brought over: the catalogue, the shape that comes nearest,
-- and the list of legs that the chains of its features hold, of which the index is sound
pub record IsBrought (s : StoreView) (c : CatalogueView) (index : IndexView) : Type 0 where
  pub leaf : ℕ
  pub places : List Place
  pub kept : AnswersOld (stored_payload s) s.count c leaf index.tree.shape places
  pub sound : IsSoundIndex index
  pub legs : HoldChains (pages_of_old s) leaf c.tracks.rows c.tracks.legs places c.tracks.tracks
      (content index)

-- one of two stores failed where that is said, and the second, which is new, is full where that is said
abbrev pub IsMigratingFault : (old after new left : StoreView) → CatalogueFault → Type 0
IsMigratingFault old after new left Store = Faulted old after ⊎ Faulted new left
IsMigratingFault old after new left StoreFull = left.count ≡ left.most
IsMigratingFault old after new left _ = Unit {0}

-- what is read of a store of version 1 beside its legs, where the new store is faithful too
pub record IsReadOld (s new : StoreView) (c : CatalogueView) (leaf : ℕ) (shape : ShapeView)
    (places : List Place) : Type 0 where
  pub room : 2 ≤ leaf
  pub kept : IsTrue s.is_faithful → IsTrue new.is_faithful
      → AnswersOld (stored_payload s) s.count c leaf shape places
  pub finished : IsTrue s.is_faithful → old_first_fault s.count (stored_payload s 0) ≡ None

-- what bringing a store of version 1 over into a new one answers
pub record IsMigrated (s new : StoreView) (c : CatalogueView) (index : IndexView) : Type 0 where
  -- what the pages keep is brought over
  pub brought : IsTrue s.is_faithful → IsTrue new.is_faithful → IsBrought s c index
  -- a store whose pages hold a book gives that book
  pub book : IsTrue s.is_faithful → IsTrue new.is_faithful
      → (shape : ShapeView) (limits : LimitsView) (book : Book) → HoldsOldBook s shape limits book
      → AnswersBook (present_shape shape) limits book c index
  -- page 0 of the new store says that it is not finished
  pub marked : IsTrue s.is_faithful → IsTrue new.is_faithful → IsMarked index.cache
  -- the store is a finished one of version 1
  pub finished : IsTrue s.is_faithful → old_first_fault s.count (stored_payload s 0) ≡ None
  -- the new store's count of faults did not fall
  pub faults : new.faults ≤ index.cache.store.faults

-- why a store of version 1 is not brought over into a new one
pub record NotMigrated (s after new left : StoreView) (fault : CatalogueFault) : Type 0 where
  -- one that holds a book is refused only if memory runs out, a store fails, or the new one is full
  pub holds : IsTrue s.is_faithful → IsTrue new.is_faithful
      → (shape : ShapeView) (limits : LimitsView) (book : Book) → HoldsOldBook s shape limits book
      → IsSavingStop fault
  -- a fault of its page 0 is returned before any other
  pub first : IsTrue s.is_faithful
      → ComesFirst (old_first_fault s.count (stored_payload s 0)) fault
  -- `Store` is returned only if a store failed, and `StoreFull` only if the new one is full
  pub caused : IsMigratingFault s after new left fault

-- what taking legs of a lent store into an index leaves, and which store failed or is full
pub record TakesFrom {I : Type 0} (g : Ghosts I) (s after : StoreView) (old new : I)
    (result : Result (Unit {0}) IndexFault) : Type 0 where
  pub stays : Stays s after
  pub later : IsLater g old new
  pub store : IsErrOf result index.Store → Faulted s after ⊎ HasRisen (g.faults old) (g.faults new)
  pub full : IsErrOf result index.StoreFull → g.is_store_full new

-- a faithful store, and a sound index without legs
pub record IsReady {I : Type 0} (g : Ghosts I) (s : StoreView) (index : I) : Type 0 where
  pub faithful : IsTrue s.is_faithful
  pub sound : g.is_sound index
  pub empty : g.content index ≡ []

-- what taking all of them promises, which are in leaves of so many
pub record TakesLegs {I : Type 0} (g : Ghosts I) (s after : StoreView) (most rows : ℕ)
    (tracks : TracksView) (places : List Place) (old new : I)
    (result : Result (Unit {0}) IndexFault) : Type 0 where
  -- what comes into an index without legs is the list that the chains of a faithful store hold
  pub brought : OnOk result (IsReady g s old → g.is_sound new
      × HoldChains (pages_of_old s) most rows tracks.legs places tracks.tracks (g.content new))
  -- whole chains are brought, but for memory, a store that failed, or a full one
  pub only : IfErr result (λ fault. IsReady g s old → Agree tracks rows tracks.legs
      → (legs : List LegView)
      → HoldChains (pages_of_old s) most rows tracks.legs places tracks.tracks legs
      → MayRefuseLeg fault)
  -- an index that was marked stays marked, on an error too
  pub marked : IsReady g s old → g.is_marked old → g.is_marked new
  -- the store is only read
  pub takes : TakesFrom g s after old new result

-- a sound index, and legs that may be put behind its own, one after another
abbrev pub MayWait : {I : Type 0} → Ghosts I → I → List LegView → Type 0
MayWait g index waiting = g.is_sound index × CanFollowInTurn (g.content index) waiting

-- an index is sound, and its legs, with those that wait, are those that were in it or waited
pub record Holds {I : Type 0} (g : Ghosts I) (old new : I)
    (before after : List LegView) : Type 0 where
  pub may : MayWait g new after
  pub content : g.content new ++ after ≡ g.content old ++ before

-- what putting legs that wait into an index leaves, and why it is refused
pub record PutsWaiting {I : Type 0} (g : Ghosts I) (before after : List LegView) (old new : I)
    (result : Result (Unit {0}) IndexFault) : Type 0 where
  pub holds : OnOk result (MayWait g old before → Holds g old new before after)
  pub only : IfErr result (λ fault. MayWait g old before → MayRefuseLeg fault)
  pub marked : MayWait g old before → g.is_marked old → g.is_marked new
  pub store : IsErrOf result IndexFault.Store → HasRisen (g.faults old) (g.faults new)
  pub full : IsErrOf result IndexFault.StoreFull → g.is_store_full new
  pub later : IsLater g old new
