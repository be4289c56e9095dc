-- A store whose pages hold a book.
use Rattle.std.specs.Prelude.{ℕ, ◌≡◌, List, drop, length, slice_get, Option, Some, option_and_then, [], None, IsTrue}
use Rattle.legs.specs.Book.{Book}
use Rattle.legs.specs.Costs.{ShapeView}
use Rattle.legs.specs.Law.{IsBook}
use Rattle.legs.specs.Limits.{LimitsView}
use Rattle.legs.specs.Tracks.{StandsFor}
use Rattle.pages.specs.Store.{Store, IsSyncedButFirst, IsLawful, Stays}
use Rattle.pages.specs.Unsealed.{unsealed}
use Rattle.pages.specs.declared.payload.Payload.{Payload}
use Rattle.pagecache.specs.Cache.{fresh, stored_payload, IsClean, payload_of, Cache}
use Rattle.tbtree.specs.declared.tree.Place.{Place}
use Rattle.tbtree.specs.declared.tree.TbTree.{TbTree}
use Rattle.boxsearch.specs.Index.{content, written, IndexView, IsSoundIndex}
use Rattle.header.specs.Front.{IsUnfinished}
use Rattle.register.specs.Lasting.{IsKept, first_fault, ComesFirst, IsReadingFault, IsStop}
use Rattle.register.specs.Saved.{CatalogueView}
use Rattle.chains.specs.Reads.{OnlyReads}
use Rattle.register.specs.declared.fault.CatalogueFault.{CatalogueFault}

-- page 0 as written is the header of a store that is not finished
pub record IsUnfinishedStore (s : Store) : Type 0 where
  pub payload : Payload
  pub is : stored_payload s 0 ≡ Some payload
  pub unfinished : IsUnfinished payload

-- a catalogue is that of a book, which keeps its law
pub record IsOfBook (limits : LimitsView) (book : Book) (c : CatalogueView) : Type 0 where
  pub head : c.head ≡ book.head
  pub limits_are : c.limits ≡ limits
  pub rows : c.rows ≡ book.rows
  pub tracks : StandsFor c.tracks book
  pub law : IsBook limits book

-- the index of a tree and of places over the pages of a store
abbrev pub index_over : Store → TbTree → List Place → ℕ → IndexView
index_over s tree places legs =
    record { cache = fresh s 1; tree = tree; places = places; legs = legs; known = [] }

-- the pages of a finished store hold a book under limits: they keep its catalogue, and a tree of
-- that shape that stands for its legs
pub record HoldsBook (s : Store) (shape : ShapeView) (limits : LimitsView)
    (book : Book) : Type 0 where
  pub catalogue : CatalogueView
  pub tree : TbTree
  pub places : List Place
  pub kept : IsKept (stored_payload s) s.count catalogue tree places
  pub shape_is : tree.shape ≡ shape
  pub of : IsOfBook limits book catalogue
  pub sound : IsSoundIndex (index_over s tree places (length book.legs))
  pub legs : content (index_over s tree places (length book.legs)) ≡ book.legs

-- all pages of a store but page 0 are those of one that holds a book, and are synced
pub record HoldsButFirst (s : Store) (shape : ShapeView) (limits : LimitsView)
    (book : Book) : Type 0 where
  pub whole : Store
  pub holds : HoldsBook whole shape limits book
  pub count : whole.count ≡ s.count
  pub others : drop 1 whole.pages ≡ drop 1 s.pages
  pub synced : IsSyncedButFirst s

-- the payload that page n of these seals
unfoldable pub payload_in : List (List ℕ) → ℕ → Option Payload
payload_in pages n = option_and_then (unsealed n) (slice_get pages n)

-- no page is changed, and the pages as written, of a finished store, keep the catalogue, the tree
-- and the places
pub record IsAtRest (c : CatalogueView) (index : IndexView) : Type 0 where
  pub clean : IsClean index.cache
  pub legs : index.legs ≡ c.tracks.legs
  pub kept : IsKept (payload_in (written index)) (length (written index)) c index.tree index.places

-- a book is opened: the catalogue is its own, and the index is sound, of that shape, and has its
-- legs
pub record AnswersBook (shape : ShapeView) (limits : LimitsView) (book : Book) (c : CatalogueView)
    (index : IndexView) : Type 0 where
  pub shape_is : index.tree.shape ≡ shape
  pub of : IsOfBook limits book c
  pub sound : IsSoundIndex index
  pub legs : content index ≡ book.legs

-- the catalogue and the index are what the pages of a finished store keep, over a faithful one; the cache was only read
pub record IsRestored (cache : Cache) (c : CatalogueView) (index : IndexView) : Type 0 where
  pub kept : IsTrue cache.store.is_faithful
      → IsKept (payload_of cache) cache.count c index.tree index.places
  pub reads : OnlyReads cache index.cache
  pub legs : index.legs ≡ c.tracks.legs
  pub lawful : IsLawful index.cache.store

-- why nothing is restored; the cache that is handed back was only read
pub record NotRestored (old new : Cache) (fault : CatalogueFault) : Type 0 where
  -- a fault of page 0 is returned before any other
  pub first : IsTrue old.store.is_faithful
      → ComesFirst (first_fault old.count (payload_of old 0)) fault
  -- if it is neither memory nor the store, the pages keep nothing
  pub broken : IsTrue old.store.is_faithful → (IsStop fault → ⊥)
      → (c : CatalogueView) (tree : TbTree) (places : List Place)
      → IsKept (payload_of old) old.count c tree places → ⊥
  pub back : OnlyReads old new
  -- `Store` is returned only if the store failed, and `StoreFull` never
  pub caused : IsReadingFault old.store new.store fault

-- what opening a store answers, with a cache of at most so many pages
pub record IsOpened (store : Store) (most : ℕ) (c : CatalogueView)
    (index : IndexView) : Type 0 where
  -- over a faithful store the index is at rest: its pages as written keep this catalogue
  pub rest : IsTrue store.is_faithful → IsAtRest c index
  pub capacity : index.cache.capacity ≡ most
  -- a store whose pages hold a book gives that book
  pub book : IsTrue store.is_faithful → (shape : ShapeView) (limits : LimitsView) (book : Book)
      → HoldsBook store shape limits book → AnswersBook shape limits book c index
  -- a faithful store has a page 0 without a fault
  pub finished : IsTrue store.is_faithful → first_fault store.count (stored_payload store 0) ≡ None
  -- the store stays as it is
  pub stored : Stays store index.cache.store

-- why a store is not opened, which is handed back
pub record NotOpened (old new : Store) (fault : CatalogueFault) : Type 0 where
  -- one that holds a book is refused only if memory runs out or the store fails
  pub holds : IsTrue old.is_faithful → (shape : ShapeView) (limits : LimitsView) (book : Book)
      → HoldsBook old shape limits book → IsStop fault
  -- page 0 comes first
  pub first : IsTrue old.is_faithful
      → ComesFirst (first_fault old.count (stored_payload old 0)) fault
  -- it is as it was
  pub back : Stays old new
  -- `Store` is returned only if the store failed, and `StoreFull` never
  pub caused : IsReadingFault old new fault
