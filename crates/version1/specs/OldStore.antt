-- A finished store of version 1, as it is read to be brought over. Its page 0 has another version, leaves of up to 63
-- legs, and no dimension, which was 2; its catalogue is that of the present version.
use Rattle.std.specs.Prelude.{ℕ, ◌≡◌, ◌≤◌, ◌++◌, nat_lt, min, false, if◌then◌else◌, List, length, Option, Some, None, ◌<◌, ◌⊎◌, IsTrue, Result, IfErr, IfOk, OnOk}
use Rattle.std.specs.Int.{div_ceil}
use Rattle.byteorder.specs.Endian.{big_bytes}
use Rattle.legs.specs.Book.{Book}
use Rattle.legs.specs.Costs.{ShapeView}
use Rattle.legs.specs.Limits.{IsLimits, LimitsView}
use Rattle.pages.specs.Store.{Store as StoreView, Faulted, Stays}
use Rattle.pages.specs.declared.payload.Payload.{Payload}
use Rattle.pagecache.specs.Cache.{stored_payload, fresh, Cache}
use Rattle.tbnode.specs.Parts.{part}
use Rattle.treecheck.specs.Check.{HoldLegs}
use Rattle.tbtree.specs.declared.tree.Place.{Place}
use Rattle.tbtree.specs.declared.tree.TbTree.{TbTree}
use Rattle.version1.specs.OldLegs.{pages_of_old}
use Rattle.register.specs.Chain.{most_used, text_at}
use Rattle.header.specs.Fields.{FitsFields, SaysShape}
use Rattle.catalogue.specs.Holding.{IsOfBook}
use Rattle.register.specs.Lasting.{front_fault, IsLawfulCatalogue, IsWithin, ComesFirst, IsReadingFault, IsStop}
use Rattle.header.specs.Front.{front_of}
use Rattle.register.specs.Saved.{dimensions_of, fields_for, CatalogueView}
use Rattle.register.specs.Saving.{contents_of}
use Rattle.register.specs.Text.{catalogue_text, IsWhole}
use Rattle.register.specs.declared.fault.CatalogueFault.{CatalogueFault}
use Rattle.register.specs.declared.fault.CatalogueFault.TheVariants.{Damaged, Malformed, Memory, Store}
use Rattle.header.specs.declared.header_fields.Fields.{Fields}
use Rattle.chains.specs.Reads.{OnlyReads}
use Rattle.register.specs.ChainReader.{rest_of, IsBroken, IsReadFault, ReaderView}
use Rattle.version1.specs.declared.old_header.OldFields.{OldFields}

-- a leaf has room for 2 to 63 legs, an inner page for 2 to 72 entries
pub record IsOldShape (shape : ShapeView) : Type 0 where
  pub least_leaf : 2 ≤ shape.leaf
  pub most_leaf : shape.leaf ≤ 63
  pub least_inner : 2 ≤ shape.inner
  pub most_inner : shape.inner ≤ 72

-- the shape of the present version that comes nearest: a leaf has room for 50 legs at most
abbrev pub present_shape : ShapeView → ShapeView
present_shape shape = record { leaf = min shape.leaf 50; inner = shape.inner }

-- the shape and the limits; the root of the tree, its levels and its leaves, four bytes each; the first page of the
-- catalogue, in four, and the length of its text, in eight
unfoldable pub old_fields_bytes : Fields → List ℕ
old_fields_bytes f =
    big_bytes 2 f.shape.leaf
    ++ (big_bytes 2 f.shape.inner
    ++ (big_bytes 8 f.limits.legs ++ (big_bytes 8 f.limits.features
    ++ (big_bytes 4 f.root
    ++ (big_bytes 4 f.levels
    ++ (big_bytes 4 f.leaves ++ (big_bytes 4 f.first ++ big_bytes 8 f.length)))))))

-- the 44 bytes behind the first 12 say these; what stands behind them may be anything
pub record HasOldFields (payload : Payload) (f : Fields) : Type 0 where
  pub fields : part 12 44 payload.bytes ≡ old_fields_bytes f

-- what is wrong with the header of a store, which is to have version 1
unfoldable pub old_header_fault : Payload → Option CatalogueFault
old_header_fault payload = front_fault 1 (front_of payload)

-- with page 0: a store has one, and it has a payload
abbrev pub old_payload_fault : Option Payload → Option CatalogueFault
old_payload_fault None = Some (Damaged 0)
old_payload_fault (Some payload) = old_header_fault payload

-- what is wrong with page 0 of a store of so many pages, which is to be of version 1
abbrev pub old_first_fault : ℕ → Option Payload → Option CatalogueFault
old_first_fault count first = if nat_lt 0 count then old_payload_fault first else Some Malformed

-- page 0 of so many pages says the limits, the tree and where the text of a catalogue of two dimensions is, and the
-- text is there
pub record SaysOld (at : ℕ → Option Payload) (count : ℕ) (c : CatalogueView) (tree : TbTree)
    (places : List Place) : Type 0 where
  pub first : ℕ
  pub length : ℕ
  pub payload : Payload
  pub is : at 0 ≡ Some payload
  pub fields : HasOldFields payload (fields_for c.limits c.head tree first length)
  pub fits : FitsFields (fields_for c.limits c.head tree first length)
  pub shape : IsOldShape tree.shape
  pub limits : IsLimits c.limits
  pub dimension : dimensions_of c.head ≡ 2
  pub few : div_ceil length most_used ≤ count
  pub text : text_at at length first ≡ Some (catalogue_text (contents_of c places))

-- the pages of a finished store of version 1 keep a catalogue, a tree and the places of its features; in the text of
-- the catalogue all fits, and each row has a value for each column
pub record IsKeptOld (at : ℕ → Option Payload) (count : ℕ) (c : CatalogueView) (tree : TbTree)
    (places : List Place) : Type 0 where
  pub says : SaysOld at count c tree places
  pub whole : IsWhole (contents_of c places)
  pub finished : old_payload_fault (at 0) ≡ None
  pub within : IsWithin count tree
  pub works : tree.spent ≡ false
  pub lawful : IsLawfulCatalogue count c places

-- the pages of a finished store of version 1 hold a book under limits: they keep its catalogue, and a tree of that
-- shape that holds its legs
pub record HoldsOldBook (s : StoreView) (shape : ShapeView) (limits : LimitsView)
    (book : Book) : Type 0 where
  pub catalogue : CatalogueView
  pub tree : TbTree
  pub places : List Place
  pub kept : IsKeptOld (stored_payload s) s.count catalogue tree places
  pub shape_is : tree.shape ≡ shape
  pub of : IsOfBook limits book catalogue
  pub hold : HoldLegs (pages_of_old s) tree (length book.rows) (length book.legs) places
      catalogue.tracks.tracks
  pub legs : hold.legs ≡ book.legs

-- what is read of the pages of a finished store of version 1 is kept there: a catalogue and the places of its
-- features, with a tree whose leaves have room for so many legs, and the shape of the present version that comes
-- nearest to its own
pub record AnswersOld (at : ℕ → Option Payload) (count : ℕ) (c : CatalogueView) (leaf : ℕ)
    (shape : ShapeView) (places : List Place) : Type 0 where
  pub tree : TbTree
  pub kept : IsKeptOld at count c tree places
  pub leaf_is : tree.shape.leaf ≡ leaf
  pub shape_is : shape ≡ present_shape tree.shape

-- why a lent store is not read on, as a cache over it that holds no page is not
abbrev pub IsLentFault : StoreView → StoreView → CatalogueFault → Type 0
IsLentFault old new = IsReadFault (fresh old 1) (fresh new 1)

-- a faithful store has these pages
pub record ShowsStored (s : StoreView) (at : ℕ → Option Payload) : Type 0 where
  pub faithful : IsTrue s.is_faithful
  pub same : (p : ℕ) → at p ≡ stored_payload s p

-- why page n is not read: it is not there, or damaged, or the store failed
abbrev pub IsUnread : ℕ → StoreView → StoreView → CatalogueFault → Type 0
IsUnread n old new Store = Faulted old new
IsUnread n old new (Damaged page) =
    (page ≡ n) × (n < old.count) × (IsTrue old.is_faithful → stored_payload old n ≡ None)
IsUnread n old new Malformed = old.count ≤ n
IsUnread n old new _ = ⊥

-- what a chain of a lent store is read to, and why it is not
pub record ReadsOn (old new : StoreView) (from to : ReaderView)
    (result : Result (Unit {0}) CatalogueFault) : Type 0 where
  pub same : OnOk result ((at : ℕ → Option Payload) → ShowsStored old at
      → rest_of at to ≡ rest_of at from)
  pub broken : IfErr result (λ e. (at : ℕ → Option Payload) → ShowsStored old at → IsBroken e
      → rest_of at from ≡ None)
  pub stays : Stays old new
  pub caused : IfErr result (IsLentFault old new)

-- the bytes of a payload say a shape of version 1, of this leaf and of the inner page of this
-- shape, which comes nearest
pub record SaysOldShape (bytes : List ℕ) (leaf : ℕ) (shape : ShapeView) : Type 0 where
  pub says : SaysShape bytes (record { leaf = leaf; inner = shape.inner })
  pub in_range : IsOldShape (record { leaf = leaf; inner = shape.inner })
  pub nearest : shape.leaf ≡ min leaf 50

-- the fields as they are written: their leaf is that of version 1
abbrev pub as_written : OldFields → Fields
as_written old =
    record old.fields { shape = record { leaf = old.leaf; inner = old.fields.shape.inner } }

-- what stands behind the first 12 bytes of a header of version 1 says these
pub record SaysOldBody (payload : Payload) (old : OldFields) : Type 0 where
  pub has : HasOldFields payload (as_written old)
  pub fits : FitsFields old.fields
  pub shape : IsOldShape (record { leaf = old.leaf; inner = old.fields.shape.inner })
  pub nearest : old.fields.shape.leaf ≡ min old.leaf 50
  pub limits : IsLimits old.fields.limits
  pub dimension : old.fields.dimension ≡ 2

-- page 0 of so many is the header of a finished store of version 1, and says these
pub record SaysOldFields (count : ℕ) (first : Option Payload) (old : OldFields) : Type 0 where
  pub some : 0 < count
  pub payload : Payload
  pub is : first ≡ Some payload
  pub finished : old_header_fault payload ≡ None
  pub body : SaysOldBody payload old

-- why a header says nothing
pub record IsOldHeaderFault (payload : Payload) (fault : CatalogueFault) : Type 0 where
  pub first : ComesFirst (old_header_fault payload) fault
  pub none : old_header_fault payload ≡ None → (old : OldFields) → SaysOldBody payload old → ⊥

-- why page 0 of a store says no header of version 1
pub record NoOldHeader (old new : StoreView) (fault : CatalogueFault) : Type 0 where
  pub first : IsTrue old.is_faithful
      → ComesFirst (old_first_fault old.count (stored_payload old 0)) fault
  pub broken : IsTrue old.is_faithful → (IsStop fault → ⊥) → (fields : OldFields)
      → SaysOldFields old.count (stored_payload old 0) fields → ⊥
  pub caused : IsReadingFault old new fault

-- one of two stores failed where that is said, of which the first is lent; and nothing is said of a full or unfinished
-- store
abbrev pub IsBringingFault : (old new below after : StoreView) → CatalogueFault → Type 0
IsBringingFault old new below after Memory = Unit {0}
IsBringingFault old new below after Store = Faulted old new ⊎ Faulted below after
IsBringingFault old new below after (Damaged page) = Unit {0}
IsBringingFault old new below after Malformed = Unit {0}
IsBringingFault old new below after _ = ⊥

-- what is read of the pages of a lent store, beside a cache of a new store that is asked for none, or why nothing is
pub record ReadsLent {T : Type 0} (old new : StoreView) (below after : Cache)
    (is_read : (ℕ → Option Payload) → T → Type 0) (none : (ℕ → Option Payload) → Type 0)
    (result : Result T CatalogueFault) : Type 0 where
  pub is : IfOk result (λ v. IsTrue below.store.is_faithful → (at : ℕ → Option Payload)
      → ShowsStored old at → is_read at v)
  pub broken : IfErr result (λ e. IsTrue below.store.is_faithful → (at : ℕ → Option Payload)
      → ShowsStored old at → IsBroken e → none at)
  pub stays : Stays old new
  pub reads : OnlyReads below after
  pub caused : IfErr result (IsBringingFault old new below.store after.store)
