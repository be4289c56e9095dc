-- A catalogue that is saved, and helpers of the private functions that save it.
use Rattle.std.specs.Prelude.{ℕ, ◌≡◌, ◌≢◌, ◌<◌, ◌≤◌, ◌^◌, ◌++◌, List, [], map, take, drop, length, Option, Some, None, unwrap_or, slice_get, All, IsTrue, Result, IsErrOf, OnOk, IfOk, IfErr, ℤ, pos}
use Rattle.std.specs.Int.{div_ceil}
use Rattle.std.specs.Option.{option_map}
use Rattle.std.specs.List.{range_with_len}
use Rattle.legs.specs.declared.head.BookHead.{BookHead}
use Rattle.legs.specs.declared.tracks.Track.{Track}
use Rattle.legs.specs.Tracks.{TracksView}
use Rattle.pages.specs.Store.{Faulted, IsSynced}
use Rattle.pages.specs.declared.payload.Payload.{Payload}
use Rattle.pagecache.specs.Cache.{Cache, Lends, payload_of, IsWritten, KeepsPayloads, SameLength}
use Rattle.chains.specs.Reads.{OnlyReads}
use Rattle.header.specs.Fields.{FitsFields, HasFields}
use Rattle.legs.specs.Limits.{IsLimits}
use Rattle.tbtree.specs.Shape.{IsShape}
use Rattle.header.specs.declared.header_fields.Fields.{Fields}
use Rattle.tbtree.specs.Passes.{KeepsLength, Passes}
use Rattle.tbtree.specs.Stands.{no_place}
use Rattle.tbtree.specs.declared.tree.Place.{Place}
use Rattle.register.specs.Chain.{most_used}
use Rattle.register.specs.ChainWriter.{HasText, Holds, WriterView}
use Rattle.register.specs.Saved.{head_of, CatalogueView, SparesTree}
use Rattle.register.specs.Text.{catalogue_text, IsWhole}
use Rattle.register.specs.declared.contents.Contents.{Contents}
use Rattle.register.specs.declared.contents.Feature.{Feature}
use Rattle.register.specs.declared.fault.CatalogueFault.{CatalogueFault}
use Rattle.register.specs.declared.fault.CatalogueFault.TheVariants.{Memory, Store, StoreFull, Unfinished, Version}

-- when a feature's last leg ends
abbrev pub end_of : Option Track → ℤ
end_of None = pos 0
end_of (Some track) = track.end

-- the feature of that number
unfoldable pub feature_at : TracksView → List Place → ℕ → Feature
feature_at tracks places feature = record {
  name = unwrap_or (slice_get tracks.names feature) [];
  kept = record {
    end = end_of (slice_get tracks.tracks feature);
    place = unwrap_or (slice_get places feature) no_place;
  };
}

-- the features of a database
abbrev pub features_of : TracksView → List Place → List Feature
features_of tracks places = map (feature_at tracks places) (range_with_len 0 (length tracks.names))

-- what the text of a catalogue says
abbrev pub contents_of : CatalogueView → List Place → Option Contents
contents_of c places =
    option_map (λ head.
    record {
      head = head_of head;
      lists = record { features = features_of c.tracks places; rows = c.rows };
    }) c.head

-- there are as few features and rows as four bytes can say
pub record HasFew (c : CatalogueView) : Type 0 where
  pub features : length c.tracks.names < 2 ^ 32
  pub rows : length c.rows < 2 ^ 32

-- and each row has a value for each column
pub record IsCatalogue (c : CatalogueView) : Type 0 where
  pub few : HasFew c
  pub rows : (head : BookHead) → c.head ≡ Some head
      → All (λ row. length row ≡ length head.columns) c.rows

-- the refusals over pages that are sound
abbrev pub IsSavingStop : CatalogueFault → Type 0
IsSavingStop Memory = Unit {0}
IsSavingStop Store = Unit {0}
IsSavingStop StoreFull = Unit {0}
IsSavingStop _ = ⊥

-- the store failed where that is said, and is full where that is said
abbrev pub IsCaused : Cache → Cache → CatalogueFault → Type 0
IsCaused old new Store = Faulted old.store new.store
IsCaused old new StoreFull = new.count ≡ new.store.most
IsCaused old new Unfinished = ⊥
IsCaused old new Version = ⊥
IsCaused old new _ = Unit {0}

-- why not all is written
abbrev pub IsNotWritten : Cache → Cache → CatalogueFault → Type 0
IsNotWritten old new Memory = Unit {0}
IsNotWritten old new Store = Faulted old.store new.store
IsNotWritten old new _ = ⊥

-- these bytes are put at the end of a text, of which some pages may be written; what is whole then,
-- and why it is refused where there are few enough
pub record Puts (bytes : List ℕ) (are_few is_whole : Type 0) (old new : Cache) (w v : WriterView)
    (result : Result (Unit {0}) CatalogueFault) : Type 0 where
  pub passes : Passes old new
  pub holds : OnOk result ((text : List ℕ) → Holds old w text → Holds new v (text ++ bytes))
  pub length : OnOk result (KeepsLength old new)
  pub tree : (text : List ℕ) → Holds old w text → SparesTree old new
  pub whole : OnOk result is_whole
  pub only : are_few → (text : List ℕ) → Holds old w text → IsTrue old.store.is_faithful
      → IfErr result IsSavingStop
  pub caused : IfErr result (IsCaused old new)

-- the text of a catalogue is put into a chain of pages: its first page, and its length
pub record PutsText (c : CatalogueView) (places : List Place) (old new : Cache)
    (result : Result (ℕ × ℕ) CatalogueFault) : Type 0 where
  pub passes : Passes old new
  pub tree : SparesTree old new
  pub length : OnOk result (KeepsLength old new)
  pub text : IfOk result (λ r. IsTrue old.store.is_faithful
      → HasText new r.1 r.0 (catalogue_text (contents_of c places))
      × (div_ceil r.1 most_used ≤ new.count))
  pub whole : OnOk result (IsCatalogue c → IsWhole (contents_of c places))
  pub only : HasFew c → IsTrue old.store.is_faithful → IfErr result IsSavingStop
  pub caused : IfErr result (IsCaused old new)

-- what writing all that is changed to the store leaves, and why it is refused
pub record WritesAll (old new : Cache) (result : Result (Unit {0}) CatalogueFault) : Type 0 where
  -- after `Ok` no page is changed, and the store's pages seal the payloads
  pub written : OnOk result (IsWritten new)
  -- after `Ok` every page is synced, and no sync of the store ever failed
  pub synced : OnOk result (IsSynced new.store)
  -- no payload changes, on an error too
  pub stays : KeepsPayloads old new
  -- the store has as many pages as before
  pub length : SameLength old new
  -- no page is asked for
  pub asked : new.asked ≡ old.asked
  -- no page that was not changed is written
  pub reads : OnlyReads old new
  -- if memory runs out, the cache is as it was
  pub memory : IsErrOf result Memory → new ≡ old
  -- it fails only if memory runs out, or the store failed
  pub caused : IfErr result (IsNotWritten old new)

-- page 0 has a payload
abbrev pub HasPageZero : Cache → Type 0
HasPageZero c = IsTrue c.store.is_faithful → payload_of c 0 ≢ None

-- page 0 says these fields, which fit, and begins and ends as it did; no other page has another payload
pub record PutsFields (fields : Fields) (old new : Cache) : Type 0 where
  pub was : Payload
  pub now : Payload
  pub before : IsTrue old.store.is_faithful → payload_of old 0 ≡ Some was
  pub lends : Lends 0 now old new
  pub has : HasFields now fields
  pub fits : FitsFields fields
  pub shape : IsShape fields.shape
  pub limits : IsLimits fields.limits
  pub kind : now.kind ≡ was.kind
  pub front : take 12 now.bytes ≡ take 12 was.bytes
  pub rest : drop 60 now.bytes ≡ drop 60 was.bytes

-- why page 0 is not lent
pub record RefusesFirst {T : Type 0} (old new : Cache) (result : Result T CatalogueFault) : Type 0
  where
    pub only : IsTrue old.store.is_faithful → 0 < old.count → HasPageZero old
        → IfErr result IsSavingStop
    pub caused : IfErr result (IsCaused old new)
