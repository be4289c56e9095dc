-- Helpers of private functions: a catalogue that is being read back, and made of what its text says.
use Rattle.std.specs.Prelude.{ℕ, ◌≡◌, ◌≢◌, ◌+◌, ◌-◌, ◌^◌, ◌++◌, ◌∷◌, [], min, false, List, map, All, AllPairs, Option, ◌≤◌, ◌<◌, Some, None, Result, Ok, Err, IfOk, IfErr, IsTrue, length}
use Rattle.legs.specs.Tracks.{TracksView}
use Rattle.legs.specs.declared.tracks.Track.{Track}
use Rattle.mfcsv.specs.declared.Dimension.{Dimension}
use Rattle.mfcsv.specs.declared.Dimension.TheVariants.{Two, Three}
use Rattle.tbtree.specs.declared.tree.Place.{Place}
use Rattle.tbtree.specs.declared.tree.TbTree.{TbTree}
use Rattle.register.specs.Saved.{dimensions_of, CatalogueView}
use Rattle.register.specs.Saving.{contents_of}
use Rattle.register.specs.Lasting.{tracks_of, IsLawfulCatalogue, IsLawfulFeature, first_fault, header_fault, ComesFirst, IsReadingFault, IsStop, IsWithin}
use Rattle.register.specs.declared.building.Known.{Known}
use Rattle.register.specs.declared.contents.Contents.{Contents}
use Rattle.register.specs.declared.contents.Feature.{Feature}
use Rattle.header.specs.declared.header_fields.Fields.{Fields}
use Rattle.std.specs.Int.{div_ceil}
use Rattle.legs.specs.Limits.{IsLimits}
use Rattle.pages.specs.declared.payload.Payload.{Payload}
use Rattle.pagecache.specs.Cache.{payload_of, Cache}
use Rattle.chains.specs.Reads.{OnlyReads}
use Rattle.tbtree.specs.Shape.{IsShape}
use Rattle.register.specs.Chain.{most_used, text_at}
use Rattle.header.specs.Fields.{FitsFields, HasFields}
use Rattle.register.specs.Text.{catalogue_text, IsWhole, features_bytes, head_text, AreCounted, IsFeature, IsHead}
use Rattle.register.specs.declared.fault.CatalogueFault.{CatalogueFault}
use Rattle.register.specs.declared.summary.BeforeRows.{BeforeRows}
use Rattle.register.specs.declared.summary.Summary.{Summary}

-- a feature more; 2^64 - 1 stands for any greater number of legs
abbrev pub with_track : TracksView → List ℕ → Track → TracksView
with_track tracks name track =
    record {
      names = tracks.names ++ name ∷ [];
      tracks = tracks.tracks ++ track ∷ [];
      legs = min (tracks.legs + track.legs) (2 ^ 64 - 1);
      rows = tracks.rows;
    }

-- a feature more, which is lawful among so many pages, and has a name of its own
pub record AddsFeature (count : ℕ) (feature : Feature) (old new : Known) : Type 0 where
  pub lawful : IsLawfulFeature count feature
  pub apart : All (λ n. n ≢ feature.name) old.tracks.names
  pub tracks : new.tracks
      ≡ with_track old.tracks feature.name
      (record { end = feature.kept.end; legs = feature.kept.place.legs })
  pub places : new.places.items ≡ old.places.items ++ feature.kept.place ∷ []

-- features that are lawful among so many pages, and have names of their own
pub record AreLawful (count : ℕ) (features : List Feature) : Type 0 where
  pub each : All (IsLawfulFeature count) features
  pub apart : AllPairs (λ a b. a ≢ b) (map (λ f. f.name) features)

-- 2^64 - 1 stands for any greater number of legs
abbrev pub capped : TracksView → TracksView
capped tracks = record tracks { legs = min tracks.legs (2 ^ 64 - 1) }

-- these features are known, and are lawful
pub record IsKnown (count : ℕ) (features : List Feature) (known : Known) : Type 0 where
  pub tracks : known.tracks ≡ capped (tracks_of features 0)
  pub places : known.places.items ≡ map (λ f. f.kept.place) features
  pub lawful : AreLawful count features

-- how many coordinates a position has in a dimension
abbrev pub number_of : Dimension → ℕ
number_of Two = 2
number_of Three = 3

-- the tree that page 0 says
abbrev pub tree_of : Fields → TbTree
tree_of f =
    record { root = f.root; levels = f.levels; leaves = f.leaves; shape = f.shape; spent = false }

-- a lawful catalogue and places are what page 0 of so many pages and the text say
pub record IsOf (count : ℕ) (fields : Fields) (contents : Option Contents) (c : CatalogueView)
    (places : List Place) : Type 0 where
  pub contents_are : contents_of c places ≡ contents
  pub limits : c.limits ≡ fields.limits
  pub dimension : dimensions_of c.head ≡ fields.dimension
  pub lawful : IsLawfulCatalogue count c places

-- a fault is answered, if there is one
abbrev pub result_of : Option CatalogueFault → Result (Unit {0}) CatalogueFault
result_of None = Ok tt
result_of (Some fault) = Err fault

-- the header of a finished store says these
pub record HeaderSays (payload : Payload) (fields : Fields) : Type 0 where
  pub finished : header_fault payload ≡ None
  pub has : HasFields payload fields
  pub fits : FitsFields fields
  pub shape : IsShape fields.shape
  pub limits : IsLimits fields.limits

-- page 0 of so many is such a header
pub record SaysFields (count : ℕ) (first : Option Payload) (fields : Fields) : Type 0 where
  pub some : 0 < count
  pub payload : Payload
  pub is : first ≡ Some payload
  pub says : HeaderSays payload fields

-- why a header says nothing
pub record IsHeaderFault (payload : Payload) (fault : CatalogueFault) : Type 0 where
  pub first : ComesFirst (header_fault payload) fault
  pub none : (fields : Fields) → HeaderSays payload fields → ⊥

-- the text of a whole catalogue stands there, in no more pages than there are
pub record HoldsContents (at : ℕ → Option Payload) (count first length : ℕ)
    (contents : Option Contents) : Type 0 where
  pub few : div_ceil length most_used ≤ count
  pub text : text_at at length first ≡ Some (catalogue_text contents)
  pub whole : IsWhole contents

-- behind page 0: the tree is within the pages, and the text says a lawful catalogue and places
pub record IsRest (at : ℕ → Option Payload) (count : ℕ) (fields : Fields) (c : CatalogueView)
    (places : List Place) : Type 0 where
  pub within : IsWithin count (tree_of fields)
  pub contents : Option Contents
  pub holds : HoldsContents at count fields.first fields.length contents
  pub of : IsOf count fields contents c places

-- what the pages of a finished store say, or why they say nothing
pub record ReadsStore {T : Type 0} (old new : Cache) (is_kept : T → Type 0) (nothing : Type 0)
    (result : Result T CatalogueFault) : Type 0
  where
    pub kept : IfOk result (λ r. IsTrue old.store.is_faithful → is_kept r)
    -- a fault of page 0 is returned before any other
    pub first : IfErr result (λ e. IsTrue old.store.is_faithful
        → ComesFirst (first_fault old.count (payload_of old 0)) e)
    -- if it fails for another reason than memory or the store, there is nothing such
    pub broken : IfErr result (λ e. IsTrue old.store.is_faithful → (IsStop e → ⊥) → nothing)
    -- no payload changes, and no page that was not changed is written
    pub reads : OnlyReads old new
    -- `Store` is returned only if the store failed, and `StoreFull` never
    pub caused : IfErr result (IsReadingFault old.store new.store)

-- what contents say before their rows
abbrev pub before_rows : Contents → BeforeRows
before_rows contents = record { head = contents.head; features = contents.lists.features }

-- its text: the head, and the features
abbrev pub before_text : BeforeRows → List ℕ
before_text before = head_text before.head ++ features_bytes before.features

-- it fits into the text
pub record IsBeforeRows (before : BeforeRows) : Type 0 where
  pub head : IsHead before.head
  pub features : AreCounted IsFeature 32 before.features

-- a summary says what a catalogue does
pub record Summarizes (c : CatalogueView) (summary : Summary) : Type 0 where
  pub head : summary.head ≡ c.head
  pub limits : summary.limits ≡ c.limits
  pub features : summary.features ≡ length c.tracks.names
  pub legs : summary.legs ≡ c.tracks.legs
