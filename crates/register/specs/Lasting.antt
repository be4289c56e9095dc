-- What the pages of a store keep of a database beside its legs.
use Rattle.std.specs.Prelude.{ℕ, ◌≡◌, ◌≢◌, ◌≤◌, ◌<◌, ◌==◌, ◌⊎◌, nat_lt, false, if◌then◌else◌, List, [], map, length, All, AllPairs, Option, Some, None}
use Rattle.std.specs.Int.{div_ceil}
use Rattle.timebase.specs.Instant.{IsMoment}
use Rattle.legs.specs.Law.{IsName}
use Rattle.legs.specs.Limits.{IsLimits}
use Rattle.legs.specs.Tracks.{TracksView}
use Rattle.legs.specs.declared.head.BookHead.{BookHead}
use Rattle.pages.specs.declared.payload.Payload.{Payload}
use Rattle.pages.specs.Store.{Store as StoreView, Faulted}
use Rattle.tbtree.specs.Shape.{IsShape}
use Rattle.tbtree.specs.declared.tree.Place.{Place}
use Rattle.tbtree.specs.declared.tree.TbTree.{TbTree}
use Rattle.header.specs.Fields.{FitsFields, HasFields}
use Rattle.header.specs.Front.{finished_front, front_of, unfinished_front}
use Rattle.header.specs.declared.fronts.Front.{Front}
use Rattle.register.specs.Chain.{most_used, text_at}
use Rattle.register.specs.Saved.{fields_for, CatalogueView}
use Rattle.register.specs.Saving.{contents_of}
use Rattle.register.specs.Text.{catalogue_text, leg_sum, IsWhole}
use Rattle.register.specs.declared.contents.Feature.{Feature}
use Rattle.register.specs.declared.fault.CatalogueFault.{CatalogueFault}
use Rattle.register.specs.declared.fault.CatalogueFault.TheVariants.{Memory, Store, StoreFull, Damaged, Unfinished, Version, Malformed}

-- what is wrong with the state of a store: 0 is unfinished, 1 is finished
abbrev pub state_fault : ℕ → Option CatalogueFault
state_fault state =
    if state == unfinished_front.state then Some Unfinished
    else (if state == finished_front.state then None else Some Malformed)

-- what is wrong with how page 0 begins: a finished store of that version is to be said there
abbrev pub front_fault : ℕ → Option Front → Option CatalogueFault
front_fault version None = Some Malformed
front_fault version (Some front) =
    if front.version == version then state_fault front.state else Some Version

-- what is wrong with page 0 as the header of a finished store of the present version
unfoldable pub header_fault : Payload → Option CatalogueFault
header_fault payload = front_fault finished_front.version (front_of payload)

-- what is wrong with the payload of page 0; that there is none is damage
abbrev pub payload_fault : Option Payload → Option CatalogueFault
payload_fault None = Some (Damaged 0)
payload_fault (Some payload) = header_fault payload

-- what is wrong with a store of so many pages, by page 0
abbrev pub first_fault : ℕ → Option Payload → Option CatalogueFault
first_fault count first = if nat_lt 0 count then payload_fault first else Some Malformed

-- memory ran out, or the store failed
abbrev pub IsStop : CatalogueFault → Type 0
IsStop Memory = Unit {0}
IsStop Store = Unit {0}
IsStop _ = ⊥

-- the store failed where that is said; a call that only reads says nothing of a full store
abbrev pub IsReadingFault : StoreView → StoreView → CatalogueFault → Type 0
IsReadingFault old new Store = Faulted old new
IsReadingFault old new StoreFull = ⊥
IsReadingFault old new _ = Unit {0}

-- what can be said where page 0 is right: neither its state nor its version
abbrev pub IsBehindFirst : CatalogueFault → Type 0
IsBehindFirst Unfinished = ⊥
IsBehindFirst Version = ⊥
IsBehindFirst _ = Unit {0}

-- a fault of page 0 is answered, where there is one; memory and the store may stop before
abbrev pub ComesFirst : Option CatalogueFault → CatalogueFault → Type 0
ComesFirst (Some first) fault = (fault ≡ first) ⊎ IsStop fault
ComesFirst None fault = IsBehindFirst fault

-- the tree has its root and its leaves among so many pages, and at most 32 levels
pub record IsWithin (count : ℕ) (tree : TbTree) : Type 0 where
  pub root : tree.root < count
  pub leaves : tree.leaves ≤ count
  pub levels : tree.levels ≤ 32

-- a feature among so many pages, which has a leg
pub record IsLawfulFeature (count : ℕ) (feature : Feature) : Type 0 where
  pub name : IsName feature.name
  pub end : IsMoment feature.kept.end
  pub some : 0 < feature.kept.place.legs
  pub first : feature.kept.place.first < count
  pub last : feature.kept.place.last < count

-- the tracks of features, and of so many rows
abbrev pub tracks_of : List Feature → ℕ → TracksView
tracks_of features rows = record {
  names = map (λ f. f.name) features;
  tracks = map (λ f. record { end = f.kept.end; legs = f.kept.place.legs }) features;
  legs = leg_sum features;
  rows = rows;
}

-- a lawful catalogue of so many pages: its features have names and places of their own, and legs; there are no more
-- features and legs than the limits, no more rows than legs, and a row where there is a leg; where no file was accepted
-- there is no feature
pub record IsLawfulCatalogue (count : ℕ) (c : CatalogueView) (places : List Place) : Type 0 where
  pub features : List Feature
  pub tracks_are : c.tracks ≡ tracks_of features (length c.rows)
  pub places_are : places ≡ map (λ f. f.kept.place) features
  pub each : All (IsLawfulFeature count) features
  pub apart : AllPairs (λ a b. a ≢ b) (map (λ f. f.name) features)
  pub few_features : length features ≤ c.limits.features
  pub few_legs : c.tracks.legs ≤ c.limits.legs
  pub few_rows : length c.rows ≤ c.tracks.legs
  pub some_row : 0 < c.tracks.legs → 0 < length c.rows
  pub none : c.head ≡ None → features ≡ []
  pub base : (head : BookHead) → c.head ≡ Some head → IsMoment head.base

-- page 0 of so many pages says the limits, the tree and where the text of a catalogue is, and the
-- text is there
pub record Says (at : ℕ → Option Payload) (count : ℕ) (c : CatalogueView) (tree : TbTree)
    (places : List Place) : Type 0 where
  pub first : ℕ
  pub length : ℕ
  pub payload : Payload
  pub is : at 0 ≡ Some payload
  pub fields : HasFields payload (fields_for c.limits c.head tree first length)
  pub fits : FitsFields (fields_for c.limits c.head tree first length)
  pub shape : IsShape tree.shape
  pub limits : IsLimits c.limits
  pub few : div_ceil length most_used ≤ count
  pub text : text_at at length first ≡ Some (catalogue_text (contents_of c places))

-- the pages of a finished store keep a catalogue, a tree and the places of its features; in the
-- text of the catalogue all fits, and each row has a value for each column
pub record IsKept (at : ℕ → Option Payload) (count : ℕ) (c : CatalogueView) (tree : TbTree)
    (places : List Place) : Type 0 where
  pub says : Says at count c tree places
  pub whole : IsWhole (contents_of c places)
  pub finished : payload_fault (at 0) ≡ None
  pub within : IsWithin count tree
  pub works : tree.spent ≡ false
  pub lawful : IsLawfulCatalogue count c places

-- catalogues, trees and places are one
pub record IsSame (c d : CatalogueView) (tree other : TbTree)
    (places others : List Place) : Type 0 where
  pub catalogue : c ≡ d
  pub tree_is : tree ≡ other
  pub places_are : places ≡ others
