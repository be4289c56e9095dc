-- What contracts see of an index over pages.
use Rattle.std.specs.Prelude.{Bool, true, ℕ, ◌≡◌, ◌<◌, ◌-◌, ◌^◌, ◌==◌, min, false, if◌then◌else◌, IsTrue, List, [], ◌∷◌, ◌++◌, map, length, slice_get, Some, All}
use Rattle.legs.specs.Boxes.{BoxView}
use Rattle.legs.specs.Costs.{ShapeView}
use Rattle.legs.specs.Finding.{Finding}
use Rattle.legs.specs.Index.{feature_count}
use Rattle.legs.specs.Legs.{IsLeg, LegView}
use Rattle.legs.specs.Questions.{Question}
use Rattle.pages.specs.Store.{IsSynced}
use Rattle.pages.specs.declared.payload.Payload.{Payload}
use Rattle.legs.specs.declared.listed.Listed.{Ghosts}
use Rattle.pagecache.specs.Cache.{Cache, IsClean, is_changed, pages_as_written, sealed_payload}
use Rattle.tbtree.specs.Descent.{found_legs}
use Rattle.tbtree.specs.Insert.{Stands, IsPlace}
use Rattle.tbtree.specs.Nodes.{pages_of_cache}
pub use Rattle.tbtree.specs.Stands.{place_of}
use Rattle.tbtree.specs.Shape.{IsShape}
use Rattle.tbtree.specs.Stands.{empty_tree, no_place}
use Rattle.tbtree.specs.declared.tree.Place.{Place}
use Rattle.tbtree.specs.declared.tree.TbTree.{TbTree}
use Rattle.chains.specs.declared.spans.LeafSpan.{LeafSpan}
use Rattle.header.specs.Front.{IsUnfinished}
use Rattle.boxsearch.specs.Telling.{Tells, Denies}

-- the cache of its pages, its tree, the place of each feature, how many legs it has, and what it knows of the leaves of
-- each feature
pub record IndexView : Type 0 where
  pub cache : Cache
  pub tree : TbTree
  pub places : List Place
  pub legs : ℕ
  pub known : List (List LeafSpan)

-- the legs that the way down its pages by a test of boxes finds; none where its store is not faithful
abbrev pub legs_by : (BoxView → Bool) → IndexView → List LegView
legs_by meets i =
    if i.cache.store.is_faithful then found_legs meets (pages_of_cache i.cache) i.tree else []

-- the legs that its pages say; none where its store is not faithful
abbrev pub content : IndexView → List LegView
content i = legs_by (λ _. true) i

-- what its pages say to a question; anything where its store is not faithful
abbrev pub tells : IndexView → Question → List LegView → Type 0
tells i question legs =
    IsTrue i.cache.store.is_faithful → Tells (pages_of_cache i.cache) i.tree i.places question legs

-- the page at which its pages do not answer a question; any page where its store is not faithful
abbrev pub denies : IndexView → Question → ℕ → Type 0
denies i question page =
    IsTrue i.cache.store.is_faithful → Denies (pages_of_cache i.cache) i.tree i.places question page

-- the pages as written; none where its store is not faithful
abbrev pub written : IndexView → List (List ℕ)
written i = if i.cache.store.is_faithful then pages_as_written i.cache else []

-- over a faithful store, all of whose pages its cache counts, and not spent, its pages stand for its legs, which it
-- counts, and each feature has its place
pub record IsSoundIndex (i : IndexView) : Type 0 where
  pub faithful : IsTrue i.cache.store.is_faithful
  pub works : i.tree.spent ≡ false
  pub shape : IsShape i.tree.shape
  pub count : i.cache.count ≡ i.cache.store.count
  pub pages : ℕ → List ℕ
  pub stands : Stands (pages_of_cache i.cache) i.tree (content i) pages
  pub lawful : All IsLeg (content i)
  pub counted : i.legs ≡ length (content i)
  pub features : length i.places ≡ feature_count (content i)
  pub placed : (feature : ℕ) (place : Place) → slice_get i.places feature ≡ Some place
      → IsPlace i.tree (content i) pages feature place

-- page 0 as written is the header of a store that is not finished, and is not changed
pub record IsMarked (c : Cache) : Type 0 where
  pub faithful : IsTrue c.store.is_faithful
  pub there : 0 < c.count
  pub unchanged : is_changed c 0 ≡ false
  pub payload : Payload
  pub sealed : sealed_payload c 0 ≡ Some payload
  pub unfinished : IsUnfinished payload

-- the numbers by which it finds its legs
abbrev pub found_by : IndexView → Finding
found_by i =
    record {
      root = i.tree.root;
      levels = i.tree.levels;
      leaves = i.tree.leaves;
      legs = i.legs;
      pages = i.cache.count;
      places = map place_of i.places;
    }

-- what contracts say of an index over pages
abbrev pub words : Ghosts IndexView
words = record {
  content = λ index. content index;
  tells = λ index question legs. tells index question legs;
  denies = λ index question page. denies index question page;
  counted = λ index. index.legs;
  features = λ index. length index.places;
  is_sound = λ index. IsSoundIndex index;
  is_spent = λ index. index.tree.spent;
  faults = λ index. index.cache.store.faults;
  is_store_full = λ index. index.cache.count ≡ index.cache.store.most;
  asked = λ index. min index.cache.asked (2 ^ 64 - 1);
  plan = λ index. Some index.tree.shape;
  found_by = λ index. found_by index;
  is_faithful = λ index. IsTrue index.cache.store.is_faithful;
  is_clean = λ index. IsClean index.cache;
  is_marked = λ index. IsMarked index.cache;
  is_synced = λ index. IsSynced index.cache.store;
  written = λ index. written index;
}

-- the places, with one of a feature without legs where the next one is new
abbrev pub with_place : List Place → ℕ → List Place
with_place places feature = if feature == length places then places ++ no_place ∷ [] else places

-- an index without legs
abbrev pub new_index : Cache → ShapeView → IndexView
new_index cache shape =
    record { cache = cache; tree = empty_tree shape; places = []; legs = 0; known = [] }
