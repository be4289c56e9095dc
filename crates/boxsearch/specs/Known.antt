-- What an index knows of the leaves of its features.
use Rattle.std.specs.Prelude.{ℕ, ◌≡◌, ◌⊎◌, List, [], Some, slice_get, IsTrue}
use Rattle.legs.specs.Costs.{ShapeView}
use Rattle.pagecache.specs.Cache.{Cache}
use Rattle.tbtree.specs.Nodes.{pages_of_cache}
use Rattle.tbtree.specs.declared.tree.Place.{Place}
use Rattle.chains.specs.Spans.{IsKnown}
use Rattle.chains.specs.declared.spans.LeafSpan.{LeafSpan}

-- over a faithful store the spans that are known of a feature are those of the last leaves of its place
abbrev pub AreKnown : Cache → ShapeView → List Place → List (List LeafSpan) → Type 0
AreKnown cache shape places known =
    IsTrue cache.store.is_faithful → (feature : ℕ) (place : Place) (spans : List LeafSpan)
    → slice_get places feature ≡ Some place → slice_get known feature ≡ Some spans
    → IsKnown (pages_of_cache cache) shape feature place spans

-- of each feature is known what was known of it, or nothing
abbrev pub Widens : List (List LeafSpan) → List (List LeafSpan) → Type 0
Widens old new =
    (feature : ℕ) (spans : List LeafSpan) → slice_get new feature ≡ Some spans
    → (slice_get old feature ≡ Some spans) ⊎ (spans ≡ [])
