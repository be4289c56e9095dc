-- A check of an index over pages.
use Rattle.std.specs.Prelude.{ℕ, Bool, ◌≡◌, ◌≢◌, ◌≤◌, ◌<◌, List, length, slice_index_or, All, None}
use Rattle.legs.specs.Index.{feature_count, last_end}
use Rattle.legs.specs.Legs.{LegView}
use Rattle.legs.specs.Limits.{greatest_limit}
use Rattle.legs.specs.Tracks.{TracksView, IsTrack}
use Rattle.legs.specs.declared.tracks.Track.{Track}
use Rattle.pagecache.specs.Cache.{Cache, payload_of}
use Rattle.tbtree.specs.Nodes.{pages_of_cache}
use Rattle.tbtree.specs.Shape.{IsShape}
use Rattle.tbtree.specs.declared.tree.Place.{Place}
use Rattle.tbtree.specs.declared.tree.TbTree.{TbTree}
use Rattle.header.specs.Front.{SaysState}
use Rattle.treecheck.specs.Check.{IsChecked}

-- the tracks are those of the legs: features are numbered from 0 in the order of their first legs, each name has a leg, and
-- each leg one of so many rows, of which there are no more than legs
pub record AreTracksOf (tracks : TracksView) (rows : ℕ) (legs : List LegView) : Type 0 where
  pub paired : length tracks.tracks ≡ length tracks.names
  pub numbered : feature_count legs ≡ length tracks.names
  pub each : (feature : ℕ) (d : Track) → feature < length tracks.names
      → IsTrack (slice_index_or tracks.tracks feature d) legs feature
  pub led : (feature : ℕ) → feature < length tracks.names → last_end feature legs ≢ None
  pub legs_are : tracks.legs ≡ length legs
  pub rows_are : tracks.rows ≡ rows
  pub in_rows : All (λ leg. leg.row < rows) legs
  pub few_rows : rows ≤ length legs
  pub few_names : length tracks.names ≤ greatest_limit

-- the numbers of the tracks are those of so many rows and legs
pub record Agree (tracks : TracksView) (rows legs : ℕ) : Type 0 where
  pub paired : length tracks.tracks ≡ length tracks.names
  pub legs_are : tracks.legs ≡ legs
  pub rows_are : tracks.rows ≡ rows
  pub few_rows : rows ≤ legs
  pub few_names : length tracks.names ≤ greatest_limit

-- all that a check asks of a cache: its pages are whole, and there are no more in the store; the numbers of the tracks are
-- theirs; and page 0 says whether the database has begun
pub record IsWholeCache (cache : Cache) (tree : TbTree) (rows legs : ℕ) (places : List Place)
    (tracks : TracksView) (begun : Bool) : Type 0 where
  pub shape : IsShape tree.shape
  pub count : cache.count ≡ cache.store.count
  pub says : SaysState begun (payload_of cache 0)
  pub checked : IsChecked (pages_of_cache cache) tree rows legs places tracks.tracks
  pub agree : Agree tracks rows legs
