-- What a database keeps, as the text of its catalogue says it.
use Rattle.std.specs.Prelude.{ℕ, ◌≡◌, ◌≤◌, ◌^◌, ◌-◌, false, min, List, Option, Some, None, take, drop, IsTrue}
use Rattle.pages.specs.Store as store
use Rattle.legs.specs.Limits.{LimitsView}
use Rattle.legs.specs.Tracks.{TracksView}
use Rattle.legs.specs.declared.head.BookHead.{BookHead}
use Rattle.mfcsv.specs.declared.Dimension.TheVariants.{Two, Three}
use Rattle.pages.specs.declared.payload.Payload.{Payload}
use Rattle.pagecache.specs.Cache.{is_changed, payload_of, Cache, IsSettled}
use Rattle.tbtree.specs.Descent.{IsSameTree}
use Rattle.tbtree.specs.Nodes.{pages_of_cache}
use Rattle.tbtree.specs.declared.tree.TbTree.{TbTree}
use Rattle.header.specs.declared.header_fields.Fields.{Fields}
use Rattle.register.specs.declared.contents.CatalogueHead.{CatalogueHead}

-- what contracts see of a catalogue: what the first accepted file gave, the limits, the features,
-- and the attribute values of each record
pub record CatalogueView : Type 0 where
  pub head : Option BookHead
  pub limits : LimitsView
  pub tracks : TracksView
  pub rows : List (List (List ℕ))

-- what is kept of a head beside its dimension, which stands in the header
abbrev pub head_of : BookHead → CatalogueHead
head_of head =
    record { base = head.base; space = record { crs = head.crs; columns = head.columns } }

-- how many dimensions a database has; 2 where no file was accepted
abbrev pub dimensions_of : Option BookHead → ℕ
dimensions_of None = 2
dimensions_of (Some head) = elim head.dimension [ Two ↦ 2 | Three ↦ 3 ]

-- what page 0 says of a database behind how it begins
abbrev pub fields_for : LimitsView → Option BookHead → TbTree → ℕ → ℕ → Fields
fields_for limits head tree first length = record {
  shape = tree.shape;
  limits = limits;
  root = tree.root;
  levels = tree.levels;
  leaves = tree.leaves;
  first = first;
  length = length;
  dimension = dimensions_of head;
}

-- page 0 begins as it did, and ends as it did behind its 60 first bytes
pub record KeepsFront (old new : Cache) : Type 0 where
  pub was : Payload
  pub before : payload_of old 0 ≡ Some was
  pub payload : Payload
  pub is : payload_of new 0 ≡ Some payload
  pub kind : payload.kind ≡ was.kind
  pub front : take 12 payload.bytes ≡ take 12 was.bytes
  pub rest : drop 60 payload.bytes ≡ drop 60 was.bytes

-- what every call leaves of a cache, answered or not
pub record Continues (old new : Cache) : Type 0 where
  pub store : store.Keeps old.store new.store
  pub capacity : new.capacity ≡ old.capacity
  pub count : old.count ≤ new.count
  -- the count of asks did not fall; the greatest number that is counted stands for any greater one
  pub asked : min old.asked (2 ^ 64 - 1) ≤ new.asked

-- the pages of a tree say what they said
abbrev pub SparesTree : Cache → Cache → Type 0
SparesTree old new =
    IsTrue old.store.is_faithful → IsSameTree (pages_of_cache old) (pages_of_cache new)

-- no page but page 0 is changed; so each other one is as written
pub record IsWrittenButFirst (c : Cache) : Type 0 where
  pub clean : (n : ℕ) → 1 ≤ n → is_changed c n ≡ false
  pub settled : IsSettled c
