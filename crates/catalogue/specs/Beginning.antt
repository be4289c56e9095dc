-- What a new store begins with, and why none is begun.
use Rattle.std.specs.Prelude.{ℕ, ◌≡◌, ◌≤◌, ◌⊎◌, ◌∷◌, [], IsTrue}
use Rattle.legs.specs.Costs.{ShapeView}
use Rattle.legs.specs.Limits.{LimitsView}
use Rattle.pages.specs.Sealed.{sealed}
use Rattle.pages.specs.Store.{Store, Faulted, IsSynced, Keeps, Writes}
use Rattle.pages.specs.declared.payload.Payload.{Payload}
use Rattle.pagecache.specs.declared.fault.CacheFault.{CacheFault}
use Rattle.pagecache.specs.declared.fault.CacheFault.TheVariants as cache
use Rattle.header.specs.Fields.{header_payload}
use Rattle.boxsearch.specs.Index.{content, IndexView, IsMarked, IsSoundIndex}
use Rattle.catalogue.specs.Holding.{IsUnfinishedStore}

-- an index without legs over a store that had no page: page 0 is the header of an unfinished store with this shape and
-- these limits, written and synced; the cache holds at most so many pages
pub record IsBegun (plan : ShapeView) (limits : LimitsView) (most : ℕ) (old : Store)
    (index : IndexView) : Type 0 where
  pub empty : content index ≡ []
  pub shape : index.tree.shape ≡ plan
  pub capacity : index.cache.capacity ≡ most
  pub stored : Writes 0 (sealed 0 (header_payload plan limits)) old index.cache.store
  pub synced : IsSynced index.cache.store
  pub sound : IsTrue old.is_faithful → IsSoundIndex index
  pub marked : IsTrue old.is_faithful → IsMarked index.cache

-- what is left of an empty store whose page 0 was to be this payload: there is no page but page 0;
-- of a faithful store there is none, or page 0 as written is exactly the seal of the payload, or
-- the store failed
pub record IsFirst (payload : Payload) (old new : Store) : Type 0 where
  pub few : new.count ≤ 1
  pub first : IsTrue old.is_faithful
      → (new.pages ≡ []) ⊎ ((new.pages ≡ sealed 0 payload ∷ []) ⊎ Faulted old new)

-- of one that was not begun: page 0 was to be the unfinished header of this shape and these limits
abbrev pub IsLeft : ShapeView → LimitsView → Store → Store → Type 0
IsLeft shape limits old new = IsFirst (header_payload shape limits) old new

-- what is left of an empty store into which nothing was brought: it has no page, or a page 0 of a store that is
-- not finished, or page 0 alone, whose write failed
abbrev pub IsLeftOver : Store → Store → Type 0
IsLeftOver old new =
    (new.pages ≡ []) ⊎ (IsUnfinishedStore new ⊎ ((new.count ≤ 1) × Faulted old new))

-- memory ran out, the store failed, or it has no room for any page
abbrev pub IsCaused : Store → Store → CacheFault → Type 0
IsCaused old new cache.Memory = Unit {0}
IsCaused old new cache.Store = Faulted old new
IsCaused old new cache.StoreFull = old.most ≡ 0
IsCaused old new _ = ⊥

-- why no store is begun whose page 0 was to be this payload, and what is left of it
pub record NotBegun (payload : Payload) (old new : Store) (fault : CacheFault) : Type 0 where
  pub kept : Keeps old new
  pub left : IsFirst payload old new
  pub caused : IsCaused old new fault
