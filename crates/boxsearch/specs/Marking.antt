-- Helpers of private functions: what marking makes of page 0.
use Rattle.std.specs.Prelude.{ℕ, ◌≡◌, ◌≢◌, ◌≤◌, ◌<◌, ◌-◌, ◌^◌, drop, min, IsTrue, Some, None}
use Rattle.pages.specs.Store as store
use Rattle.pages.specs.Store.{Faulted}
use Rattle.pages.specs.declared.payload.Payload.{Payload}
use Rattle.pagecache.specs.Cache.{Cache, payload_of}
use Rattle.pagecache.specs.declared.fault.CacheFault.{CacheFault}
use Rattle.pagecache.specs.declared.fault.CacheFault.TheVariants as cache
use Rattle.boxsearch.specs.Index.{IsMarked}

-- over a faithful store page 0 has a payload where it had one, and that says what it did behind its first 12 bytes
abbrev pub KeepsFields : Cache → Cache → Type 0
KeepsFields old new =
    IsTrue old.store.is_faithful → (p : Payload) → payload_of old 0 ≡ Some p
    → (q : Payload) × (payload_of new 0 ≡ Some q) × (drop 12 q.bytes ≡ drop 12 p.bytes)

-- page 0 is marked, or nothing is
pub record Marks (old new : Cache) : Type 0 where
  pub store : store.Keeps old.store new.store
  pub capacity : new.capacity ≡ old.capacity
  pub count : new.count ≡ old.count
  pub length : new.store.count ≡ old.store.count
  pub asked : min old.asked (2 ^ 64 - 1) ≤ new.asked
  pub rest : IsTrue old.store.is_faithful → (n : ℕ) → 0 < n → payload_of new n ≡ payload_of old n
  pub held : IsTrue old.store.is_faithful → payload_of old 0 ≢ None → payload_of new 0 ≢ None
  pub fields : KeepsFields old new
  pub stays : IsMarked old → IsMarked new

-- why page 0 is not marked: there is none, or it is damaged, or the store failed, or memory was wanted
abbrev pub IsNotMarked : Cache → Cache → CacheFault → Type 0
IsNotMarked old new cache.NoPage =
    (old.count ≤ 0) × (IsTrue old.store.is_faithful → payload_of old 0 ≡ None)
IsNotMarked old new cache.Store = Faulted old.store new.store
IsNotMarked old new (cache.Damaged n) =
    (n ≡ 0) × (IsTrue old.store.is_faithful → payload_of old 0 ≡ None)
IsNotMarked old new cache.StoreFull = ⊥
IsNotMarked old new cache.Memory = Unit {0}
