-- What a retrieval leaves of the cache, answered or not, over any pages; of payloads, over a faithful store.
use Rattle.std.specs.Prelude.{ℕ, ◌≡◌, ◌≤◌, ◌<◌, ◌-◌, ◌^◌, min, false, IsTrue, IfErr, Result}
use Rattle.pages.specs.Store as store
use Rattle.pagecache.specs.Cache.{Cache, payload_of, page_of, is_changed, UnsyncsNone, WritesNone}
use Rattle.tbtree.specs.Faults.{RefusesRead}
use Rattle.tbtree.specs.declared.fault.TreeFault.{TreeFault}

-- no page has another payload, none more is marked as changed, and none that was not is written or unsynced
pub record OnlyReads (old new : Cache) : Type 0 where
  pub store : store.Keeps old.store new.store
  pub capacity : new.capacity ≡ old.capacity
  pub count : new.count ≡ old.count
  pub length : new.store.count ≡ old.store.count
  pub asked : min old.asked (2 ^ 64 - 1) ≤ new.asked
  pub payloads : IsTrue old.store.is_faithful → (n : ℕ) → payload_of new n ≡ payload_of old n
  pub changed : (n : ℕ) → is_changed old n ≡ false → is_changed new n ≡ false
  pub written : IsTrue old.store.is_faithful → (n : ℕ) → n < old.count → is_changed old n ≡ false
      → page_of new n ≡ page_of old n
  pub unwritten : WritesNone old new
  pub unsynced : UnsyncsNone old new

-- what a call that only reads pages of the tree leaves of the cache, and why it is refused
pub record Reads {T : Type 0} (old new : Cache) (result : Result T TreeFault) : Type 0 where
  -- answered or not: no page changes
  pub only : OnlyReads old new
  -- refused: what the fault says is so
  pub caused : IfErr result (RefusesRead old new)
