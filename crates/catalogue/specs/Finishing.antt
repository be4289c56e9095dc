-- Helpers of private functions: what finishing makes of the pages of an index.
use Rattle.std.specs.Prelude.{ℕ, ◌≡◌, ◌≤◌, ◌<◌, drop, false, true, IfErr, IsErrOf, OnOk, Result, Some, IsTrue}
use Rattle.pages.specs.Store.{IsSynced, IsSyncedButFirst, Store}
use Rattle.pages.specs.Store as store
use Rattle.pages.specs.declared.payload.Payload.{Payload}
use Rattle.pagecache.specs.Cache.{is_changed, pages_as_written, payload_of, stored_payload, Cache, IsRefused, Lends, SameLength}
use Rattle.pagecache.specs.declared.fault.CacheFault.{CacheFault}
use Rattle.header.specs.Front.{finished, SaysState}
use Rattle.catalogue.specs.Holding.{IsUnfinishedStore}

-- all is written to a store, and page 0 says besides that it is finished
pub record Finishes (old : Cache) (new : Store) : Type 0 where
  pub length : new.count ≡ old.store.count
  pub header : Payload
  pub was : payload_of old 0 ≡ Some header
  pub first : stored_payload new 0 ≡ Some (finished header)
  pub rest : (n : ℕ) → 0 < n → stored_payload new n ≡ payload_of old n

-- page 0 has its payload with the state 1, and no other page has another one
pub record SetsState (old new : Cache) : Type 0 where
  pub was : Payload
  pub before : IsTrue old.store.is_faithful → payload_of old 0 ≡ Some was
  pub lends : Lends 0 (finished was) old new

-- no page but page 0 is changed
abbrev pub IsCleanButFirst : Cache → Type 0
IsCleanButFirst c = (n : ℕ) → 1 ≤ n → is_changed c n ≡ false

-- the same pages, later; where no page but page 0 was changed, no other one is written, and none is left unsynced
pub record KeepsOthers (old new : Cache) : Type 0 where
  pub store : store.Keeps old.store new.store
  pub count : new.count ≡ old.count
  pub length : SameLength old new
  pub clean : IsCleanButFirst old → IsCleanButFirst new
  pub written : IsTrue old.store.is_faithful → IsCleanButFirst old
      → drop 1 (pages_as_written new) ≡ drop 1 (pages_as_written old)
  pub synced : IsCleanButFirst old → IsSyncedButFirst old.store → IsSyncedButFirst new.store

-- what finishing leaves, and why it is refused: where memory runs out page 0 is not written
pub record FinishesAll (old new : Cache) (result : Result (Unit {0}) CacheFault) : Type 0 where
  pub finishes : OnOk result (IsTrue old.store.is_faithful → old.count ≡ old.store.count
      → Finishes old new.store)
  pub synced : OnOk result (IsSynced new.store)
  pub others : KeepsOthers old new
  pub unfinished : IsErrOf result CacheFault.Memory → IsTrue old.store.is_faithful → 0 < old.count
      → IsUnfinishedStore old.store → SaysState true (payload_of old 0)
      → IsUnfinishedStore new.store
  pub caused : IfErr result (λ fault. IsRefused 0 fault old new)
