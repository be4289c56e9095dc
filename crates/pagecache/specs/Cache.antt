-- What contracts see of a cache, and what a call does to it.
use Rattle.std.specs.Prelude.{ℕ, Bool, false, ◌≡◌, ◌≢◌, ◌⊎◌, ◌+◌, ◌-◌, ◌^◌, ◌<◌, ◌≤◌, ◌==◌, if◌then◌else◌, min, List, [], take, drop, Option, Some, None, option_map, option_and_then, unwrap_or, slice_get, nat_eq, IsTrue, ⊤, Result, Err, IfErr, IfOk, IsErrOf, OnErr, OnOk}
use Rattle.std.specs.Option.{option_or}
use Rattle.std.specs.Map.{lookup}
use Rattle.std.specs.Box.{box_value}
use Rattle.pages.specs.Unsealed.{unsealed}
use Rattle.pages.specs.Store.{Store, Faulted, IsSynced, IsSyncedButFirst}
use Rattle.pages.specs.Store as store
use Rattle.pages.specs.declared.payload.Payload.{Payload}
use Rattle.pagecache.specs.declared.slots.Held.{Held}
use Rattle.pagecache.specs.declared.fault.CacheFault.{CacheFault}
use Rattle.pagecache.specs.declared.fault.CacheFault.TheVariants as fault

-- the store below, the pages in memory by number, how many there may be, how many pages there are,
-- and how often one was asked for
pub record Cache : Type 0 where
  pub store : Store
  pub held : List (ℕ × Held)
  pub capacity : ℕ
  pub count : ℕ
  pub asked : ℕ

-- a cache with no page in memory
abbrev pub fresh : Store → ℕ → Cache
fresh s capacity =
    record { store = s; held = []; capacity = capacity; count = s.count; asked = 0 }

-- one page more was asked for
abbrev pub AsksOnce : Cache → Cache → Type 0
AsksOnce old new = new.asked ≡ min (old.asked + 1) (2 ^ 64 - 1)

-- page n in memory
abbrev pub in_memory : Cache → ℕ → Option Held
in_memory c n = lookup (nat_eq n) c.held

-- the pages as written
unfoldable pub pages_as_written : Cache → List (List ℕ)
pages_as_written c = take c.count c.store.pages

-- page n as written
unfoldable pub page_of : Cache → ℕ → Option (List ℕ)
page_of c n = slice_get (pages_as_written c) n

-- the payload that page n as written seals
unfoldable pub sealed_payload : Cache → ℕ → Option Payload
sealed_payload c n = option_and_then (unsealed n) (page_of c n)

-- the payload of page n: the one in memory, else the one that the page as written seals
unfoldable pub payload_of : Cache → ℕ → Option Payload
payload_of c n =
    option_or (option_map (λ h. box_value h.payload) (in_memory c n)) (sealed_payload c n)

-- whether page n may differ from the page as written
unfoldable pub is_changed : Cache → ℕ → Bool
is_changed c n = unwrap_or (option_map (λ h. h.changed) (in_memory c n)) false

-- the payload that page n of a store seals
unfoldable pub stored_payload : Store → ℕ → Option Payload
stored_payload s n = option_and_then (unsealed n) (slice_get s.pages n)

-- a page that is not changed has as payload what the page as written seals
abbrev pub IsSettled : Cache → Type 0
IsSettled c = IsTrue c.store.is_faithful → (n : ℕ) → is_changed c n ≡ false
    → payload_of c n ≡ sealed_payload c n

-- no page is changed
abbrev pub IsClean : Cache → Type 0
IsClean c = (n : ℕ) → is_changed c n ≡ false

-- no page is changed, and each page as written seals its payload, in the store too
pub record IsWritten (c : Cache) : Type 0 where
  pub clean : IsClean c
  pub sealed : IsTrue c.store.is_faithful → (n : ℕ) → payload_of c n ≡ sealed_payload c n
  pub stored : IsTrue c.store.is_faithful → c.count ≡ c.store.count → (n : ℕ)
      → payload_of c n ≡ stored_payload c.store n

-- what every call keeps; a page that is not changed is not written
pub record Keeps (old new : Cache) : Type 0 where
  pub store : store.Keeps old.store new.store
  pub capacity : new.capacity ≡ old.capacity
  pub written : IsTrue old.store.is_faithful → (n : ℕ) → n < old.count
      → is_changed old n ≡ false → page_of new n ≡ page_of old n
  pub settled : IsSettled new

-- where no page is changed, none is written; nor is one from k on, where none of those is changed
pub record WritesNone (old new : Cache) : Type 0 where
  pub clean : IsTrue old.store.is_faithful → IsClean old
      → pages_as_written new ≡ pages_as_written old
  pub from : IsTrue old.store.is_faithful → (k : ℕ)
      → ((n : ℕ) → k ≤ n → is_changed old n ≡ false)
      → drop k (pages_as_written new) ≡ drop k (pages_as_written old)

-- where no page is changed, none more is unsynced; nor is one but page 0, where no other is changed
pub record UnsyncsNone (old new : Cache) : Type 0 where
  pub clean : IsClean old → store.UnsyncsNone old.store new.store
  pub but_first : ((n : ℕ) → 1 ≤ n → is_changed old n ≡ false)
      → IsSyncedButFirst old.store → IsSyncedButFirst new.store

-- no page has another payload, and none more is changed
pub record KeepsPayloads (old new : Cache) : Type 0 where
  pub keeps : Keeps old new
  pub count : new.count ≡ old.count
  pub payloads : IsTrue old.store.is_faithful → (n : ℕ) → payload_of new n ≡ payload_of old n
  pub changed : (n : ℕ) → is_changed old n ≡ false → is_changed new n ≡ false
  pub unwritten : WritesNone old new

-- page n has the payload w, and no other has another; none but n is changed that was not
pub record Writes (n : ℕ) (w : Payload) (old new : Cache) : Type 0 where
  pub keeps : Keeps old new
  pub count : new.count ≡ old.count
  pub payloads : IsTrue old.store.is_faithful → (m : ℕ)
      → payload_of new m ≡ (if n == m then Some w else payload_of old m)
  pub changed : (m : ℕ) → n ≢ m → is_changed old m ≡ false → is_changed new m ≡ false
  pub unwritten : WritesNone old new

-- one page more, with the payload w, and no other has another; none but it is changed that was not
pub record Adds (w : Payload) (old new : Cache) : Type 0 where
  pub keeps : Keeps old new
  pub count : new.count ≡ old.count + 1
  pub payloads : IsTrue old.store.is_faithful → (m : ℕ)
      → payload_of new m ≡ (if old.count == m then Some w else payload_of old m)
  pub changed : (m : ℕ) → old.count ≢ m → is_changed old m ≡ false → is_changed new m ≡ false

-- the store has as many pages as before
abbrev pub SameLength : Cache → Cache → Type 0
SameLength old new = new.store.count ≡ old.store.count

-- the store failed, or memory was wanted
abbrev pub IsStopped : CacheFault → Cache → Cache → Type 0
IsStopped fault.NoPage old new = ⊥
IsStopped fault.Store old new = Faulted old.store new.store
IsStopped (fault.Damaged m) old new = ⊥
IsStopped fault.StoreFull old new = ⊥
IsStopped fault.Memory old new = ⊤

-- why page n is refused
abbrev pub IsRefused : ℕ → CacheFault → Cache → Cache → Type 0
IsRefused n fault.NoPage old new =
    (old.count ≤ n) × (IsTrue old.store.is_faithful → payload_of old n ≡ None)
IsRefused n fault.Store old new = Faulted old.store new.store
IsRefused n (fault.Damaged m) old new =
    (m ≡ n) × (IsTrue old.store.is_faithful → payload_of old n ≡ None)
IsRefused n fault.StoreFull old new = ⊥
IsRefused n fault.Memory old new = ⊤

-- why no page is added
abbrev pub IsNotAdded : CacheFault → Cache → Cache → Type 0
IsNotAdded fault.NoPage old new = ⊥
IsNotAdded fault.Store old new = Faulted old.store new.store
IsNotAdded (fault.Damaged m) old new = ⊥
IsNotAdded fault.StoreFull old new = old.count ≡ old.store.most
IsNotAdded fault.Memory old new = ⊤

-- what adding a page with the payload w leaves, and why it is refused
pub record AddsPage (w : Payload) (old new : Cache) (result : Result ℕ CacheFault) : Type 0 where
  -- there is one page more, with this payload, and no other payload changes
  pub adds : OnOk result (Adds w old new)
  -- its number is the count before
  pub number : IfOk result (λ number. number ≡ old.count)
  -- no page had this number or a greater one
  pub none_before : (n : ℕ) → old.count ≤ n → payload_of old n ≡ None
  -- the cache counts all pages of the store, if it did before
  pub length : OnOk result (old.count ≡ old.store.count → new.count ≡ new.store.count)
  -- after an error no payload has changed
  pub refused : OnErr result (KeepsPayloads old new)
  -- one ask is counted
  pub asks : AsksOnce old new
  -- the store failed only if it did, and is full only if it has as many pages as it may
  pub cause : IfErr result (λ fault. IsNotAdded fault old new)
  -- a store that has as many pages as it may is always full
  pub full : old.count ≡ old.store.most → result ≡ Err fault.StoreFull

-- what writing every changed page leaves, and why it is refused
pub record Flushes (old new : Cache) (result : Result (Unit {0}) CacheFault) : Type 0 where
  -- after `Ok` no page is changed, and the store's pages seal the payloads
  pub written : OnOk result (IsWritten new)
  -- after `Ok` every page is synced, and no sync of the store ever failed
  pub synced : OnOk result (IsSynced new.store)
  -- no payload changes, on an error too
  pub stays : KeepsPayloads old new
  -- if no page is changed, none more is unsynced
  pub unsynced : UnsyncsNone old new
  -- the store has as many pages as before
  pub length : SameLength old new
  -- no ask is counted
  pub asked : new.asked ≡ old.asked
  -- if memory runs out, the cache is as it was
  pub memory : IsErrOf result fault.Memory → new ≡ old
  -- it fails only if memory runs out or the store failed
  pub cause : IfErr result (λ fault. IsStopped fault old new)

-- a call for page n that answers: the page has the payload w
pub record Lends (n : ℕ) (w : Payload) (old new : Cache) : Type 0 where
  pub writes : Writes n w old new
  pub unsynced : UnsyncsNone old new
  pub length : SameLength old new
  pub asks : AsksOnce old new

-- a call for a page that changes none
pub record Rests (old new : Cache) : Type 0 where
  pub stays : KeepsPayloads old new
  pub unsynced : UnsyncsNone old new
  pub length : SameLength old new
  pub asks : AsksOnce old new
