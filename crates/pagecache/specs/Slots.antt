-- What is seen of the inner cache, and what holds of it.
use Rattle.std.specs.Prelude.{ℕ, Bool, List, [], map, slice_index, slice_index_or, filter, false, Option, option_map, IfSome, ◌≡◌, ◌-◌, ◌<◌, ◌≤◌, Some, length, slice_get, IsTrue, IsSome, IfErr, IfOk, OnErr, OnOk, Result}
use Rattle.std.specs.Box.{box_value}
use Rattle.std.specs.Map.{keys_of}
use Rattle.pages.specs.Store as store
use Rattle.pages.specs.Unsealed.{unsealed}
use Rattle.pages.specs.declared.payload.Payload.{Payload}
use Rattle.pages.specs.Store.{Faulted}
use Rattle.pagecache.specs.Cache.{Cache, in_memory, page_of, sealed_payload, is_changed, Adds, KeepsPayloads, SameLength, UnsyncsNone}
use Rattle.pagecache.specs.declared.fault.CacheFault.{CacheFault}
use Rattle.pagecache.specs.declared.fault.CacheFault.TheVariants.{Store}
use Rattle.pagecache.specs.declared.slots.Held.{Held}
use Rattle.pagecache.specs.declared.slots.Slots.{Slots}

-- what is seen of an inner cache, by what is seen of its store
abbrev pub seen_of : {S : Type 0} → (S → store.Store) → Slots S → Cache
seen_of seen c = record {
  store = seen c.store;
  held = c.held.entries;
  capacity = c.held.cap;
  count = c.count;
  asked = c.asked;
}

-- what holds of every cache
pub record IsSound (c : Cache) : Type 0 where
  pub within : c.count ≤ c.store.count
  pub below : (n : ℕ) → IsSome (in_memory c n) → n < c.count
  pub clean : IsTrue c.store.is_faithful → (n : ℕ) (h : Held) → in_memory c n ≡ Some h
      → h.changed ≡ false → sealed_payload c n ≡ Some (box_value h.payload)

-- there are no more pages in memory than may be
pub record IsWithin (c : Cache) : Type 0 where
  pub some : 0 < c.capacity
  pub fits : length c.held ≤ c.capacity

-- P holds of the page that leaves when one comes in
abbrev pub OnLeaving : Cache → (ℕ → Type 0) → Type 0
OnLeaving c P = (e : ℕ × Held) → slice_get c.held (c.capacity - 1) ≡ Some e → P e.0

-- a page can come in
pub record HasRoom (c : Cache) : Type 0 where
  pub within : IsWithin c
  pub leaving : OnLeaving c (λ n. is_changed c n ≡ false)

-- page n is the one that was used last
abbrev pub IsFirst : Cache → ℕ → Type 0
IsFirst c n = (h : Held) × (slice_get c.held 0 ≡ Some (n, h))

-- a step is refused since the store failed
abbrev pub HasFailed : CacheFault → Cache → Cache → Type 0
HasFailed fault old new = (fault ≡ Store) × Faulted old.store new.store

-- the payload of page n in memory
abbrev pub held_payload : Cache → ℕ → Option Payload
held_payload c n = option_map (λ h. box_value h.payload) (in_memory c n)

-- each page in memory has the payload that it had, and no other page is there
abbrev pub SameInMemory : Cache → Cache → Type 0
SameInMemory old new = (n : ℕ) → held_payload new n ≡ held_payload old n

-- a page seals the payload of page n in memory, where that one is there
abbrev pub Seals : Cache → ℕ → List ℕ → Type 0
Seals c n page = IfSome (held_payload c n) (λ p. unsealed n page ≡ Some p)

-- what every step inside keeps
pub record Steps (old new : Cache) : Type 0 where
  pub sound : IsSound new
  pub stays : KeepsPayloads old new
  pub unsynced : UnsyncsNone old new
  pub asked : new.asked ≡ old.asked
  pub length : SameLength old new

-- a page comes in behind the last one, with the payload w, or none does
pub record Appends (w : Payload) (old new : Cache) (result : Result ℕ CacheFault) : Type 0 where
  pub sound : IsSound new
  pub adds : OnOk result (Adds w old new)
  pub number : IfOk result (λ number. number ≡ old.count)
  pub length : OnOk result (old.count ≡ old.store.count → new.count ≡ new.store.count)
  pub stays : OnErr result (KeepsPayloads old new)
  pub asked : new.asked ≡ old.asked

-- a step that writes changed pages, or is refused since the store failed
pub record WritesBack (old new : Cache) (result : Result (Unit {0}) CacheFault) : Type 0 where
  pub steps : Steps old new
  pub keys : keys_of new.held ≡ keys_of old.held
  pub cause : IfErr result (λ fault. HasFailed fault old new)

-- the numbers of the changed pages
abbrev pub changed_numbers : List (ℕ × Held) → List ℕ
changed_numbers held = map (λ e. e.0) (filter (λ e. e.1.changed) held)

-- page n is there and not changed, and it is a page as written
pub record IsRead (c : Cache) (n : ℕ) (page : List ℕ) : Type 0 where
  pub below : n < c.count
  pub unchanged : is_changed c n ≡ false
  pub written : IsTrue c.store.is_faithful → page_of c n ≡ Some page

-- so are those of the first k of some pages that were found
pub record AreRead (c : Cache) (numbers : List ℕ) (found : List Bool) (pages : List (List ℕ)) (k : ℕ) : Type 0 where
  pub each : (j : ℕ) → j < k → IsTrue (slice_index_or found j false)
      → IsRead c (slice_index numbers j) (slice_index_or pages j [])
