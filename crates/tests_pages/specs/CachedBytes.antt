-- Helpers of private functions: what the examples promise.
use Rattle.std.specs.Prelude.{ℕ, ◌≡◌, Some, IsTrue, slice_index, slice_set}
use Rattle.pages.specs.declared.payload.Payload.{Payload}
use Rattle.pagecache.specs.Cache.{Cache, Lends, payload_of}

-- the payload with another byte at a place
abbrev pub with_byte : Payload → ℕ → ℕ → Payload
with_byte p place value = record p { bytes = slice_set p.bytes place value }

-- the value is the byte at a place of page n
abbrev pub ReadsByte : Cache → ℕ → ℕ → ℕ → Type 0
ReadsByte c n place value =
    IsTrue c.store.is_faithful → (p : Payload) → payload_of c n ≡ Some p
    → value ≡ slice_index p.bytes place

-- page n has another byte at a place, and no other page has changed
abbrev pub WritesByte : ℕ → ℕ → ℕ → Cache → Cache → Type 0
WritesByte n place value old new =
    IsTrue old.store.is_faithful → (p : Payload) → payload_of old n ≡ Some p
    → Lends n (with_byte p place value) old new
