-- How page 0 of a store begins.
use Rattle.std.specs.Prelude.{ℕ, ◌≡◌, ◌==◌, ◌&&◌, Bool, true, false, if◌then◌else◌, List, [], ◌∷◌, ◌++◌, take, drop, Option, Some, None}
use Rattle.byteorder.specs.Endian.{big_bytes, big_number}
use Rattle.pages.specs.declared.payload.Kind.{Kind}
use Rattle.pages.specs.declared.payload.Kind.TheVariants.{Header, Leaf, Inner, Catalogue}
use Rattle.pages.specs.declared.payload.Payload.{Payload}
use Rattle.tbnode.specs.Parts.{number_at, put}
use Rattle.header.specs.declared.fronts.Front.{Front}

-- the letters MFTB
abbrev pub letters : List ℕ
letters = 77 ∷ 70 ∷ 84 ∷ 66 ∷ []

-- they, the version and the state, four bytes each
unfoldable pub front_bytes : Front → List ℕ
front_bytes f = letters ++ (big_bytes 4 f.version ++ big_bytes 4 f.state)

-- a store that is not finished: version 2 and state 0
abbrev pub unfinished_front : Front
unfinished_front = record { version = 2; state = 0 }

-- a finished store: version 2 and state 1
abbrev pub finished_front : Front
finished_front = record { version = 2; state = 1 }

-- whether a kind of payload is that of page 0
abbrev pub is_header : Kind → Bool
is_header Header = true
is_header Leaf = false
is_header Inner = false
is_header Catalogue = false

-- the version and the state that a payload says, where it is a header and begins with the letters
unfoldable pub front_of : Payload → Option Front
front_of payload =
    if is_header payload.kind && (number_at 4 0 payload.bytes == big_number 4 letters)
    then Some (record {
      version = number_at 4 4 payload.bytes;
      state = number_at 4 8 payload.bytes;
    })
    else None

-- the header of a store that is not finished
pub record IsUnfinished (payload : Payload) : Type 0 where
  pub kind : payload.kind ≡ Header
  pub front : take 12 payload.bytes ≡ front_bytes unfinished_front

-- the header of a finished store
abbrev pub IsFinished : Payload → Type 0
IsFinished payload = front_of payload ≡ Some finished_front

-- the header of a store that is not finished where its database has begun, and of a finished one where it has not
abbrev pub HasState : Bool → Payload → Type 0
HasState true payload = IsUnfinished payload
HasState false payload = IsFinished payload

-- page 0 is such a header
pub record SaysState (begun : Bool) (first : Option Payload) : Type 0 where
  pub payload : Payload
  pub is : first ≡ Some payload
  pub state : HasState begun payload

-- a payload that is made the header of a store that is not finished
abbrev pub marked : Payload → Payload
marked payload =
    record { kind = Header; bytes = front_bytes unfinished_front ++ drop 12 payload.bytes }

-- a header with another state, in the four bytes behind the version
abbrev pub with_state : ℕ → Payload → Payload
with_state state payload = record payload { bytes = put 8 (big_bytes 4 state) payload.bytes }

-- and one that is made that of a finished store
abbrev pub finished : Payload → Payload
finished payload = with_state finished_front.state payload
