-- Helpers of private functions: a text that is being written to a chain of pages.
use Rattle.std.specs.Prelude.{ℕ, ◌≡◌, ◌≢◌, ◌<◌, List, [], ◌∷◌, ◌++◌, length, All, AllPairs, Option, Some, IsTrue, ◌≤◌, ◌-◌, ◌^◌, min, drop, Result, OnOk, IfOk, IfErr}
use Rattle.pages.specs.Store.{Faulted}
use Rattle.pages.specs.declared.payload.Kind.TheVariants.{Catalogue}
use Rattle.pages.specs.declared.payload.Payload.{Payload}
use Rattle.pagecache.specs.Cache.{Cache, payload_of, SameLength, KeepsPayloads, Writes}
use Rattle.pagecache.specs.declared.fault.CacheFault.{CacheFault}
use Rattle.register.specs.Chain.{part_payload, most_used, text_at}
use Rattle.std.specs.Int.{div_ceil}
use Rattle.tbtree.specs.Passes.{Passes, KeepsLength}
use Rattle.register.specs.Saved.{SparesTree}
use Rattle.pagecache.specs.declared.fault.CacheFault.TheVariants as cache

-- the pages of the text so far, of which the last one is not written yet; the page of an earlier
-- chain that comes next, 0 for none; and the text that is not written yet
pub record WriterView : Type 0 where
  pub pages : List ℕ
  pub earlier : ℕ
  pub text : List ℕ

-- all pages but the last one are written: each is full, and names the next
abbrev pub AreWritten : (ℕ → Option Payload) → List ℕ → List ℕ → Type 0
AreWritten at [] written = ⊥
AreWritten at (p ∷ []) written = written ≡ []
AreWritten at (p ∷ q ∷ pages) written =
    (part : List ℕ) × (others : List ℕ) × (length part ≡ most_used) × (written ≡ part ++ others)
    × (at p ≡ Some (part_payload q part)) × AreWritten at (q ∷ pages) others

-- a page of a catalogue, above page 0
pub record IsOwn (at : ℕ → Option Payload) (p : ℕ) : Type 0 where
  pub above : 0 < p
  pub payload : Payload
  pub is : at p ≡ Some payload
  pub kind : payload.kind ≡ Catalogue

-- the text so far is what the pages have and what is not written yet, of which there is some where
-- a page is full; the pages are there, and no two are one
pub record HoldsText (at : ℕ → Option Payload) (count : ℕ) (w : WriterView)
    (text : List ℕ) : Type 0 where
  pub written : List ℕ
  pub all : text ≡ written ++ w.text
  pub left : 0 < length written → 0 < length w.text
  pub parts : AreWritten at w.pages written
  pub own : All (IsOwn at) w.pages
  pub below : All (λ p. p < count) w.pages
  pub apart : AllPairs (λ a b. a ≢ b) w.pages

-- so it is of a faithful store
abbrev pub Holds : Cache → WriterView → List ℕ → Type 0
Holds c w text = IsTrue c.store.is_faithful → HoldsText (payload_of c) c.count w text

-- the text of that length is in the chain from page n on, whatever page 0 has
abbrev pub HasText : Cache → ℕ → ℕ → List ℕ → Type 0
HasText c length n text =
    (at : ℕ → Option Payload) → ((p : ℕ) → 0 < p → at p ≡ payload_of c p)
    → text_at at length n ≡ Some text

-- the refusals over a faithful store
abbrev pub IsAllowed : CacheFault → Type 0
IsAllowed cache.NoPage = ⊥
IsAllowed (cache.Damaged n) = ⊥
IsAllowed _ = Unit {0}

-- the store failed where that is said, and is full where that is said
abbrev pub IsCaused : Cache → Cache → CacheFault → Type 0
IsCaused old new cache.Store = Faulted old.store new.store
IsCaused old new cache.StoreFull = new.count ≡ new.store.most
IsCaused old new _ = Unit {0}

-- the number of a page above page 0, in four bytes
pub record IsNumber (page : ℕ) : Type 0 where
  pub above : 0 < page
  pub small : page < 2 ^ 32

-- there is a page, and each has a number
pub record AreNumbers (pages : List ℕ) : Type 0 where
  pub some : 0 < length pages
  pub each : All IsNumber pages

-- page n is put behind others, and is none of them
pub record IsPutBehind (old : List ℕ) (n : ℕ) (new : List ℕ) : Type 0 where
  pub keys : new ≡ old ++ n ∷ []
  pub apart : All (λ p. p ≢ n) old

-- no page that is there has another payload
abbrev pub PayloadsStay : Cache → Cache → Type 0
PayloadsStay old new =
    IsTrue old.store.is_faithful → (p : ℕ) (payload : Payload) → payload_of old p ≡ Some payload
    → payload_of new p ≡ Some payload

-- page n is there, and one of a catalogue
pub record IsThere (c : Cache) (n : ℕ) : Type 0 where
  pub below : n < c.count
  pub payload : IsTrue c.store.is_faithful
      → (payload : Payload) × (payload_of c n ≡ Some payload) × (payload.kind ≡ Catalogue)

-- page n is one to write to, and no page that is there has another payload
pub record Gives (old : Cache) (n : ℕ) (new : Cache) : Type 0 where
  pub above : 0 < n
  pub below : n < new.count
  pub own : IsTrue old.store.is_faithful → IsOwn (payload_of new) n
  pub stay : PayloadsStay old new

-- what taking a page leaves, and why it is refused
pub record TakesPages {T : Type 0} (old new : Cache) (result : Result T CacheFault) : Type 0 where
  pub passes : Passes old new
  pub length : OnOk result (KeepsLength old new)
  pub tree : SparesTree old new
  pub only : IfErr result IsAllowed
  pub caused : IfErr result (IsCaused old new)

-- page n has that payload, and no other has another; it may be asked for more than once
pub record Fills (n : ℕ) (w : Payload) (old new : Cache) : Type 0 where
  pub writes : Writes n w old new
  pub length : SameLength old new
  pub asked : min old.asked (2 ^ 64 - 1) ≤ new.asked

-- no page has another payload; pages may be asked for more than once
pub record OnlyAsks (old new : Cache) : Type 0 where
  pub stays : KeepsPayloads old new
  pub length : SameLength old new
  pub asked : min old.asked (2 ^ 64 - 1) ≤ new.asked

-- what is behind the first n bytes that are not written
abbrev pub behind : ℕ → WriterView → WriterView
behind n w = record w { text = drop n w.text }

-- what writing on leaves, and why it is refused
pub record WritesOn {T : Type 0} (old new : Cache) (w : WriterView)
    (result : Result T CacheFault) : Type 0 where
  pub passes : Passes old new
  pub length : OnOk result (KeepsLength old new)
  pub tree : (text : List ℕ) → Holds old w text → SparesTree old new
  pub only : (text : List ℕ) → Holds old w text → IsTrue old.store.is_faithful
      → IfErr result IsAllowed
  pub caused : IfErr result (IsCaused old new)

-- what is left is written: the text is in the chain of its length from the first page on
pub record Closes (old new : Cache) (w : WriterView) (result : Result (ℕ × ℕ) CacheFault) : Type 0
  where
    pub writes : WritesOn old new w result
    pub text : IfOk result (λ r. (text : List ℕ) → Holds old w text → 0 < length text
        → IsTrue old.store.is_faithful
        → HasText new r.1 r.0 text × (div_ceil r.1 most_used ≤ new.count))

-- these bytes are put at the end of a text, and what they spell is whole
pub record Pushes {T E : Type 0} (bytes : List ℕ) (is_whole : Type 0) (old new : WriterView)
    (result : Result T E) : Type 0 where
  pub pushed : OnOk result (new ≡ record old { text = old.text ++ bytes })
  pub whole : OnOk result is_whole
