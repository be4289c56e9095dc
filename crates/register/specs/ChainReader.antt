-- Helpers of private functions: a text that is being read from a chain of pages.
use Rattle.std.specs.Prelude.{ℕ, ◌≡◌, ◌≢◌, ◌<◌, ◌-◌, min, true, false, List, ◌++◌, length, Option, Some, None, option_map, Result, Ok, Err, IfOk, IfErr, IfSome, IsTrue, OnOk}
use Rattle.pages.specs.Store.{Faulted}
use Rattle.pagecache.specs.Cache.{payload_of, Cache}
use Rattle.pagecache.specs.declared.fault.CacheFault.{CacheFault}
use Rattle.pagecache.specs.declared.fault.CacheFault.TheVariants as cache
use Rattle.pages.specs.declared.payload.Payload.{Payload}
use Rattle.chains.specs.Reads.{OnlyReads}
use Rattle.register.specs.Chain.{most_used, is_part, next_in, text_in, text_at}
use Rattle.register.specs.declared.fault.CatalogueFault.{CatalogueFault}
use Rattle.register.specs.declared.fault.CatalogueFault.TheVariants.{Memory, Store, StoreFull, Damaged, Malformed}

-- the page of the chain that comes next, 0 for none; how many bytes of the text stand there and in
-- the pages behind it; and the bytes that were read and are not taken yet
pub record ReaderView : Type 0 where
  pub next : ℕ
  pub left : ℕ
  pub bytes : List ℕ

-- the text that is left; none where the pages hold no such text
abbrev pub rest_of : (ℕ → Option Payload) → ReaderView → Option (List ℕ)
rest_of at r = option_map (λ t. r.bytes ++ t) (text_at at r.left r.next)

-- a cache over a faithful store has these pages
pub record Shows (c : Cache) (at : ℕ → Option Payload) : Type 0 where
  pub faithful : IsTrue c.store.is_faithful
  pub same : (p : ℕ) → at p ≡ payload_of c p

-- how a fault of the cache is answered where a page is read
abbrev pub fault_of : CacheFault → CatalogueFault
fault_of cache.NoPage = Malformed
fault_of cache.Store = Store
fault_of (cache.Damaged n) = Damaged n
fault_of cache.StoreFull = StoreFull
fault_of cache.Memory = Memory

-- the store failed where that is said; a call that only reads says nothing of a full or unfinished store
abbrev pub IsReadFault : Cache → Cache → CatalogueFault → Type 0
IsReadFault old new Memory = Unit {0}
IsReadFault old new Store = Faulted old.store new.store
IsReadFault old new (Damaged page) = Unit {0}
IsReadFault old new Malformed = Unit {0}
IsReadFault old new _ = ⊥

-- a fault of the pages, and of the text in them
abbrev pub IsBroken : CatalogueFault → Type 0
IsBroken (Damaged page) = Unit {0}
IsBroken Malformed = Unit {0}
IsBroken _ = ⊥

-- the next page of the chain is taken in
pub record TakesPart (payload : Payload) (old new : ReaderView) : Type 0 where
  pub form : is_part (min most_used old.left) payload ≡ true
  pub next : new.next ≡ next_in payload
  pub left : new.left ≡ old.left - most_used
  pub bytes : new.bytes ≡ old.bytes ++ text_in (min most_used old.left) payload

-- or it has not the form of one, or memory ran out
abbrev pub IsPageFault : Payload → ReaderView → CatalogueFault → Type 0
IsPageFault payload old Memory = Unit {0}
IsPageFault payload old Malformed = is_part (min most_used old.left) payload ≡ false
IsPageFault payload old _ = ⊥

-- bytes are no text, or memory ran out
abbrev pub IsTextFault : CatalogueFault → Type 0
IsTextFault Memory = Unit {0}
IsTextFault Malformed = Unit {0}
IsTextFault _ = ⊥

-- what is made of what was read, or why it is not
pub record Makes {T : Type 0} (is_made : T → Type 0) (none : Type 0)
    (result : Result T CatalogueFault) : Type 0
  where
    pub is : IfOk result is_made
    -- if it fails for another reason than memory, nothing can be made
    pub broken : IfErr result (λ e. IsBroken e → none)
    -- it fails only if memory runs out, or with `Malformed`
    pub fault : IfErr result IsTextFault

-- what is found, or that there is nothing such
pub record Finds {T : Type 0} (is_found : T → Type 0) (nothing : Type 0) (result : Option T) : Type 0
  where
    pub some : IfSome result is_found
    pub none : result ≡ None → nothing

-- what is read of the pages that a cache shows, or why nothing is
pub record ReadsPages {T : Type 0} (old new : Cache) (is_read : (ℕ → Option Payload) → T → Type 0)
    (none : (ℕ → Option Payload) → Type 0) (result : Result T CatalogueFault) : Type 0
  where
    pub is : IfOk result (λ v. (at : ℕ → Option Payload) → Shows old at → is_read at v)
    -- if it fails for another reason than memory or the store, there is nothing such
    pub broken : IfErr result (λ e. (at : ℕ → Option Payload) → Shows old at → IsBroken e → none at)
    -- no payload changes, and no page that was not changed is written
    pub reads : OnlyReads old new
    -- `Store` is returned only if the store failed
    pub caused : IfErr result (IsReadFault old new)

-- a text is shorter than that, if it is there
abbrev pub IsShorter : ℕ → Option (List ℕ) → Type 0
IsShorter len rest = (text : List ℕ) → rest ≡ Some text → length text < len

-- pages are read on in a text, which is the same then, or has not what is asked for
pub record ReadsAhead (old new : Cache) (from to : ReaderView) (is_done : Type 0)
    (lacks : Option (List ℕ) → Type 0) (result : Result (Unit {0}) CatalogueFault) : Type 0
  where
    pub same : OnOk result ((at : ℕ → Option Payload) → Shows old at → rest_of at to ≡ rest_of at from)
    pub ready : OnOk result is_done
    pub broken : IfErr result (λ e. (at : ℕ → Option Payload) → Shows old at → IsBroken e
        → lacks (rest_of at from))
    pub reads : OnlyReads old new
    pub caused : IfErr result (IsReadFault old new)

-- what a call that reads a value leaves, and why it is refused: of the text that is left there remains what
-- stands behind the value's own text; where the pages are said to be damaged or malformed, no such value's text
-- stands there
pub record ReadsValue {V : Type 0} (old new : Cache) (from to : ReaderView) (text : V → List ℕ)
    (is_value : V → Type 0) (result : Result V CatalogueFault) : Type 0
  where
    pub taken : IfOk result (λ v. (at : ℕ → Option Payload) → Shows old at
        → is_value v × (rest_of at from ≡ option_map (λ t. text v ++ t) (rest_of at to)))
    pub lacks : IfErr result (λ e. (at : ℕ → Option Payload) → Shows old at → IsBroken e
        → (v : V) (t : List ℕ) → is_value v → rest_of at from ≢ Some (text v ++ t))
    pub reads : OnlyReads old new
    pub caused : IfErr result (IsReadFault old new)

-- the same where the value is put somewhere
pub record ReadsInto {V : Type 0} (old new : Cache) (from to : ReaderView) (text : V → List ℕ)
    (is_value is_put : V → Type 0) (result : Result (Unit {0}) CatalogueFault) : Type 0
  where
    pub value : V
    pub put : OnOk result (is_put value)
    pub read : ReadsValue old new from to text is_value
        (elim result [ Ok _ ↦ Ok value | Err e ↦ Err e ])
