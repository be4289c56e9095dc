-- What may go wrong with a page of a tree: what causes a refusal, which refusals good pages allow, and which page is
-- named. A call reads where it changes no payload and adds no page, as a search does, and else it writes.
use Rattle.std.specs.Prelude.{ℕ, ◌≡◌, ◌≢◌, ◌<◌, Result, MatchResult, None, IsTrue}
use Rattle.pages.specs.Store.{Faulted}
use Rattle.pagecache.specs.Cache.{Cache, payload_of}
use Rattle.pagecache.specs.declared.fault.CacheFault.{CacheFault}
use Rattle.pagecache.specs.declared.fault.CacheFault.TheVariants as cache
use Rattle.tbtree.specs.declared.fault.TreeFault.{TreeFault}
use Rattle.tbtree.specs.declared.fault.TreeFault.TheVariants.{Cache as OfCache, Malformed, Spent}

-- why a page was not lent: that there is none of its number is said as that page being malformed
abbrev pub fault_of : ℕ → CacheFault → TreeFault
fault_of page cache.NoPage = Malformed page
fault_of page fault = OfCache fault

-- what causes the refusal of a read: a store that is said to have failed did, and a page that is said to be damaged is
-- there and has no payload; no page is said to be absent, no store full, and no tree spent
abbrev pub RefusesReadInCache : Cache → Cache → CacheFault → Type 0
RefusesReadInCache old new cache.Store = Faulted old.store new.store
RefusesReadInCache old new (cache.Damaged n) =
    (n < old.count) × (IsTrue old.store.is_faithful → payload_of old n ≡ None)
RefusesReadInCache old new cache.Memory = Unit {0}
RefusesReadInCache old new _ = ⊥

-- the same of a tree: of a malformed page nothing is said, and no tree is spent
abbrev pub RefusesRead : Cache → Cache → TreeFault → Type 0
RefusesRead old new (OfCache fault) = RefusesReadInCache old new fault
RefusesRead old new (Malformed n) = Unit {0}
RefusesRead old new Spent = ⊥

-- what causes the refusal of a write: a store that is said to have failed did, one that is said to be full is, and a
-- page that is said to be damaged is there and has no payload; no page is said to be absent, and no tree spent
abbrev pub RefusesWriteInCache : Cache → Cache → CacheFault → Type 0
RefusesWriteInCache old new cache.Store = Faulted old.store new.store
RefusesWriteInCache old new (cache.Damaged n) =
    (n < new.count) × (IsTrue new.store.is_faithful → payload_of new n ≡ None)
RefusesWriteInCache old new cache.StoreFull = new.count ≡ new.store.most
RefusesWriteInCache old new cache.Memory = Unit {0}
RefusesWriteInCache old new _ = ⊥

-- the same of a tree: of a malformed page nothing is said, and no tree is spent
abbrev pub RefusesWrite : Cache → Cache → TreeFault → Type 0
RefusesWrite old new (OfCache fault) = RefusesWriteInCache old new fault
RefusesWrite old new (Malformed n) = Unit {0}
RefusesWrite old new Spent = ⊥

-- the refusals of a read that good pages allow: a store that failed, and want of memory
abbrev pub MayRefuseReadInCache : CacheFault → Type 0
MayRefuseReadInCache cache.Store = Unit {0}
MayRefuseReadInCache cache.Memory = Unit {0}
MayRefuseReadInCache _ = ⊥

-- the same of a tree, of which no page is malformed and which is not spent
abbrev pub MayRefuseRead : TreeFault → Type 0
MayRefuseRead (OfCache fault) = MayRefuseReadInCache fault
MayRefuseRead _ = ⊥

-- those of a write: these, and a full store
abbrev pub MayRefuseWriteInCache : CacheFault → Type 0
MayRefuseWriteInCache cache.Store = Unit {0}
MayRefuseWriteInCache cache.StoreFull = Unit {0}
MayRefuseWriteInCache cache.Memory = Unit {0}
MayRefuseWriteInCache _ = ⊥

-- the same of a tree, of which no page is malformed and which is not spent
abbrev pub MayRefuseWrite : TreeFault → Type 0
MayRefuseWrite (OfCache fault) = MayRefuseWriteInCache fault
MayRefuseWrite _ = ⊥

-- P of what was read, or of what was written, or a refusal that good pages allow
abbrev pub GivesRead : {T : Type 0} → Result T TreeFault → (T → Type 0) → Type 0
GivesRead result P = MatchResult result P MayRefuseRead

-- P of what was written, or a refusal that good pages allow
abbrev pub GivesWrite : {T : Type 0} → Result T TreeFault → (T → Type 0) → Type 0
GivesWrite result P = MatchResult result P MayRefuseWrite

-- P of the page that is said to be damaged, and Q of the one that is said to be malformed
abbrev pub NamesInCache : (ℕ → Type 0) → CacheFault → Type 0
NamesInCache P (cache.Damaged n) = P n
NamesInCache P _ = Unit {0}

-- the same of a tree, whose malformed page has Q
abbrev pub NamesEach : (ℕ → Type 0) → (ℕ → Type 0) → TreeFault → Type 0
NamesEach P Q (OfCache fault) = NamesInCache P fault
NamesEach P Q (Malformed n) = Q n
NamesEach P Q Spent = Unit {0}

-- P of the page that is said to be damaged or malformed
abbrev pub IfNamed : (ℕ → Type 0) → TreeFault → Type 0
IfNamed P fault = NamesEach P P fault
