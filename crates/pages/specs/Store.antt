-- What contracts see of a store of pages, and what a call does to it.
use Rattle.std.specs.Prelude.{ℕ, Bool, true, false, IsTrue, ◌≡◌, ◌≢◌, ◌⊎◌, ◌+◌, ◌-◌, ◌^◌, ◌<◌, ◌≤◌, min, max, length, List, [], ◌∷◌, ◌++◌, take, drop, slice_set, slice_index_or}
use Rattle.pages.specs.Unsynced.{with_written}
use Rattle.pages.specs.declared.unsynced.Unsynced.{Unsynced}
use Rattle.pages.specs.declared.unsynced.Unsynced.TheVariants.{Nothing, Others}

-- how many pages there are and may be, how many calls have failed, which pages may be unsynced, whether a sync was ever
-- refused, whether a read gives the page last written there, and, of a faithful store, the pages as written
pub record Store : Type 0 where
  pub count : ℕ
  pub most : ℕ
  pub faults : ℕ
  pub unsynced : Unsynced
  pub has_lost : Bool
  pub is_faithful : Bool
  pub pages : List (List ℕ)

-- a store with no page
abbrev pub empty_store : ℕ → Store
empty_store most = record {
  count = 0;
  most = most;
  faults = 0;
  unsynced = Nothing;
  has_lost = false;
  is_faithful = true;
  pages = [];
}

-- the store with another byte at a place of page n
abbrev pub with_byte : ℕ → ℕ → ℕ → Store → Store
with_byte n place byte s =
    record s { pages = slice_set s.pages n (slice_set (slice_index_or s.pages n []) place byte) }

-- what holds of every store
pub record IsLawful (s : Store) : Type 0 where
  pub within : s.count ≤ s.most
  pub small : s.most < 2 ^ 32
  pub counted : IsTrue s.is_faithful → length s.pages ≡ s.count

-- a count of faults has gone up, but for one that stands at its end already
abbrev pub HasRisen : ℕ → ℕ → Type 0
HasRisen old new = min (old + 1) (2 ^ 64 - 1) ≤ new

-- the store has failed
abbrev pub Faulted : Store → Store → Type 0
Faulted old new = HasRisen old.faults new.faults

-- no page is unsynced
abbrev pub NoneUnsynced : Store → Type 0
NoneUnsynced s = s.unsynced ≡ Nothing

-- and no sync was ever refused, so that none of them can be lost
pub record IsSynced (s : Store) : Type 0 where
  pub none : NoneUnsynced s
  pub never_lost : s.has_lost ≡ false

-- no page but page 0 is
abbrev pub IsSyncedButFirst : Store → Type 0
IsSyncedButFirst s = s.unsynced ≢ Others

-- as much is unsynced as was
abbrev pub SameUnsynced : Store → Store → Type 0
SameUnsynced old new = new.unsynced ≡ old.unsynced

-- so it is, or nothing is
abbrev pub UnsyncsNone : Store → Store → Type 0
UnsyncsNone old new = SameUnsynced old new ⊎ NoneUnsynced new

-- what every call keeps; what was lost stays so
pub record Keeps (old new : Store) : Type 0 where
  pub most : new.most ≡ old.most
  pub faithful : new.is_faithful ≡ old.is_faithful
  pub faults : old.faults ≤ new.faults
  pub lost : IsTrue old.has_lost → IsTrue new.has_lost

-- the pages with p at n, where n may be the place after the last
abbrev pub put_page : {X : Type 0} → List X → ℕ → X → List X
put_page pages n p = take n pages ++ p ∷ drop (n + 1) pages

-- no page but n has changed, and n may be one more
abbrev pub IsTorn : {X : Type 0} → ℕ → List X → List X → Type 0
IsTorn {X = X} n old new = (new ≡ old) ⊎ ((p : X) × (new ≡ put_page old n p))

-- no page has changed, none was added, and none more is unsynced
pub record Stays (old new : Store) : Type 0 where
  pub keeps : Keeps old new
  pub count : new.count ≡ old.count
  pub pages : IsTrue old.is_faithful → new.pages ≡ old.pages
  pub unsynced : UnsyncsNone old new

-- page n is p, and no other has changed
pub record Writes (n : ℕ) (p : List ℕ) (old new : Store) : Type 0 where
  pub keeps : Keeps old new
  pub count : new.count ≡ max old.count (n + 1)
  pub pages : IsTrue old.is_faithful → new.pages ≡ put_page old.pages n p

-- page n holds any bytes, and may be one more; no other has changed
pub record Tears (n : ℕ) (old new : Store) : Type 0 where
  pub keeps : Keeps old new
  pub count : (new.count ≡ old.count) ⊎ ((n ≡ old.count) × (new.count ≡ n + 1))
  pub pages : IsTrue old.is_faithful → IsTorn n old.pages new.pages

-- page n counts as written and not synced
abbrev pub Unsyncs : ℕ → Store → Store → Type 0
Unsyncs n old new = new.unsynced ≡ with_written n old.unsynced

-- so it does where its write failed, unless no page has changed, of a faithful store
abbrev pub MayUnsync : ℕ → Store → Store → Type 0
MayUnsync n old new =
    Unsyncs n old new ⊎ (SameUnsynced old new × (IsTrue old.is_faithful → new.pages ≡ old.pages))
