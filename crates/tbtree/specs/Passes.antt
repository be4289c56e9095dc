-- What every call of the tree leaves of the cache, answered or not, whatever its pages hold.
use Rattle.std.specs.Prelude.{ℕ, ◌≡◌, ◌≤◌, ◌<◌, ◌^◌, ◌+◌, ◌-◌, min, false, IsTrue, IfErr, IfOk, OnOk, Result}
use Rattle.pages.specs.Store as store
use Rattle.pagecache.specs.Cache.{Cache, payload_of, page_of, is_changed}
use Rattle.tbtree.specs.Faults.{MayRefuseWrite, RefusesWrite}
use Rattle.tbtree.specs.declared.fault.TreeFault.{TreeFault}

-- the cache is the same one: page 0 is kept, and neither pages nor asks grow fewer
pub record Passes (old new : Cache) : Type 0 where
  pub store : store.Keeps old.store new.store
  pub capacity : new.capacity ≡ old.capacity
  pub count : old.count ≤ new.count
  -- the count of asks did not fall; the greatest number that is counted stands for any greater one
  pub asked : min old.asked (2 ^ 64 - 1) ≤ new.asked
  -- page 0 has its payload; it is not marked as changed where it was not, and is then as written
  pub first : IsTrue old.store.is_faithful → 0 < old.count → payload_of new 0 ≡ payload_of old 0
  pub unmarked : 0 < old.count → is_changed old 0 ≡ false → is_changed new 0 ≡ false
  pub written : IsTrue old.store.is_faithful → 0 < old.count → is_changed old 0 ≡ false
      → page_of new 0 ≡ page_of old 0

-- there are as many pages as the store has, where there were
abbrev pub KeepsLength : Cache → Cache → Type 0
KeepsLength old new = old.count ≡ old.store.count → new.count ≡ new.store.count

-- what a call that writes pages of the tree leaves of the cache, and why it is refused
pub record Touches {T : Type 0} (old new : Cache) (result : Result T TreeFault) : Type 0 where
  -- answered or not: page 0 is kept, and nothing goes
  pub passes : Passes old new
  -- answered: no page is added to the store alone
  pub length : OnOk result (KeepsLength old new)
  -- refused: what the fault says is so
  pub caused : IfErr result (RefusesWrite old new)

-- a call that changes pages one by one: what it gives, and that it is refused over good pages only as they allow
pub record Edits {T : Type 0} (old new : Cache) (asks : ℕ) (result : Result T TreeFault)
    (Given : T → Type 0) (Good : Type 0) : Type 0 where
  pub gives : IsTrue old.store.is_faithful → IfOk result Given
  pub only : IsTrue old.store.is_faithful → Good → IfErr result MayRefuseWrite
  pub touches : Touches old new result
  -- at most so many pages were asked for
  pub asked : new.asked ≤ old.asked + asks

-- a call that writes pages of the tree: what it says over a faithful store. If it was answered, it asked for so many pages
-- at most, and left so many of these
pub record Writes {T : Type 0} (old new : Cache) (result : Result T TreeFault) (asks : T → ℕ)
    (spare : ℕ) (Says : Type 0) : Type 0 where
  pub says : IsTrue old.store.is_faithful → Says
  pub touches : Touches old new result
  pub asked : IfOk result (λ x. new.asked + spare ≤ old.asked + asks x)
