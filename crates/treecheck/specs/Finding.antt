-- What the calls of a check say of what they read.
use Rattle.std.specs.Prelude.{Bool, Result, IsTrue, IfErr, IfOk}
use Rattle.std.specs.declared.alloc.AllocError.{AllocError}
use Rattle.chains.specs.Reads.{Reads}
use Rattle.pagecache.specs.Cache.{Cache}
use Rattle.tbtree.specs.Faults.{MayRefuseRead}
use Rattle.tbtree.specs.declared.fault.TreeFault.{TreeFault}

-- what a call over a cache gives, and which pages it does not refuse
pub record FindsPages {T : Type 0} (Are : Type 0) (Gives : T → Type 0) (old new : Cache)
    (result : Result T TreeFault) : Type 0 where
  -- answered, over a faithful store: what it gives is so
  pub found : IsTrue old.store.is_faithful → IfOk result Gives
  -- refused, over a faithful store, where the pages are as they should be: memory ran out, or the store failed
  pub only : IsTrue old.store.is_faithful → Are → IfErr result MayRefuseRead
  -- answered or not: no payload changes, and `Store` is returned only if the store failed
  pub reads : Reads old new result

-- a test of pages over a cache: what passes is so, and what is so passes
abbrev pub TestsPages : {T : Type 0} → Type 0 → (old new : Cache) → Result T TreeFault → Type 0
TestsPages AreSo old new result = FindsPages AreSo (λ _. AreSo) old new result

-- what is as it should be is taken, and nothing else is
pub record TakesIf (IsSo Taken : Type 0) (result : Result Bool AllocError) : Type 0 where
  -- taken: it is as it should be, and what was found has it
  pub taken : IfOk result (λ whole. IsTrue whole → IsSo × Taken)
  -- it is as it should be: it is taken
  pub whole : IfOk result (λ whole. IsSo → IsTrue whole)
