-- Which pages stay as they were written, and what is synced.
use Rattle.std.proofs.Common.{◌≡◌, ◌⊎◌, ◌∙◌, ap, cond, refl, sym, inl, inr, [], take, true, false, Bool, IsTrue, Result, Ok, Err, subst}
use Rattle.std.specs.Prelude.{OnOk}
use Rattle.pages.specs.Store.{IsSynced, Store}
use Rattle.pagecache.specs.Cache.{pages_as_written}
use Rattle.legs.specs.Finding.{Finding}
use Rattle.boxsearch.specs.Index.{words, written, IndexView}
use Rattle.trajdb.specs.Calls.{KeepsPages, LeavesBook}
use Rattle.trajdb.specs.Db.{DbView}
use Rattle.trajdb.specs.Lasting.{IsIdle}
use Rattle.trajdb.specs.declared.RunFault.{RunFault}
use Rattle.trajdb.specs.declared.RunFault.TheVariants as run
use Rattle.sessions.specs.Answers.{HasWritten}

-- the pages as written of an index over a faithful store
written_is : (i : IndexView) → IsTrue i.cache.store.is_faithful → written i ≡ take i.cache.count i.cache.store.pages
unfolding pages_as_written
written_is i faithful = ap (λ b. cond b (pages_as_written i.cache) []) faithful

-- what a question leaves of a database at rest has the pages as they were written
left_written : (old new : DbView) (s : Store) → LeavesBook words old new → s ≡ new.index.cache.store → IsTrue old.index.cache.store.is_faithful → IsIdle old → old.begun ≡ false → old.failed ≡ false → HasWritten old s
left_written old new s leaves same faithful idle unbegun lives =
    let count : new.index.cache.count ≡ old.index.cache.count = ap (λ (f : Finding). f.pages) leaves.index.found_by in
    let pages : take new.index.cache.count new.index.cache.store.pages ≡ written old.index = sym (written_is new.index (leaves.index.later.faithful faithful)) ∙ leaves.index.written (idle unbegun lives).clean in
    subst (λ n. take n s.pages ≡ written old.index) count (subst (λ (k : Store). take new.index.cache.count k.pages ≡ written old.index) (sym same) pages)

-- so does a check
pub checked_stays : (old new : DbView) (s : Store) → LeavesBook words old new → (new.failed ≡ false → new.begun ≡ false → s ≡ new.index.cache.store) → IsTrue old.index.cache.store.is_faithful → IsIdle old → old.begun ≡ false → old.failed ≡ false → HasWritten old s
checked_stays old new s leaves same faithful idle unbegun lives =
    left_written old new s leaves (same (leaves.failed ∙ lives) (leaves.begun ∙ unbegun)) faithful idle unbegun lives

-- what is closed well is synced, or stays as it was written
pub closed_lasts : (old new : DbView) (s : Store) (closed : Result (Unit {0}) RunFault) → KeepsPages words old new → OnOk closed (new.begun ≡ true → IsSynced s) → (new.failed ≡ false → new.begun ≡ false → s ≡ new.index.cache.store)
    → (new.failed ≡ true → closed ≡ Err run.Failed) → IsTrue old.index.cache.store.is_faithful → IsIdle old → OnOk closed (IsSynced s ⊎ HasWritten old s)
closed_lasts old new s (Err e) keeps synced same fails faithful idle = tt
closed_lasts old new s (Ok x) keeps synced same fails faithful idle = by_state new.begun refl new.failed refl old.begun refl where
  by_state : (b : Bool) → new.begun ≡ b → (f : Bool) → new.failed ≡ f → (was : Bool) → old.begun ≡ was → IsSynced s ⊎ HasWritten old s
  by_state true is f failed was begun = inl (synced is)
  by_state false is true failed was begun = absurd (cc (fails failed))
  by_state false is false lives true begun = let wrong : true ≡ false = sym (keeps.begun begun) ∙ is in absurd cc
  by_state false is false lives false unbegun =
      let leaves = keeps.idle is lives in
      inr (left_written old new s leaves (same lives is) faithful idle unbegun (sym leaves.failed ∙ lives))
