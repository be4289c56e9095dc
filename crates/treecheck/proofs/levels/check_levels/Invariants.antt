use Rattle.std.proofs.Common.{ℕ, suc, ◌≡◌, ◌+◌, ◌-◌, ◌^◌, ◌<◌}
use Rattle.std.specs.Prelude.{IsTrue}
use Rattle.chains.specs.Reads.{OnlyReads}
use Rattle.tbtree.specs.Nodes.{pages_of_cache}
use Rattle.treecheck.specs.Levels.{named_below, AllStandAbove}
use Rattle.treecheck.proofs.levels.check_levels.Given as goal

abbrev pub invariant-loop-level : goal.invariant-loop-level
invariant-loop-level g l = record {
  reads : OnlyReads l.initial.cache l.cache;
  span : l.span ≡ l.inner ^ (l.height - l.level);
  pages : IsTrue l.initial.cache.store.is_faithful → l.pages.items ≡ named_below (pages_of_cache l.initial.cache) l.root l.level;
  above : IsTrue l.initial.cache.store.is_faithful → (k n : ℕ) → n + suc k ≡ l.height → n < l.level
      → AllStandAbove (pages_of_cache l.initial.cache) (suc k) (l.inner ^ k) (l.inner ^ suc k) l.leaves (named_below (pages_of_cache l.initial.cache) l.root n);
}
