use Rattle.std.proofs.Common.{ℕ, ◌≡◌, ◌<◌, Some, take, slice_get}
use Rattle.std.specs.Prelude.{IsTrue}
use Rattle.std.specs.List.{flat_map}
use Rattle.legs.specs.Blocks.{block}
use Rattle.chains.specs.Reads.{OnlyReads}
use Rattle.tbtree.specs.Nodes.{pages_of_cache}
use Rattle.treecheck.specs.Levels.{named_by, StandsAbove}
use Rattle.treecheck.proofs.levels.level_below.Given as goal

abbrev pub invariant-loop-i : goal.invariant-loop-i
invariant-loop-i g l = record {
  reads : OnlyReads l.initial.cache l.cache;
  named : IsTrue l.initial.cache.store.is_faithful → l.below.items ≡ flat_map (named_by (pages_of_cache l.initial.cache)) (take l.i l.pages);
  above : IsTrue l.initial.cache.store.is_faithful → (j p : ℕ) → j < l.i → slice_get l.pages j ≡ Some p → StandsAbove (pages_of_cache l.initial.cache) l.level l.width (block l.span j l.leaves) p;
}
