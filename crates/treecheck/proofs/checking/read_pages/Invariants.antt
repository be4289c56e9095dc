use Rattle.std.proofs.Common.{ℕ, ◌≢◌, ◌<◌, None}
use Rattle.std.specs.Prelude.{IsTrue}
use Rattle.chains.specs.Reads.{OnlyReads}
use Rattle.tbtree.specs.Nodes.{pages_of_cache}
use Rattle.treecheck.proofs.checking.read_pages.Given as goal

abbrev pub invariant-loop-page : goal.invariant-loop-page
invariant-loop-page g l = record {
  reads : OnlyReads l.initial.cache l.cache;
  held : IsTrue l.initial.cache.store.is_faithful → (p : ℕ) → p < l.page → (pages_of_cache l.initial.cache).at p ≢ None;
}
