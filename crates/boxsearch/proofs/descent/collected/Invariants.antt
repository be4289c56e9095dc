use Rattle.std.proofs.Common.{◌≡◌, ◌+◌, ◌-◌, ◌^◌, ◌≤◌, ◌<◌, length}
use Rattle.std.specs.Prelude.{IsTrue}
use Rattle.chains.specs.Reads.{OnlyReads}
use Rattle.tbtree.specs.Descent.{pages_met, met_count}
use Rattle.tbtree.specs.Nodes.{pages_of_cache}
use Rattle.boxsearch.specs.Way.{meets}
use Rattle.boxsearch.proofs.WayLemmas.{FitsTo}
use Rattle.boxsearch.proofs.descent.collected.Given as goal

-- the pages that are met on the level before this one, and how many are left
abbrev pub invariant-loop-level : goal.invariant-loop-level
invariant-loop-level g l =
    let old = l.fn.cache in
    let nodes = pages_of_cache old in
    let root = l.fn.tree.root in
    record {
      reads : OnlyReads old l.cache;
      found : IsTrue old.store.is_faithful → l.pages.items ≡ pages_met (meets l.fn.query) nodes root (l.level - 1);
      way : IsTrue old.store.is_faithful → FitsTo l.fn.query nodes root l.fn.tree.levels (l.level - 1);
      asked : IsTrue old.store.is_faithful → l.cache.asked < 2 ^ 64 - 1 → l.cache.asked ≡ old.asked + met_count (meets l.fn.query) nodes root (l.level - 1);
      left : IsTrue old.store.is_faithful → l.left + met_count (meets l.fn.query) nodes root l.level ≡ old.count;
      most : l.cache.asked + (length l.pages.items + l.left) ≤ old.asked + old.count;
    }
