use Rattle.std.proofs.Common.{◌≡◌, take}
use Rattle.tbtree.specs.Nodes.{children}
use Rattle.treecheck.specs.Levels.{pages_of_leaves}
use Rattle.treecheck.proofs.levels.has_leaves.Given as goal

abbrev pub invariant-loop-i : goal.invariant-loop-i
invariant-loop-i l = take l.i (children l.inner) ≡ take l.i (pages_of_leaves l.leaves)
