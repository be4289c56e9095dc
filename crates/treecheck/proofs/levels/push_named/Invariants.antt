use Rattle.std.proofs.Common.{◌≡◌, ◌++◌, take}
use Rattle.tbtree.specs.Nodes.{children}
use Rattle.treecheck.proofs.levels.push_named.Given as goal

abbrev pub invariant-loop-i : goal.invariant-loop-i
invariant-loop-i l = l.below.items ≡ l.initial.below.items ++ take l.i (children l.inner)
