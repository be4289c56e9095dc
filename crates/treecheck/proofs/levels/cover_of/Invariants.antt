use Rattle.std.proofs.Common.{◌≡◌, ◌-◌, drop, length}
use Rattle.treecheck.specs.Levels.{cover_of_leaves}
use Rattle.treecheck.proofs.levels.cover_of.Given as goal

abbrev pub invariant-loop-i : goal.invariant-loop-i
invariant-loop-i l = l.bounds ≡ cover_of_leaves (drop (length l.leaves - l.i) l.leaves)
