use Rattle.std.proofs.Common.{ℕ, ◌≡◌, ◌<◌, Some, slice_get}
use Rattle.legs.specs.Blocks.{block}
use Rattle.legs.specs.Boxes.{BoxView}
use Rattle.tbtree.specs.Nodes.{boxes}
use Rattle.treecheck.specs.Levels.{cover_of_leaves}
use Rattle.treecheck.proofs.levels.has_boxes.Given as goal

abbrev pub invariant-loop-i : goal.invariant-loop-i
invariant-loop-i l = (j : ℕ) (b : BoxView) → j < l.i → slice_get (boxes l.inner) j ≡ Some b → Some b ≡ cover_of_leaves (block l.width j l.leaves)
