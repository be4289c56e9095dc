use Rattle.std.proofs.Common.{◌≡◌, ◌<◌, drop, length, Some}
use Rattle.legs.specs.Hull.{hull, leg_boxes}
use Rattle.treecheck.proofs.leaves.bounds_of.Given as goal

abbrev pub decreases-legs : goal.decreases-legs
decreases-legs g l = l.i

-- the legs from i on
abbrev pub invariant-legs : goal.invariant-legs
invariant-legs g l = record {
  within : l.i < length (g.L.AnyLeaf.says l.leaf).legs;
  held : hull leg_boxes (drop l.i (g.L.AnyLeaf.says l.leaf).legs) ≡ Some l.bounds;
}
