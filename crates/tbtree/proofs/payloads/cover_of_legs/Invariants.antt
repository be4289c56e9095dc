use Rattle.std.proofs.Common.{◌≡◌, ◌<◌, drop, length, Some}
use Rattle.legs.specs.Hull.{hull, leg_boxes}
use Rattle.tbtree.proofs.payloads.cover_of_legs.Given as goal

abbrev pub decreases-legs : goal.decreases-legs
decreases-legs l = l.i

-- the legs from i on
abbrev pub invariant-legs : goal.invariant-legs
invariant-legs l = record {
  within : l.i < length l.legs;
  held : hull leg_boxes (drop l.i l.legs) ≡ Some l.bounds;
}
