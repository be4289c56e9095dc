use Rattle.std.proofs.Common.{◌≡◌, ◌<◌, drop, length, Some}
use Rattle.legs.specs.Hull.{leg_boxes}
use Rattle.tbtree.specs.Nodes.{boxes, cover_all}
use Rattle.tbtree.proofs.payloads.cover_of_inner.Given as goal

abbrev pub decreases-entries : goal.decreases-entries
decreases-entries l = l.i

-- the entries from i on
abbrev pub invariant-entries : goal.invariant-entries
invariant-entries l = record {
  within : l.i < length l.page.entries;
  held : cover_all leg_boxes (drop l.i (boxes l.page)) ≡ Some l.bounds;
}
