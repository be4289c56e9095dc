use Rattle.std.proofs.Common.{◌≡◌, ◌++◌, take}
use Rattle.std.specs.Prelude.{filter}
use Rattle.legs.specs.Boxes.{box_of, boxes_meet}
use Rattle.boxsearch.proofs.nodes.push_hits.Given as goal

abbrev pub invariant-loop-i : goal.invariant-loop-i
invariant-loop-i l =
    l.found.items ≡ l.initial.found.items ++ filter (λ leg. boxes_meet (box_of leg) l.query) (take l.i l.leaf.legs)
