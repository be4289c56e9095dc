use Rattle.std.proofs.Common.{◌≡◌, ◌++◌, take, map}
use Rattle.std.specs.Prelude.{filter}
use Rattle.legs.specs.Boxes.{boxes_meet}
use Rattle.boxsearch.proofs.nodes.push_entries.Given as goal

abbrev pub invariant-loop-i : goal.invariant-loop-i
invariant-loop-i l =
    l.found.items ≡ l.initial.found.items ++ map (λ e. e.child) (filter (λ e. boxes_meet e.bounds l.query) (take l.i l.inner.entries))
