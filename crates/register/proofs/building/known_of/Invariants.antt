use Rattle.std.proofs.Common.{◌≡◌, ◌++◌}
use Rattle.std.specs.Vec.Iter.{into_iter_items}
use Rattle.register.specs.Restoring.{IsKnown}
use Rattle.register.proofs.building.known_of.Given as goal

-- the features so far, and those that are left
abbrev pub invariant-loop-feature : goal.invariant-loop-feature
invariant-loop-feature l = record {
  known : IsKnown l.fn.count l.yielded l.known;
  all : l.fn.features ≡ l.yielded ++ into_iter_items l.feature-iterator;
}
