use Rattle.std.proofs.Common.{◌≤◌}
use Rattle.treecheck.specs.declared.walking.Met.{Met}
use Rattle.treecheck.proofs.OrderLemmas.{IsRisingBelow}
use Rattle.treecheck.proofs.ordering.leaves_rise.Given as goal

abbrev pub invariant-loop-i : goal.invariant-loop-i
invariant-loop-i l = record { one : 1 ≤ l.i; rising : IsRisingBelow (λ (m : Met). m.first) l.i l.leaves }
