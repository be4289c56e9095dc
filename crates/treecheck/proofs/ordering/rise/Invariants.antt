use Rattle.std.proofs.Common.{◌≤◌}
use Rattle.treecheck.proofs.OrderLemmas.{IsRisingBelow}
use Rattle.treecheck.proofs.ordering.rise.Given as goal

abbrev pub invariant-loop-i : goal.invariant-loop-i
invariant-loop-i l = record { one : 1 ≤ l.i; rising : IsRisingBelow (λ n. n) l.i l.numbers }
