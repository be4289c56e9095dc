use Rattle.std.proofs.Common.{ℕ, ◌≡◌, ◌<◌, Some, slice_get}
use Rattle.treecheck.proofs.ordering.is_range.Given as goal

abbrev pub invariant-loop-i : goal.invariant-loop-i
invariant-loop-i l = record { same : (j x : ℕ) → j < l.i → slice_get l.numbers j ≡ Some x → x ≡ j }
