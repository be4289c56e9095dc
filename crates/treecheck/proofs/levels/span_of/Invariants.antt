use Rattle.std.proofs.Common.{ℕ, ◌≡◌, ◌^◌, ◌<◌}
use Rattle.treecheck.proofs.levels.span_of.Given as goal

abbrev pub invariant-levels : goal.invariant-levels
invariant-levels l = record {
  span : l.span ≡ l.inner ^ l.counter;
  fewer : (k : ℕ) → k < l.counter → l.inner ^ k < l.leaves;
}
