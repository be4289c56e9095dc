use Rattle.std.proofs.Common.{◌≤◌, ◌-◌, drop, length}
use Rattle.boxsearch.specs.Taking.{taken}
use Rattle.boxsearch.proofs.TakingTurns.{IsTaking}
use Rattle.boxsearch.proofs.joining.join_all.Given as goal

abbrev pub decreases-runs : goal.decreases-runs
decreases-runs g l = length l.turns - l.from

-- what is left is to be taken
abbrev pub invariant-runs : goal.invariant-runs
invariant-runs g l = record {
  within : l.from ≤ length l.turns;
  taking : IsTaking l.fn.index l.index (taken l.legs l.turns) (taken l.legs (drop l.from l.turns));
}
