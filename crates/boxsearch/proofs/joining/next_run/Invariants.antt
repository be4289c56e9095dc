use Rattle.std.proofs.Common.{◌≡◌, ◌≤◌, ◌<◌, ◌-◌, ◌++◌, All, drop, length}
use Rattle.boxsearch.specs.Taking.{taken}
use Rattle.boxsearch.proofs.joining.next_run.Given as goal

abbrev pub decreases-turns : goal.decreases-turns
decreases-turns l = length l.turns - l.n

-- the legs of the first n turns are taken
abbrev pub invariant-turns : goal.invariant-turns
invariant-turns l = record {
  some : 0 < l.n;
  within : l.n ≤ length l.turns;
  many : length l.run.items ≡ l.n;
  taken : taken l.legs l.turns ≡ l.run.items ++ taken l.legs (drop l.n l.turns);
  one : All (λ leg. leg.feature ≡ l.feature) l.run.items;
}
