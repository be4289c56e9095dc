use Rattle.std.proofs.Common.{◌<◌, ◌≤◌, drop, take, length}
use Rattle.std.specs.Prelude.{filter}
use Rattle.legs.specs.Legs.{is_live}
use Rattle.tbnode.specs.Form.{OfLeaf}
use Rattle.chains.specs.Taking.{PutsSome}
use Rattle.chains.proofs.kept.push_wanted.Given as goal

abbrev pub decreases-legs : goal.decreases-legs
decreases-legs l = l.i

-- what is wanted of the legs from i on
abbrev pub invariant-legs : goal.invariant-legs
invariant-legs l = record {
  from : l.ends.0 < l.i;
  to : l.i ≤ l.ends.1;
  put : OfLeaf l.leaf (λ view. l.ends.1 ≤ length view.legs → PutsSome l.sieve l.period (filter (is_live l.period) (drop l.i (take l.ends.1 view.legs))) l.initial.found.items l.found.items);
}
