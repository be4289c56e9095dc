use Rattle.std.proofs.Common.{◌≤◌, ◌-◌, length, take}
use Rattle.std.specs.Prelude.{Ok}
use Rattle.tbtree.specs.Joining.{Fills}
use Rattle.tbtree.proofs.filling.put_all.Given as goal

abbrev pub decreases-leaves : goal.decreases-leaves
decreases-leaves g l = length l.legs - l.from

-- so many of the legs are put in
abbrev pub invariant-leaves : goal.invariant-leaves
invariant-leaves g l = record {
  within : l.from ≤ length l.legs;
  fills : Fills l.fn.cache l.cache l.fn.tree l.tree l.fn.place l.place (take l.from l.legs) (Ok tt);
}
