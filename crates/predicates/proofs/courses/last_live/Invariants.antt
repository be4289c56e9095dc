use Rattle.std.proofs.Common.{◌≡◌, ◌≤◌, length, take}
use Rattle.std.specs.List.{find}
use Rattle.std.specs.Prelude.{reverse}
use Rattle.legs.specs.Legs.{is_live}
use Rattle.legs.specs.Sieves.{last_live}
use Rattle.predicates.proofs.courses.last_live.Given as goal

-- the last one is among those that are left
abbrev pub invariant-legs : goal.invariant-legs
invariant-legs l = record {
  within : l.i ≤ length l.legs;
  left : find (is_live l.period) (reverse (take l.i l.legs)) ≡ last_live l.fn.period l.fn.legs;
}

abbrev pub decreases-legs : goal.decreases-legs
decreases-legs l = l.i
