use Rattle.std.proofs.Common.{◌≡◌, drop}
use Rattle.std.specs.List.{find}
use Rattle.legs.specs.Legs.{is_live}
use Rattle.legs.specs.Sieves.{first_live}
use Rattle.predicates.proofs.courses.first_live.Given as goal

-- the first one is among those that are left
abbrev pub invariant-loop-leg : goal.invariant-loop-leg
invariant-loop-leg l = find (is_live l.period) (drop l.leg-index l.legs) ≡ first_live l.fn.period l.fn.legs
