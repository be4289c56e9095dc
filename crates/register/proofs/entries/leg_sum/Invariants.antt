use Rattle.std.proofs.Common.{◌≡◌, ◌-◌, ◌^◌, min, take}
use Rattle.register.specs.Text.{leg_sum}
use Rattle.register.proofs.entries.leg_sum.Given as goal

-- the legs of the features so far
abbrev pub invariant-loop-feature : goal.invariant-loop-feature
invariant-loop-feature l = record {
  sum : l.legs ≡ min (leg_sum (take l.feature-index l.features-2)) (2 ^ 64 - 1);
}
