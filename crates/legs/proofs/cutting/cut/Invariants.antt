use Rattle.std.proofs.Common.{◌≡◌, map}
use Rattle.std.specs.List.{range_with_len}
use Rattle.legs.specs.Legs.{step_at}
use Rattle.legs.proofs.cutting.cut.Given as goal

abbrev pub invariant-loop-k : goal.invariant-loop-k
invariant-loop-k l = l.steps.items ≡ map (step_at l.record) (range_with_len 0 l.k)
