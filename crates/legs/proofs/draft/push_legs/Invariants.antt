use Rattle.std.proofs.Common.{◌≡◌, ◌+◌, ◌++◌, map}
use Rattle.std.specs.List.{range_with_len}
use Rattle.legs.specs.Legs.{leg_of, step_at}
use Rattle.legs.proofs.draft.push_legs.Given as goal

abbrev pub invariant-loop-k : goal.invariant-loop-k
invariant-loop-k l = l.legs.items ≡ l.initial.legs.items ++ map (λ k. leg_of (l.ordinal + k) l.feature l.row (step_at l.«record» k)) (range_with_len 0 l.k)
