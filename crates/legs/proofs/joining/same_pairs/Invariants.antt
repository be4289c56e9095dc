use Rattle.std.proofs.Common.{◌≡◌, drop}
use Rattle.std.specs.Prelude.{zip}
use Rattle.std.specs.List.{list_all}
use Rattle.legs.specs.Book.{same_column}
use Rattle.legs.proofs.joining.same_pairs.Given as goal

-- what is left of the pairs says what all of them say
abbrev pub invariant-loop-i : goal.invariant-loop-i
invariant-loop-i l = list_all (λ p. same_column p.0 p.1) (zip l.first l.second) ≡ list_all (λ p. same_column p.0 p.1) (zip (drop l.i l.first) (drop l.i l.second))
