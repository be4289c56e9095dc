use Rattle.std.proofs.Common.{ℕ, List, ◌≡◌, ◌++◌, map, take}
use Rattle.writer.proofs.leg.push_values.Given as goal
use denote.Ref.{Bor}

-- the values so far
abbrev pub invariant-values : goal.invariant-values
invariant-values l = map (λ (f : Bor (List ℕ)). f.now) l.fields.items ≡ map (λ (f : Bor (List ℕ)). f.now) l.initial.fields.items ++ take l.i l.values
