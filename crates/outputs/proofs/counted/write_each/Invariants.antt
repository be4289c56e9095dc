use Rattle.std.proofs.Common.{◌≡◌, ℕ, length, take, drop}
use Rattle.std.specs.Io.KnownBytes.{Appends}
use Rattle.outputs.proofs.counted.write_each.Given as goal

-- the first n bytes were taken, and the others are left
abbrev pub invariant-loop-rest : goal.invariant-loop-rest
invariant-loop-rest g l = (n : ℕ) × Appends (g.W.Write.contents l.initial.out) (g.W.Write.contents l.out) (take n l.bytes) × (l.rest ≡ drop n l.bytes)

abbrev pub decreases-loop-rest : goal.decreases-loop-rest
decreases-loop-rest g l = length l.rest
