use Rattle.std.proofs.Common.{◌<◌, ◌≤◌, ◌*◌, ℕ, arith}
use Rattle.std.proofs.lemmas.Nat.{mul-le}
use Rattle.parts.proofs.names.cube_of.Goals as goal

-- a product of numbers below 2^32 - 5
below : (a b : ℕ) → a < 4294967291 → b < 4294967291 → a * b ≤ 4294967290 * 4294967290
below a b x y = mul-le a b 4294967290 4294967290 (omega arith) (omega arith)

pub overflow_mul-square : goal.overflow_mul-square
overflow_mul-square c = omega (arith, below c.args.number c.args.number c.requires c.requires)
