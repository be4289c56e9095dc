use Rattle.std.proofs.Common.{ℕ}
use Rattle.std.specs.Int.{IsGcd}
use Rattle.fractions.proofs.terms.common_divisor.Given as goal

-- what divides the two numbers divides those that the call was given
abbrev pub invariant-loop-b : goal.invariant-loop-b
invariant-loop-b l = (g : ℕ) → IsGcd l.a l.b g → IsGcd l.fn.a l.fn.b g

abbrev pub decreases-loop-b : goal.decreases-loop-b
decreases-loop-b l = l.b
