-- Common divisors, and terms divided by them.
use Rattle.std.proofs.Common.{ℕ, suc, zero, ◌*◌, ◌<◌, ◌≤◌, ◌≡◌, arith, ap, sym, ◌∙◌, subst}
use Rattle.std.specs.Int.{IsGcd, ◌∣◌}
use Rattle.std.proofs.Math.Nat.{one-dvd, mul-dvd-mul_right, dvd_of_mul-dvd-mul_right, eq-zero_of_zero-dvd, le-mul_of_pos_right, mul_assoc, mul_comm}

pub divisor_positive : (g n : ℕ) → g ∣ n → 0 < n → 0 < g
divisor_positive zero n d p = absurd (omega (arith, eq-zero_of_zero-dvd d))
divisor_positive (suc k) n d p = omega arith

pub same_terms : (a b g n d : ℕ) → a * g ≡ n → b * g ≡ d → n * b ≡ a * d
same_terms a b g n d e f = (λ i. sym e i * b) ∙ mul_assoc a g b ∙ ap (λ v. a * v) (mul_comm g b) ∙ ap (λ v. a * v) f

pub quotient_positive : (b g d : ℕ) → b * g ≡ d → 0 < d → 0 < b
quotient_positive zero g d e p = absurd (omega (arith, e))
quotient_positive (suc k) g d e p = omega arith

pub none_left : (a b g n d : ℕ) → 0 < g → a * g ≡ n → b * g ≡ d → IsGcd n d g → IsGcd a b 1
none_left a b g n d z e f h = (
  one-dvd a,
  one-dvd b,
  λ k p q. dvd_of_mul-dvd-mul_right k z
      (subst (λ v. k * g ∣ v) one (h.2 (k * g) (subst (λ v. k * g ∣ v) e (mul-dvd-mul_right k p g)) (subst (λ v. k * g ∣ v) f (mul-dvd-mul_right k q g)))),
)
  where
    one : g ≡ 1 * g
    one = omega arith

pub at_most : (b g d : ℕ) → 0 < g → b * g ≡ d → b ≤ d
at_most b g d z e = let h : b ≤ b * g = le-mul_of_pos_right b z in omega (arith, h, e)
