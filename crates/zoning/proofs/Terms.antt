-- The terms of what is left of a share, and the moment that they make.
use Rattle.std.proofs.Common.{ℕ, ◌+◌, ◌*◌, ◌<◌, ℤ, pos, negsuc, ◌+ℤ◌, ◌*ℤ◌, ◌≤ℤ◌, ◌<ℤ◌, ◌≡◌, arith, ap, sym, ◌∙◌, cond, true, Some, None, unsigned_abs, to_z, of_z, w64}
use Rattle.std.specs.Prelude.{nat_le}
use Rattle.std.proofs.lemmas.Bool.Decides.{nat_tests}
use Rattle.std.proofs.lemmas.Int.{ints}
use Rattle.fixedpoint.specs.Number.{IsInRange, most, units_within}
use Rattle.std.proofs.Math.Nat.{mul_comm, lt_of_mul-lt-mul_right, mul-lt-mul_of_pos_right}
use Rattle.zones.proofs.Products.{sum_times, swap}

-- a rest below the denominator stays below it in lowest terms
pub proper : (rest den num low : ℕ) → 0 < low → rest < den → rest * low ≡ num * den → num < low
proper rest den num low z h e =
    let a : rest * low < den * low = mul-lt-mul_of_pos_right h z in
    let b : num * den < low * den = omega (arith, a, e, mul_comm den low) in
    lt_of_mul-lt-mul_right den b

-- (t + whole) + num / low, where the share is whole + rest / den, is t + w * p / q
pub moment_is : (t w p : ℤ) (whole rest den num low : ℕ) → w *ℤ p ≡ pos whole *ℤ pos den +ℤ pos rest → rest * low ≡ num * den
    → ((t +ℤ pos whole) *ℤ pos low +ℤ pos num) *ℤ pos den ≡ (t *ℤ pos den +ℤ w *ℤ p) *ℤ pos low
moment_is t w p whole rest den num low share same =
    let a = sum_times ((t +ℤ pos whole) *ℤ pos low) (pos num) (pos den) in
    let b = swap (t +ℤ pos whole) (pos low) (pos den) in
    let c = sum_times t (pos whole) (pos den) in
    let d = sum_times (t *ℤ pos den +ℤ pos whole *ℤ pos den) (pos rest) (pos low) in
    let e : pos num *ℤ pos den ≡ pos rest *ℤ pos low = omega (arith, ints, same) in
    let f : ((t +ℤ pos whole) *ℤ pos den) *ℤ pos low ≡ (t *ℤ pos den +ℤ pos whole *ℤ pos den) *ℤ pos low = ap (λ v. v *ℤ pos low) c in
    let g : (t *ℤ pos den +ℤ w *ℤ p) *ℤ pos low ≡ ((t *ℤ pos den +ℤ pos whole *ℤ pos den) +ℤ pos rest) *ℤ pos low = ap (λ v. v *ℤ pos low) (let h : t *ℤ pos den +ℤ w *ℤ p ≡ (t *ℤ pos den +ℤ pos whole *ℤ pos den) +ℤ pos rest = omega (arith, ints, share) in h) in
    omega (arith, ints, a, b, d, e, f, g)

-- the same of a part p / q and so many units
pub at_of : (t w p q : ℤ) (units whole rest num low : ℕ) → pos units ≡ w → pos 0 ≤ℤ p → pos 0 <ℤ q → unsigned_abs p * units ≡ whole * unsigned_abs q + rest → rest * low ≡ num * unsigned_abs q
    → ((t +ℤ pos whole) *ℤ pos low +ℤ pos num) *ℤ q ≡ (t *ℤ q +ℤ w *ℤ p) *ℤ pos low
at_of t w (pos a) (pos b) units whole rest num low e z y share same =
    let s : units * a ≡ whole * b + rest = mul_comm units a ∙ share in
    let k : pos units *ℤ pos a ≡ pos whole *ℤ pos b +ℤ pos rest = omega (arith, ints, s) in
    moment_is t w (pos a) whole rest b num low (ap (λ v. v *ℤ pos a) (sym e) ∙ k) same
at_of t w (pos a) (negsuc b) units whole rest num low e z y share same = absurd (omega (arith, ints, y))
at_of t w (negsuc a) q units whole rest num low e z y share same = absurd (omega (arith, ints, z))

-- a coordinate of units in range
pub some_units : (u : ℤ) → IsInRange u → units_within u ≡ Some u
some_units u h =
    let test : nat_le (unsigned_abs u) most ≡ true = grind (arith, nat_tests) in
    ap (λ b. cond b (Some u) None) test

pub small_is : (u : ℤ) → IsInRange u → to_z w64 (of_z w64 u) ≡ u
small_is u h = omega (arith, ints, h)
