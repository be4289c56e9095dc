-- Products by digits of 24 bits.
use Rattle.std.proofs.Common.{ℕ, ◌+◌, ◌*◌, ◌/◌, ◌%◌, ◌<◌, ◌≤◌, ◌≡◌, arith, ap, sym, ◌∙◌}
use Rattle.std.proofs.lemmas.Nat.{div-add-mod'}
use Rattle.std.proofs.Math.Nat.{mul-add, mul_assoc, mul_comm, mul-le-mul_right, le_of_mul-le-mul_right, div-div-eq-div-mul}

spread : (n x y : ℕ) → n * (x * 16777216 + y) ≡ n * x * 16777216 + n * y
spread n x y = mul-add n (x * 16777216) y ∙ ap (λ v. v + n * y) (sym (mul_assoc n x 16777216))

pub digits : (w : ℕ) → w ≡ (w / 281474976710656 * 16777216 + w / 16777216 % 16777216) * 16777216 + w % 16777216
digits w =
    let a = div-add-mod' w 16777216 in
    let b = div-add-mod' (w / 16777216) 16777216 in
    let c : w / 16777216 / 16777216 ≡ w / 281474976710656 = div-div-eq-div-mul w 16777216 16777216 in
    omega (arith, a, b, c)

pub joined : (n d w d2 d1 d0 q1 r1 q2 r2 q3 r3 : ℕ) → w ≡ (d2 * 16777216 + d1) * 16777216 + d0
    → q1 * d + r1 ≡ (0 * d + 0) * 16777216 + n * d2 → q2 * d + r2 ≡ (q1 * d + r1) * 16777216 + n * d1 → q3 * d + r3 ≡ (q2 * d + r2) * 16777216 + n * d0
    → n * w ≡ q3 * d + r3
joined n d w d2 d1 d0 q1 r1 q2 r2 q3 r3 e one two three =
    let a : n * w ≡ n * ((d2 * 16777216 + d1) * 16777216 + d0) = ap (λ v. n * v) e in
    let b = spread n (d2 * 16777216 + d1) d0 in
    let c = spread n d2 d1 in
    omega (arith, a, b, c, one, two, three)

pub at_most : (n d w q r : ℕ) → 0 < d → n ≤ d → n * w ≡ q * d + r → q ≤ w
at_most n d w q r z h e =
    let a : n * w ≤ d * w = mul-le-mul_right w h in
    let b : q * d ≤ w * d = omega (arith, a, e, mul_comm d w) in
    le_of_mul-le-mul_right b z
