use Rattle.std.proofs.Common.{arith, FitsSigned, ◌+ℤ◌, ◌*ℤ◌, ◌^◌, lit<, ℤ, pos, unsigned_abs, ◌<◌, ◌≤◌, SFits, to_z-of_z, ◌↔◌, IsTrue}
use mir.Syntax.{w64, w128}
use lib.Signed.{le_z}
use Rattle.std.proofs.lemmas.Int.{ints, fits_signed_mul, fits_signed_from_abs, unsigned_abs-mul}
use Rattle.std.proofs.lemmas.Nat.{mul-le}
use Rattle.clipping.specs.Line.{OnSide}
use Rattle.clipping.proofs.Fractions.{le_test}
use Rattle.clipping.proofs.inside.is_on_side.Goals as goal

product_fits : (a b : ℤ) → unsigned_abs a < 2 ^ 52 → unsigned_abs b < 2 ^ 52 → FitsSigned w128 (a *ℤ b)
product_fits a b p q = fits_signed_mul w128 a b (2 ^ 52) (2 ^ 52) (omega arith) (omega arith) (lit< tt)

sum_fits : (a b c d : ℤ) → unsigned_abs a < 2 ^ 52 → unsigned_abs b < 2 ^ 52 → unsigned_abs c < 2 ^ 52 → unsigned_abs d < 2 ^ 52 → FitsSigned w128 (a *ℤ b +ℤ c *ℤ d)
sum_fits a b c d p q r s =
    let one : unsigned_abs (a *ℤ b) ≤ 20282409603651670423947251286016 = rw (unsigned_abs-mul a b) (mul-le (unsigned_abs a) (unsigned_abs b) 4503599627370496 4503599627370496 (omega arith) (omega arith)) in
    let two : unsigned_abs (c *ℤ d) ≤ 20282409603651670423947251286016 = rw (unsigned_abs-mul c d) (mul-le (unsigned_abs c) (unsigned_abs d) 4503599627370496 4503599627370496 (omega arith) (omega arith)) in
    fits_signed_from_abs w128 (a *ℤ b +ℤ c *ℤ d) (omega (arith, ints, one, two))

side_test : (p q s d : ℤ) → IsTrue (le_z (pos 0) (p *ℤ s +ℤ q *ℤ d)) ↔ OnSide p q s d
side_test p q s d =
    let test = le_test (pos 0) (p *ℤ s +ℤ q *ℤ d) in
    (λ t. record { side = test.0 t }, λ o. test.1 o.side)

pub overflow_add-result : goal.overflow_add-result
overflow_add-result c =
    let a : SFits w64 c.args.p = omega (arith, ints) in
    let b : SFits w64 c.args.q = omega (arith, ints) in
    let d : SFits w64 c.args.s = omega (arith, ints) in
    let e : SFits w64 c.args.d = omega (arith, ints) in
    let a2 : SFits w128 c.args.p = omega (arith, ints) in
    let b2 : SFits w128 c.args.q = omega (arith, ints) in
    let d2 : SFits w128 c.args.s = omega (arith, ints) in
    let e2 : SFits w128 c.args.d = omega (arith, ints) in
    let f : FitsSigned w128 (c.args.p *ℤ c.args.s) = product_fits c.args.p c.args.s c.requires.p_small c.requires.s_small in
    let g : FitsSigned w128 (c.args.q *ℤ c.args.d) = product_fits c.args.q c.args.d c.requires.q_small c.requires.d_small in
    simp to_z-of_z (sum_fits c.args.p c.args.s c.args.q c.args.d c.requires.p_small c.requires.s_small c.requires.q_small c.requires.d_small)

pub returns : goal.returns
returns c =
    let a : SFits w64 c.args.p = omega (arith, ints) in
    let b : SFits w64 c.args.q = omega (arith, ints) in
    let d : SFits w64 c.args.s = omega (arith, ints) in
    let e : SFits w64 c.args.d = omega (arith, ints) in
    let a2 : SFits w128 c.args.p = omega (arith, ints) in
    let b2 : SFits w128 c.args.q = omega (arith, ints) in
    let d2 : SFits w128 c.args.s = omega (arith, ints) in
    let e2 : SFits w128 c.args.d = omega (arith, ints) in
    let f : FitsSigned w128 (c.args.p *ℤ c.args.s) = product_fits c.args.p c.args.s c.requires.p_small c.requires.s_small in
    let g : FitsSigned w128 (c.args.q *ℤ c.args.d) = product_fits c.args.q c.args.d c.requires.q_small c.requires.d_small in
    let h : FitsSigned w128 (c.args.p *ℤ c.args.s +ℤ c.args.q *ℤ c.args.d) = sum_fits c.args.p c.args.s c.args.q c.args.d c.requires.p_small c.requires.s_small c.requires.q_small c.requires.d_small in
    simp to_z-of_z (side_test c.args.p c.args.q c.args.s c.args.d)
