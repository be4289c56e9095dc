use Rattle.std.proofs.Common.{arith, FitsSigned, ◌-ℤ◌, ◌*ℤ◌, ◌^◌, lit<, ℤ, unsigned_abs, ◌<◌, ◌≤◌, SFits, to_z-of_z, refl}
use mir.Syntax.{w64, w128}
use Rattle.std.proofs.lemmas.Int.{ints, fits_signed_mul, fits_signed_from_abs, unsigned_abs-mul}
use Rattle.std.proofs.lemmas.Nat.{mul-le}
use Rattle.zones.proofs.edges.cross.Goals as goal

product_fits : (a b : ℤ) → unsigned_abs a < 2 ^ 51 → unsigned_abs b < 2 ^ 51 → FitsSigned w128 (a *ℤ b)
product_fits a b p q = fits_signed_mul w128 a b (2 ^ 51) (2 ^ 51) (omega arith) (omega arith) (lit< tt)

difference_small : (a b c d : ℤ) → unsigned_abs a < 2 ^ 51 → unsigned_abs b < 2 ^ 51 → unsigned_abs c < 2 ^ 51 → unsigned_abs d < 2 ^ 51 → unsigned_abs (a *ℤ b -ℤ c *ℤ d) < 2 ^ 103
difference_small a b c d p q r s =
    let one : unsigned_abs (a *ℤ b) ≤ 5070602400912913102387185451009 = rw (unsigned_abs-mul a b) (mul-le (unsigned_abs a) (unsigned_abs b) 2251799813685247 2251799813685247 (omega arith) (omega arith)) in
    let two : unsigned_abs (c *ℤ d) ≤ 5070602400912913102387185451009 = rw (unsigned_abs-mul c d) (mul-le (unsigned_abs c) (unsigned_abs d) 2251799813685247 2251799813685247 (omega arith) (omega arith)) in
    omega (arith, ints, one, two)

difference_fits : (a b c d : ℤ) → unsigned_abs a < 2 ^ 51 → unsigned_abs b < 2 ^ 51 → unsigned_abs c < 2 ^ 51 → unsigned_abs d < 2 ^ 51 → FitsSigned w128 (a *ℤ b -ℤ c *ℤ d)
difference_fits a b c d p q r s =
    let h = difference_small a b c d p q r s in
    fits_signed_from_abs w128 (a *ℤ b -ℤ c *ℤ d) (omega (arith, h))

pub overflow_sub-result : goal.overflow_sub-result
overflow_sub-result c =
    let a : SFits w64 c.args.a = c.ranges.a in
    let b : SFits w64 c.args.b = c.ranges.b in
    let d : SFits w64 c.args.c = c.ranges.c in
    let e : SFits w64 c.args.d = c.ranges.d in
    let a2 : SFits w128 c.args.a = omega (arith, ints) in
    let b2 : SFits w128 c.args.b = omega (arith, ints) in
    let d2 : SFits w128 c.args.c = omega (arith, ints) in
    let e2 : SFits w128 c.args.d = omega (arith, ints) in
    let f : FitsSigned w128 (c.args.a *ℤ c.args.b) = product_fits c.args.a c.args.b c.requires.a_small c.requires.b_small in
    let g : FitsSigned w128 (c.args.c *ℤ c.args.d) = product_fits c.args.c c.args.d c.requires.c_small c.requires.d_small in
    simp to_z-of_z (difference_fits c.args.a c.args.b c.args.c c.args.d c.requires.a_small c.requires.b_small c.requires.c_small c.requires.d_small)

pub returns-clause-value : goal.returns-clause-value
returns-clause-value c =
    let a : SFits w64 c.args.a = c.ranges.a in
    let b : SFits w64 c.args.b = c.ranges.b in
    let d : SFits w64 c.args.c = c.ranges.c in
    let e : SFits w64 c.args.d = c.ranges.d in
    let a2 : SFits w128 c.args.a = omega (arith, ints) in
    let b2 : SFits w128 c.args.b = omega (arith, ints) in
    let d2 : SFits w128 c.args.c = omega (arith, ints) in
    let e2 : SFits w128 c.args.d = omega (arith, ints) in
    let f : FitsSigned w128 (c.args.a *ℤ c.args.b) = product_fits c.args.a c.args.b c.requires.a_small c.requires.b_small in
    let g : FitsSigned w128 (c.args.c *ℤ c.args.d) = product_fits c.args.c c.args.d c.requires.c_small c.requires.d_small in
    let h : FitsSigned w128 (c.args.a *ℤ c.args.b -ℤ c.args.c *ℤ c.args.d) = difference_fits c.args.a c.args.b c.args.c c.args.d c.requires.a_small c.requires.b_small c.requires.c_small c.requires.d_small in
    simp to_z-of_z refl

pub returns-clause-small : goal.returns-clause-small
returns-clause-small c =
    let a : SFits w64 c.args.a = c.ranges.a in
    let b : SFits w64 c.args.b = c.ranges.b in
    let d : SFits w64 c.args.c = c.ranges.c in
    let e : SFits w64 c.args.d = c.ranges.d in
    let a2 : SFits w128 c.args.a = omega (arith, ints) in
    let b2 : SFits w128 c.args.b = omega (arith, ints) in
    let d2 : SFits w128 c.args.c = omega (arith, ints) in
    let e2 : SFits w128 c.args.d = omega (arith, ints) in
    let f : FitsSigned w128 (c.args.a *ℤ c.args.b) = product_fits c.args.a c.args.b c.requires.a_small c.requires.b_small in
    let g : FitsSigned w128 (c.args.c *ℤ c.args.d) = product_fits c.args.c c.args.d c.requires.c_small c.requires.d_small in
    let h : FitsSigned w128 (c.args.a *ℤ c.args.b -ℤ c.args.c *ℤ c.args.d) = difference_fits c.args.a c.args.b c.args.c c.args.d c.requires.a_small c.requires.b_small c.requires.c_small c.requires.d_small in
    simp to_z-of_z (difference_small c.args.a c.args.b c.args.c c.args.d c.requires.a_small c.requires.b_small c.requires.c_small c.requires.d_small)
