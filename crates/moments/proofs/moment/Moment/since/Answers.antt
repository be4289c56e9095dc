use Rattle.std.proofs.Common.{arith, subst, sym, ℤ, ◌≡◌, ◌≤ℤ◌, ◌*ℤ◌, pos, to_z, of_z, w64}
use Rattle.std.specs.Int.{w128}
use Rattle.std.proofs.lemmas.Int.{ints}
use Rattle.timebase.specs.Instant.{least_moment, greatest_moment}
use Rattle.clipping.proofs.Fractions.{scale}
use Rattle.moments.specs.Fractions.{IsLowest}
use Rattle.moments.proofs.Lowest.{lowest_less}
use Rattle.moments.proofs.moment.Moment.since.Goals as goal

pub returns-clause-value : goal.returns-clause-value
returns-clause-value c =
    let m = c.args.self in
    let base = c.args.base in
    let d0 : pos 0 ≤ℤ pos m.den = omega (arith, ints) in
    let at = c.millis.ensures.moment in
    let low = scale least_moment base (pos m.den) d0 at.0 in
    let high = scale base greatest_moment (pos m.den) d0 at.1 in
    let after = m.in_time.0 in
    let before = m.in_time.1 in
    let a0 = at.0 in
    let a1 = at.1 in
    let value = c.millis.ensures.value in
    let millis : to_z w128 (of_z w128 (to_z w64 (of_z w64 c.millis.result))) ≡ base = omega (arith, ints, value, a0, a1) in
    let den : to_z w128 m.den ≡ pos m.den = omega (arith, ints) in
    let product : to_z w128 (of_z w128 (to_z w64 (of_z w64 c.millis.result))) *ℤ to_z w128 m.den ≡ base *ℤ pos m.den = (λ i. millis i *ℤ den i) in
    omega (arith, ints, product, low, high, after, before)

pub returns-clause-lowest : goal.returns-clause-lowest
returns-clause-lowest c =
    let m = c.args.self in
    subst (λ (z : ℤ). IsLowest z m.den) (sym (returns-clause-value c)) (lowest_less m.num c.args.base m.den m.lowest)
