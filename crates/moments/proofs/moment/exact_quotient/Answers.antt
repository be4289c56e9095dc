use Rattle.std.proofs.Common.{arith, ap, ◌∙◌, ◌≡◌, pos, ◌*ℤ◌, ◌<ℤ◌, to_z, of_z, rules, FitsSigned}
use Rattle.std.specs.Int.{w128}
use Rattle.std.specs.Int.RustNames.{int_div}
use Rattle.std.proofs.lemmas.Int.{ints, quot_fits, to_z-of_z}
use Rattle.moments.proofs.Lowest.{quotient_is}
use Rattle.moments.proofs.moment.exact_quotient.Goals as goal

pub returns : goal.returns
returns c =
    let n = c.args.num in
    let g = c.args.divisor in
    let d0 : pos 0 <ℤ pos g = let h = c.requires.positive in omega (arith, ints, h) in
    let fits : FitsSigned w128 (pos g) = search rules in
    let den : to_z w128 g ≡ pos g = omega (arith, ints) in
    let num = to_z-of_z w128 n c.ranges.num in
    let quotient : FitsSigned w128 (int_div n (pos g)) = quot_fits w128 n (pos g) c.ranges.num d0 in
    ap (λ q. q *ℤ pos g) ((λ i. to_z w128 (of_z w128 (int_div (num i) (den i)))) ∙ to_z-of_z w128 (int_div n (pos g)) quotient) ∙ quotient_is n g c.requires.divides
