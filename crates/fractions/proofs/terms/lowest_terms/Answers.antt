use Rattle.std.proofs.Common.{◌*◌, ◌/◌, ◌≡◌}
use Rattle.std.proofs.Math.Nat.{div-mul_cancel}
use Rattle.fractions.proofs.TermLemmas.{divisor_positive, same_terms, quotient_positive, none_left, at_most}
use Rattle.fractions.proofs.terms.lowest_terms.Goals as goal

pub nonzero_div-result : goal.nonzero_div-result
nonzero_div-result c = divisor_positive c.common_divisor-divisor.result c.args.den c.common_divisor-divisor.ensures.1 c.requires.positive

pub nonzero_div-result-2 : goal.nonzero_div-result-2
nonzero_div-result-2 c = divisor_positive c.common_divisor-divisor.result c.args.den c.common_divisor-divisor.ensures.1 c.requires.positive

pub returns : goal.returns
returns c =
    let g = c.common_divisor-divisor.result in
    let h = c.common_divisor-divisor.ensures in
    let z = divisor_positive g c.args.den h.1 c.requires.positive in
    let num : c.args.num / g * g ≡ c.args.num = div-mul_cancel g h.0 in
    let den : c.args.den / g * g ≡ c.args.den = div-mul_cancel g h.1 in
    record {
      same = same_terms (c.args.num / g) (c.args.den / g) g c.args.num c.args.den num den;
      lowest = none_left (c.args.num / g) (c.args.den / g) g c.args.num c.args.den z num den h;
      positive = quotient_positive (c.args.den / g) g c.args.den den c.requires.positive;
      small = at_most (c.args.den / g) g c.args.den z den;
    }
