use Rattle.std.proofs.Common.{◌∙◌, ◌≡◌, ℤ, ℕ, ◌%◌, ◌/◌, sym, ap, subst, refl, rules, to_z, of_z, unsigned_abs, FitsSigned}
use Rattle.std.specs.Int.{IsGcd, ◌∣◌, w128}
use Rattle.std.proofs.lemmas.Int.{to_z-of_z}
use Rattle.std.proofs.lemmas.Nat.Gcd.{IsGcd-from_mod}
use Rattle.moments.specs.Fractions.{IsInTime, IsLowest, IsSame}
use Rattle.moments.proofs.Lowest.{divisor_positive, still_positive, still_in_time, still_same, lowest_is}
use Rattle.moments.proofs.moment.Moment.new.Goals as goal

pub exact_quotient-requires-clause-divides : goal.exact_quotient-requires-clause-divides
exact_quotient-requires-clause-divides c =
    subst (λ n. c.common_divisor-divisor.result ∣ n) c.unsigned_abs.ensures.value (IsGcd-from_mod c.unsigned_abs.result c.args.den c.common_divisor-divisor.result c.common_divisor-divisor.ensures).0

common : (n : ℤ) (d g m : ℕ) → m ≡ unsigned_abs (to_z w128 (of_z w128 n)) → FitsSigned w128 n → IsGcd d (m % d) g → IsGcd d (unsigned_abs n % d) g
common n d g m e fits h = subst (λ k. IsGcd d (k % d) g) (e ∙ ap unsigned_abs (to_z-of_z w128 n fits)) h

pub nonzero_div-result : goal.nonzero_div-result
nonzero_div-result c =
    divisor_positive c.args.num c.exact_quotient.result c.args.den _ c.common_divisor-divisor.result c.requires.positive
    (common c.args.num c.args.den c.common_divisor-divisor.result c.unsigned_abs.result c.unsigned_abs.ensures.value c.ranges.num c.common_divisor-divisor.ensures)
    (c.exact_quotient.ensures ∙ to_z-of_z w128 c.args.num c.ranges.num) refl

pub invariant_of-result : goal.invariant_of-result
invariant_of-result c =
    let n = c.args.num in
    let d = c.args.den in
    let g = c.common_divisor-divisor.result in
    let m = c.exact_quotient.result in
    let fits : FitsSigned w128 m = search rules in
    let same : to_z w128 (of_z w128 m) ≡ m = to_z-of_z w128 m fits in
    let gcd = common n d g c.unsigned_abs.result c.unsigned_abs.ensures.value c.ranges.num c.common_divisor-divisor.ensures in
    let is = c.exact_quotient.ensures ∙ to_z-of_z w128 n c.ranges.num in
    let e = d / g in
    record {
      positive = still_positive n m d e g c.requires.positive gcd is refl;
      in_time = subst (λ z. IsInTime z e) (sym same) (still_in_time n m d e g c.requires.positive gcd is refl c.requires.in_time);
      lowest = subst (λ z. IsLowest z e) (sym same) (lowest_is n m d e g c.requires.positive gcd is refl);
    }

pub returns : goal.returns
returns c =
    let n = c.args.num in
    let d = c.args.den in
    let g = c.common_divisor-divisor.result in
    let m = c.exact_quotient.result in
    let fits : FitsSigned w128 m = search rules in
    let gcd = common n d g c.unsigned_abs.result c.unsigned_abs.ensures.value c.ranges.num c.common_divisor-divisor.ensures in
    let is = c.exact_quotient.ensures ∙ to_z-of_z w128 n c.ranges.num in
    subst (λ z. IsSame z (d / g) n d) (sym (to_z-of_z w128 m fits)) (still_same n m d (d / g) g c.requires.positive gcd is refl)
