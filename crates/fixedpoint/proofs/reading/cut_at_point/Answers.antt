use Rattle.std.proofs.Common.{◌∙◌, ap, sym, length}
use Rattle.std.proofs.lemmas.List.{length-take-le}
use Rattle.std.specs.Str.Parse.{digits_value}
use Rattle.fixedpoint.specs.Steps.{point_tail, cap}
use Rattle.std.proofs.Common.{min}
use Rattle.fixedpoint.proofs.Cutting.{cut_found, cut_refused}
use Rattle.fixedpoint.proofs.MagnitudeLemmas.{rest_is}
use Rattle.fixedpoint.proofs.reading.cut_at_point.Goals as goal

pub returns-in-Some-clause-found : goal.returns-in-Some-clause-found
returns-in-Some-clause-found c =
    let n = c.leading_digits-digits.result.count in
    let digits = c.leading_digits-digits.ensures in
    let tail = ap point_tail (sym (rest_is n c.args.text.now)) ∙ c.in-Some.ensures in
    let parts = cut_found c.args.text.now c.in-Some.fraction.now n digits.digits tail in
    record {
      digits = rw parts.0 digits.digits;
      value = digits.value ∙ ap (λ x. min cap (digits_value 10 x)) (sym parts.0);
      count = sym (length-take-le n c.args.text.now digits.count) ∙ ap length (sym parts.0);
      behind = sym parts.1;
    }

pub returns-in-None-clause-refused : goal.returns-in-None-clause-refused
returns-in-None-clause-refused c =
    let n = c.leading_digits-digits.result.count in
    let digits = c.leading_digits-digits.ensures in
    cut_refused c.args.text.now n digits.digits digits.stops (ap point_tail (sym (rest_is n c.args.text.now)) ∙ c.in-None.ensures)
