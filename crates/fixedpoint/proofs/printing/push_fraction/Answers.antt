use Rattle.std.proofs.Common.{◌-◌, ◌<◌, ◌++◌, ap, ◌∙◌, sym, arith}
use Rattle.std.proofs.lemmas.List.{append-nil}
use Rattle.fixedpoint.proofs.Fraction.{fraction_none, fraction_end, fraction_more}
use Rattle.fixedpoint.proofs.printing.push_fraction.Goals as goal

pub digits-preserved : goal.digits-preserved
digits-preserved c =
    let positive : 0 < c.digits.rest = omega arith in
    record {
      all = rw (c.push.ensures.items, c.split-digit.ensures.quotient, c.split-digit.ensures.rest) (fraction_more c.digits.text.items c.args.places c.digits.place c.args.power c.digits.rest c.digits-test.true positive ∙ c.digits.invariant.all);
      below = omega arith;
      room = omega arith;
    }

pub returns-after-digits : goal.returns-after-digits
returns-after-digits c =
    sym (append-nil c.digits.text.items) ∙ ap (λ ys. c.digits.text.items ++ ys) (sym (fraction_none (c.args.places - c.digits.place) c.args.power c.digits.rest (omega arith))) ∙ c.digits.invariant.all

pub returns-then-rest-eq0 : goal.returns-then-rest-eq0
returns-then-rest-eq0 c =
    sym (append-nil c.digits.text.items) ∙ ap (λ ys. c.digits.text.items ++ ys) (sym (fraction_end (c.args.places - c.digits.place) c.args.power c.digits.rest (omega arith))) ∙ c.digits.invariant.all
