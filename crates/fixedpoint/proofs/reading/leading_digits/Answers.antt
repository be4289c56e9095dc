use Rattle.std.proofs.Common.{arith, ◌∙◌, sym}
use Rattle.fixedpoint.proofs.Decimal.{capped_more, digits_more}
use Rattle.fixedpoint.proofs.reading.leading_digits.Goals as goal

pub loop-count-preserved : goal.loop-count-preserved
loop-count-preserved c =
    let digit = sym c.is_ascii_digit.ensures.value ∙ c.if-is_ascii_digit.true in
    record {
      within = omega arith;
      digits = digits_more c.args.text.now c.loop-count.count c.loop-count-test.true c.loop-count.invariant.digits digit;
      value = c.min-value.ensures ∙ capped_more c.args.start c.args.text.now c.loop-count.count c.loop-count.value c.loop-count-test.true digit c.loop-count.invariant.value;
    }
