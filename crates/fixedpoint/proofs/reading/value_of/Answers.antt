use Rattle.std.proofs.Common.{◌∙◌, ap, arith}
use Rattle.std.proofs.lemmas.List.{take_all}
use Rattle.std.specs.Str.Parse.{digits_value}
use Rattle.fixedpoint.proofs.Decimal.{next_value, next_small}
use Rattle.fixedpoint.proofs.reading.value_of.Goals as goal

pub overflow_mul-value : goal.overflow_mul-value
overflow_mul-value c = omega (arith, next_small c.args.digits.now c.loop-byte.byte-index c.loop-byte.value c.requires.digits c.loop-byte-test.true c.requires.few c.loop-byte.invariant)

pub overflow_add-value : goal.overflow_add-value
overflow_add-value c = omega (arith, next_small c.args.digits.now c.loop-byte.byte-index c.loop-byte.value c.requires.digits c.loop-byte-test.true c.requires.few c.loop-byte.invariant)

pub loop-byte-preserved : goal.loop-byte-preserved
loop-byte-preserved c = next_value c.args.digits.now c.loop-byte.byte-index c.loop-byte.value c.requires.digits c.loop-byte-test.true c.loop-byte.invariant

pub returns : goal.returns
returns c = c.loop-byte.invariant ∙ ap (digits_value 10) (take_all c.loop-byte.byte-index c.args.digits.now c.loop-byte-test.false)
