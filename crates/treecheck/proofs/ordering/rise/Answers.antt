use Rattle.std.proofs.Common.{refl, sym, arith}
use Rattle.std.proofs.lemmas.Bool.{true≢false}
use Rattle.treecheck.proofs.OrderLemmas.{rising_more, rising_all, not_rising}
use Rattle.treecheck.proofs.ordering.rise.Goals as goal

pub loop-i-preserved : goal.loop-i-preserved
loop-i-preserved c =
    let inv = c.loop-i.invariant in
    record { one = omega arith; rising = rising_more (λ n. n) c.args.numbers.now c.loop-i.i 0 inv.one c.loop-i-test.true c.if-numbers-i.false inv.rising }

pub returns-then-numbers-i : goal.returns-then-numbers-i
returns-then-numbers-i c = (
  λ t. absurd (true≢false (sym t)),
  λ r. absurd (not_rising (λ n. n) c.args.numbers.now c.loop-i.i 0 c.loop-i.invariant.one c.loop-i-test.true c.if-numbers-i.true r),
)

pub returns : goal.returns
returns c = (λ t. rising_all (λ n. n) c.args.numbers.now c.loop-i.i c.loop-i-test.false c.loop-i.invariant.rising, λ r. refl)
