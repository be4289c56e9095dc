use Rattle.std.proofs.Common.{◌≡◌, get_or, length, refl, sym, arith}
use Rattle.std.proofs.lemmas.Bool.{true≢false}
use Rattle.std.proofs.lemmas.Option.{slice_get-get_or}
use Rattle.treecheck.proofs.OrderLemmas.{below_more, range_at, range_from, at_less}
use Rattle.treecheck.proofs.ordering.is_range.Goals as goal

pub loop-i-preserved : goal.loop-i-preserved
loop-i-preserved c =
    let xs = c.args.numbers.now in
    let i = c.loop-i.i in
    record { same = below_more (λ j x. x ≡ j) xs i (get_or xs i 0) (slice_get-get_or xs i 0 c.loop-i-test.true) c.if-numbers-i.false c.loop-i.invariant.same }

pub returns-then-numbers-i : goal.returns-then-numbers-i
returns-then-numbers-i c =
    let xs = c.args.numbers.now in
    let i = c.loop-i.i in (
      λ t. absurd (true≢false (sym t)),
      λ e. absurd (let s = range_at 0 (length xs) xs i (get_or xs i 0) e (slice_get-get_or xs i 0 c.loop-i-test.true) in c.if-numbers-i.true (omega (arith, s))),
    )

pub returns : goal.returns
returns c =
    let xs = c.args.numbers.now in (
      λ t. range_from 0 xs (λ j x g. (let s = c.loop-i.invariant.same j x (let l = at_less xs j x g in omega (arith, l, c.loop-i-test.false)) g in omega (arith, s))),
      λ e. refl,
    )
