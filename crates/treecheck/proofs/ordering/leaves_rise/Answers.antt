use Rattle.std.proofs.Common.{◌-◌, get_or, refl, sym, arith}
use Rattle.std.proofs.lemmas.Bool.{true≢false}
use Rattle.std.proofs.lemmas.Option.{slice_get-get_or}
use Rattle.treecheck.specs.declared.walking.Met.{Met}
use Rattle.treecheck.proofs.OrderLemmas.{rising_step, rising_all, no_rise}
use Rattle.treecheck.proofs.ordering.leaves_rise.Goals as goal

pub loop-i-preserved : goal.loop-i-preserved
loop-i-preserved c =
    let inv = c.loop-i.invariant in
    let leaves = c.args.leaves.now in
    let i = c.loop-i.i in
    record {
      one = omega arith;
      rising = rising_step (λ (m : Met). m.first) leaves i (get_or leaves (i - 1) c.index-leaves-i-in-loop-i.result) (get_or leaves i c.index-leaves-i.result) inv.one
          (slice_get-get_or leaves (i - 1) c.index-leaves-i-in-loop-i.result (omega (arith, c.loop-i-test.true))) (slice_get-get_or leaves i c.index-leaves-i.result c.loop-i-test.true) c.if-leaves-i.false inv.rising;
    }

pub returns-then-leaves-i : goal.returns-then-leaves-i
returns-then-leaves-i c =
    let leaves = c.args.leaves.now in
    let i = c.loop-i.i in (
      λ t. absurd (true≢false (sym t)),
      λ r. absurd (no_rise (λ (m : Met). m.first) leaves i (get_or leaves (i - 1) c.index-leaves-i-in-loop-i.result) (get_or leaves i c.index-leaves-i.result) c.loop-i.invariant.one
          (slice_get-get_or leaves (i - 1) c.index-leaves-i-in-loop-i.result (omega (arith, c.loop-i-test.true))) (slice_get-get_or leaves i c.index-leaves-i.result c.loop-i-test.true) c.if-leaves-i.true r),
    )

pub returns : goal.returns
returns c = (λ t. rising_all (λ (m : Met). m.first) c.args.leaves.now c.loop-i.i c.loop-i-test.false c.loop-i.invariant.rising, λ r. refl)
