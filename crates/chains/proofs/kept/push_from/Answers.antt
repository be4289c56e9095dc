use Rattle.std.proofs.Common.{arith, refl, sym, ◌∙◌}
use Rattle.std.proofs.lemmas.Bool.{true≢false}
use Rattle.std.proofs.lemmas.Result.{IfOk-weaker}
use Rattle.chains.proofs.LiveLemmas.{got_within}
use Rattle.chains.proofs.SieveLemmas.{one_taken, two_taken}
use Rattle.chains.proofs.kept.push_from.Goals as goal

pub returns-then-not-branch : goal.returns-then-not-branch
returns-then-not-branch c = λ view e first last.
    absurd (true≢false (sym (c.in_ok-push_leg.ensures view e last.0.leg last.0.is).0 ∙ c.if-not-branch.true))

pub returns-then-ends : goal.returns-then-ends
returns-then-ends c = λ view e first last. (
  refl,
  one_taken c.args.sieve.now c.args.period.now view.legs c.args.ends.0 c.args.ends.1 c.args.found.now.items c.push_leg.new.found.items (omega (arith, c.if-ends.true)) first last
      (c.in_ok-push_leg.ensures view e last.0.leg last.0.is).1,
)

pub returns-then-not-branch-2 : goal.returns-then-not-branch-2
returns-then-not-branch-2 c = λ view e first last.
    let within = got_within view.legs c.args.ends.1 last.0.leg last.0.is in
    absurd (true≢false (sym (c.in_ok-push_between.ensures view e (omega (arith, within))).0 ∙ c.if-not-branch-2.true))

pub returns : goal.returns
returns c = λ view e first last.
    let within = got_within view.legs c.args.ends.1 last.0.leg last.0.is in
    IfOk-weaker c.push_leg-2.result _ _
    (λ whole h. (
      h.0,
      two_taken c.args.sieve.now c.args.period.now view.legs c.args.ends.0 c.args.ends.1 c.args.found.now.items c.push_leg.new.found.items c.push_between.new.found.items c.push_leg-2.new.found.items
          (omega (arith, c.if-ends.false)) first last (c.in_ok-push_leg.ensures view e last.0.leg last.0.is).1
          (c.in_ok-push_between.ensures view e (omega (arith, within))).1 h.1,
    ))
    (c.push_leg-2.ensures view e first.0.leg first.0.is)
