use Rattle.std.proofs.Common.{arith, refl, ◌∙◌, ℤ, ◌≤ℤ◌, ◌<ℤ◌, subst}
use Rattle.std.proofs.lemmas.Int.{ints}
use Rattle.std.proofs.lemmas.Bool.{false≢true}
use Rattle.std.specs.Int.{int_max, int_min}
use Rattle.clipping.proofs.InsideLemmas.{live_moment, no_moment}
use Rattle.clipping.proofs.moments.live.Goals as goal

pub returns-then-millis-clause-moment : goal.returns-then-millis-clause-moment
returns-then-millis-clause-moment c =
    let a = c.millis.ensures.value ∙ c.ends-start.ensures.start in
    let b = c.millis-2.ensures.value ∙ c.ends-start.ensures.end in
    let h = c.if-millis.true in
    let le : c.millis.result ≤ℤ c.millis-2.result = omega (arith, ints) in
    (λ _. live_moment c.args.leg.now c.args.period.now (subst (λ (v : ℤ). int_max c.args.leg.now.t0 c.args.period.now.start ≤ℤ v) b (subst (λ (v : ℤ). v ≤ℤ c.millis-2.result) a le)), λ _. refl)

pub returns-else-millis-clause-moment : goal.returns-else-millis-clause-moment
returns-else-millis-clause-moment c =
    let a = c.millis.ensures.value ∙ c.ends-start.ensures.start in
    let b = c.millis-2.ensures.value ∙ c.ends-start.ensures.end in
    let h = c.if-millis.false in
    let lt : c.millis-2.result <ℤ c.millis.result = omega (arith, ints) in (
      λ e. absurd (false≢true e),
      λ some. absurd (no_moment c.args.leg.now c.args.period.now (subst (λ (v : ℤ). int_min c.args.leg.now.t1 c.args.period.now.end <ℤ v) a (subst (λ (v : ℤ). v <ℤ c.millis.result) b lt)) some),
    )
