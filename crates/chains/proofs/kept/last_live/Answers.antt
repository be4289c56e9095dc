use Rattle.std.proofs.Common.{arith, ap, ◌∙◌, ◌≡◌, ◌-◌, suc, drop, subst, []}
use Rattle.std.specs.Prelude.{filter}
use Rattle.std.proofs.lemmas.List.{drop_all}
use Rattle.legs.specs.Legs.{is_live}
use Rattle.chains.proofs.LiveLemmas.{back_on, passes_at}
use Rattle.chains.proofs.kept.last_live.Goals as goal

pub legs-init : goal.legs-init
legs-init c = λ view e. (
  omega (arith, c.len-i.ensures.value view e),
  ap (filter (is_live c.args.period.now)) (drop_all c.len-i.result view.legs (omega (arith, c.len-i.ensures.value view e))),
)

pub returns-then-is_live : goal.returns-then-is_live
returns-then-is_live c = λ view e.
    let inv = c.legs.invariant view e in
    let i = c.legs.i - 1 in
    let t = passes_at (is_live c.args.period.now) view.legs i c.is_live.result (omega (arith, c.legs-test.true, inv.0)) (c.is_live.ensures view e) in
    let next : c.legs.i ≡ suc i = omega (arith, c.legs-test.true) in
    (record { leg = t.0; is = t.1; live = t.2 ∙ c.if-is_live.true }, subst (λ j. filter (is_live c.args.period.now) (drop j view.legs) ≡ []) next inv.1)

pub legs-preserved : goal.legs-preserved
legs-preserved c = λ view e.
    let inv = c.legs.invariant view e in
    let i = c.legs.i - 1 in
    let t = passes_at (is_live c.args.period.now) view.legs i c.is_live.result (omega (arith, c.legs-test.true, inv.0)) (c.is_live.ensures view e) in
    let next : c.legs.i ≡ suc i = omega (arith, c.legs-test.true) in (
      omega (arith, inv.0),
      back_on (is_live c.args.period.now) view.legs i t.0 t.1 (t.2 ∙ c.if-is_live.false) (subst (λ j. filter (is_live c.args.period.now) (drop j view.legs) ≡ []) next inv.1),
    )

pub returns : goal.returns
returns c = λ view e.
    let z : 0 ≡ c.legs.i = omega (arith, c.legs-test.false) in
    ap (λ j. filter (is_live c.args.period.now) (drop j view.legs)) z ∙ (c.legs.invariant view e).1
