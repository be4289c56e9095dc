use Rattle.std.proofs.Common.{arith, sym, ap, ◌∙◌, ◌≡◌, ◌+◌, suc, take, subst, []}
use Rattle.std.specs.Prelude.{filter}
use Rattle.std.proofs.lemmas.List.{take_all}
use Rattle.legs.specs.Legs.{is_live}
use Rattle.chains.proofs.LiveLemmas.{front_on, passes_at}
use Rattle.chains.proofs.kept.first_live.Goals as goal

pub returns-then-is_live : goal.returns-then-is_live
returns-then-is_live c = λ view e.
    let inv = c.legs.invariant view e in
    let t = passes_at (is_live c.args.period.now) view.legs c.legs.i c.is_live.result (omega (arith, c.legs-test.true, inv.1)) (c.is_live.ensures view e) in
    (record { leg = t.0; is = t.1; live = t.2 ∙ c.if-is_live.true }, inv.2)

pub legs-preserved : goal.legs-preserved
legs-preserved c = λ view e.
    let inv = c.legs.invariant view e in
    let t = passes_at (is_live c.args.period.now) view.legs c.legs.i c.is_live.result (omega (arith, c.legs-test.true, inv.1)) (c.is_live.ensures view e) in
    let next : suc c.legs.i ≡ c.legs.i + 1 = omega arith in (
      omega (arith, c.legs-test.true, inv.1),
      inv.1,
      subst (λ i. filter (is_live c.args.period.now) (take i view.legs) ≡ []) next (front_on (is_live c.args.period.now) view.legs c.legs.i t.0 t.1 (t.2 ∙ c.if-is_live.false) inv.2),
    )

pub returns : goal.returns
returns c = λ view e.
    let inv = c.legs.invariant view e in
    ap (filter (is_live c.args.period.now)) (sym (take_all c.legs.i view.legs (omega (arith, c.legs-test.false, inv.1)))) ∙ inv.2
