use Rattle.std.proofs.Common.{arith, refl, sym, ap, ◌∙◌, ◌-◌, ◌≡◌, ◌++◌, ◌∷◌, [], suc, drop, append_assoc}
use Rattle.std.specs.Prelude.{reverse}
use Rattle.std.proofs.lemmas.Bool.{true≢false}
use Rattle.std.proofs.lemmas.List.{reverse-append}
use Rattle.chains.proofs.AgainLemmas.{there_at}
use Rattle.chains.proofs.KeepLemmas.{drop_at}
use Rattle.chains.proofs.kept.push_each.Goals as goal

pub returns-then-not-branch : goal.returns-then-not-branch
returns-then-not-branch c = λ view e.
    let inv = c.legs.invariant view e in
    let t = there_at view.legs (c.legs.i - 1) (omega (arith, c.legs-test.true, inv.0)) in
    absurd (true≢false (sym (c.in_ok-push_leg.ensures view e t.0 t.1).0 ∙ c.if-not-branch.true))

pub legs-preserved : goal.legs-preserved
legs-preserved c = λ view e.
    let inv = c.legs.invariant view e in
    let i = c.legs.i - 1 in
    let t = there_at view.legs i (omega (arith, c.legs-test.true, inv.0)) in
    let next : c.legs.i ≡ suc i = omega (arith, c.legs-test.true) in
    let base = c.args.found.now.items in
    let rest = drop (suc i) view.legs in (
      omega (arith, inv.0),
      (c.in_ok-push_leg.ensures view e t.0 t.1).1
          ∙ ap (λ l. l ++ t.0 ∷ []) (inv.1 ∙ ap (λ j. base ++ reverse (drop j view.legs)) next)
          ∙ append_assoc base (reverse rest) (t.0 ∷ [])
          ∙ ap (λ l. base ++ l) (sym (reverse-append (t.0 ∷ []) rest) ∙ ap reverse (sym (drop_at view.legs i t.0 t.1))),
    )

pub returns : goal.returns
returns c = λ view e. (refl, (c.legs.invariant view e).1 ∙ ap (λ i. c.args.found.now.items ++ reverse (drop i view.legs)) (let z : c.legs.i ≡ 0 = omega (arith, c.legs-test.false) in z))
