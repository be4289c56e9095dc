use Rattle.std.proofs.Common.{◌≡◌, ◌∙◌, ◌∷◌, ◌+◌, List, sym, subst, ap, drop, arith, refl, false, IsTrue}
use Rattle.std.proofs.lemmas.List.{drop_more, drop_all}
use Rattle.legs.specs.Legs.{LegView}
use Rattle.predicates.specs.Predicates.{Holds}
use Rattle.trajdb.specs.Answers.{HoldsOfLeg}
use Rattle.trajdb.proofs.PickLemmas.{IsPicking, picking-yes, picking-no, picking-end}
use Rattle.trajdb.proofs.questions.holding.Goals as goal
use Rattle.trajdb.proofs.questions.holding.Goals.{then-holds+in_ok-push, else-holds}

pub loop-leg-preserved : goal.loop-leg-preserved
loop-leg-preserved c =
    let P : LegView → Type 0 = HoldsOfLeg c.args.predicate c.args.rect.now c.args.period.now in
    let others : List LegView = drop (c.loop-leg.leg-index + 1) c.args.legs.now in
    let left : drop c.loop-leg.leg-index c.args.legs.now ≡ c.leg-item.result ∷ drop (c.loop-leg.leg-index + 1) c.args.legs.now =
    drop_more c.args.legs.now c.loop-leg.leg-index c.leg-item.result c.loop-leg-test.true ∙ ap (λ leg. leg ∷ drop (c.loop-leg.leg-index + 1) c.args.legs.now) (sym c.leg-item.is) in
    let so_far = subst (λ (l : List LegView). IsPicking P c.args.legs.now l c.loop-leg.picked.items) left c.loop-leg.invariant in
    elim c.if-holds.branch [
      | then-holds+in_ok-push w ↦
          let held : P c.leg-item.result = subst (λ (l : List LegView). Holds c.args.predicate l c.args.rect.now c.args.period.now) c.from_ref.ensures.value (w.if-holds.ensures.holds.0 refl) in
          subst (λ (l : List LegView). IsPicking P c.args.legs.now others l) (sym (ap (λ v. v.items) w.picked-is ∙ w.in_ok-push.ensures.items)) (picking-yes P c.args.legs.now others c.loop-leg.picked.items c.leg-item.result so_far held)
      | else-holds w ↦
          let unheld : P c.leg-item.result → ⊥ = λ h. absurd (let t : IsTrue false = w.if-holds.ensures.holds.1 (subst (λ (l : List LegView). Holds c.args.predicate l c.args.rect.now c.args.period.now) (sym c.from_ref.ensures.value) h) in cc) in
          subst (λ (l : List LegView). IsPicking P c.args.legs.now others l) (sym (ap (λ v. v.items) w.picked-is)) (picking-no P c.args.legs.now others c.loop-leg.picked.items c.leg-item.result so_far unheld)
    ]

pub returns : goal.returns
returns c =
    let P : LegView → Type 0 = HoldsOfLeg c.args.predicate c.args.rect.now c.args.period.now in
    let over = c.loop-leg-test.false in
    picking-end P c.args.legs.now c.loop-leg.picked.items
    (subst (λ (l : List LegView). IsPicking P c.args.legs.now l c.loop-leg.picked.items) (drop_all c.loop-leg.leg-index c.args.legs.now (omega (arith, over))) c.loop-leg.invariant)
