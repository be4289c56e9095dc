use Rattle.std.proofs.Common.{◌≡◌, ◌∙◌, ◌∷◌, ◌+◌, List, sym, subst, ap, drop, arith}
use Rattle.std.proofs.lemmas.List.{drop_more, drop_all}
use Rattle.legs.specs.Legs.{LegView}
use Rattle.moments.specs.Stays.{AreStays}
use Rattle.moments.specs.declared.stay.Stay.{Stay}
use Rattle.moments.proofs.ListLemmas.{IsStaying, none_turns, staying-yes, staying-no, staying-end}
use Rattle.moments.proofs.listing.stays_of.Goals as goal
use Rattle.moments.proofs.listing.stays_of.Goals.{in-Some+in_ok-push, in_default}

pub loop-leg-preserved : goal.loop-leg-preserved
loop-leg-preserved c =
    let rect = c.args.rect.now in
    let period = c.args.period.now in
    let all = c.args.legs.now in
    let others : List LegView = drop (c.loop-leg.leg-index + 1) all in
    let left : drop c.loop-leg.leg-index all ≡ c.leg-item.result ∷ drop (c.loop-leg.leg-index + 1) all =
    drop_more all c.loop-leg.leg-index c.leg-item.result c.loop-leg-test.true ∙ ap (λ leg. leg ∷ drop (c.loop-leg.leg-index + 1) all) (sym c.leg-item.is) in
    let so_far = subst (λ (l : List LegView). IsStaying rect period all l c.loop-leg.stays.items) left c.loop-leg.invariant in
    elim c.match-stay_of.branch [
      | in-Some+in_ok-push w ↦
          subst (λ (l : List Stay). IsStaying rect period all others l) (sym (ap (λ v. v.items) w.stays-is ∙ w.in_ok-push.ensures.items)) (staying-yes rect period all others c.loop-leg.stays.items c.leg-item.result w.in-Some.stay so_far w.in-Some.ensures)
      | in_default w ↦
          subst (λ (l : List Stay). IsStaying rect period all others l) (sym (ap (λ v. v.items) w.stays-is)) (staying-no rect period all others c.loop-leg.stays.items c.leg-item.result so_far w.in_default.ensures)
    ]

are_stays : (c : goal.After-loop-leg) → AreStays c.args.rect.now c.args.period.now c.args.legs.now c.loop-leg.stays.items
are_stays c =
    let over = c.loop-leg-test.false in
    staying-end c.args.rect.now c.args.period.now c.args.legs.now c.loop-leg.stays.items
    (subst (λ (l : List LegView). IsStaying c.args.rect.now c.args.period.now c.args.legs.now l c.loop-leg.stays.items) (drop_all c.loop-leg.leg-index c.args.legs.now (omega (arith, over))) c.loop-leg.invariant)

pub returns-clause-stays : goal.returns-clause-stays
returns-clause-stays c = are_stays c

pub returns-clause-ordered : goal.returns-clause-ordered
returns-clause-ordered c = none_turns c.args.rect.now c.args.period.now c.args.legs.now c.loop-leg.stays.items (are_stays c)
