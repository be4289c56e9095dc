use Rattle.std.proofs.Common.{◌≡◌, ◌∙◌, ◌∷◌, [], ◌++◌, ◌+◌, drop, ap, sym, subst}
use Rattle.std.proofs.lemmas.Bool.{true≢false}
use Rattle.std.proofs.lemmas.List.{drop_more}
use Rattle.std.proofs.lemmas.Result.{err_from_is_err_and}
use Rattle.legs.specs.Legs.{LegView}
use Rattle.legs.proofs.GrowLemmas.{growing-refused, IsGrowing, growing-more, later-trans, list_words}
use Rattle.legs.proofs.list_index.ListIndexLegIndex.add_all.Goals as goal

pub returns-in_err-add-clause-refusals : goal.returns-in_err-add-clause-refusals
returns-in_err-add-clause-refusals c =
    let old = c.args.self.now in
    let now = c.loop-leg.self in
    let legs = c.args.legs.now in
    let k = c.loop-leg.leg-index in
    let leg = c.leg-item.result in
    let next = drop_more legs k leg c.loop-leg-test.true ∙ ap (λ (l : LegView). l ∷ drop (k + 1) legs) (sym c.leg-item.is) in
    let so_far : IsGrowing list_words old now legs (leg ∷ drop (k + 1) legs) = subst (λ left. IsGrowing list_words old now legs left) next c.loop-leg.invariant.growing in
    let p = err_from_is_err_and c.from_residual.result c.from_residual.ensures.1 in
    rw (p.1, p.2) (growing-refused list_words old now c.add.new.self legs (drop (k + 1) legs) leg c.in_err-add.field-0.0 (λ e. true≢false (sym e ∙ sym c.spent.ensures ∙ c.if-spent.false)) c.loop-leg.invariant.later.faults so_far c.in_err-add.ensures.refusals)

pub loop-leg-preserved : goal.loop-leg-preserved
loop-leg-preserved c =
    let old = c.args.self.now in
    let now = c.loop-leg.self in
    let legs = c.args.legs.now in
    let k = c.loop-leg.leg-index in
    let leg = c.leg-item.result in
    let next = drop_more legs k leg c.loop-leg-test.true ∙ ap (λ (l : LegView). l ∷ drop (k + 1) legs) (sym c.leg-item.is) in
    let so_far : IsGrowing list_words old now legs (leg ∷ drop (k + 1) legs) = subst (λ left. IsGrowing list_words old now legs left) next c.loop-leg.invariant.growing in
    let more = c.in_ok-add.ensures in
    record {
      growing = growing-more list_words old now c.add.new.self legs (drop (k + 1) legs) leg so_far more.added;
      later = later-trans list_words old now c.add.new.self c.loop-leg.invariant.later more.later;
    }
