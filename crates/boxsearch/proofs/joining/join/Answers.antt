use Rattle.std.proofs.Common.{◌≡◌, ap, refl, subst, sym, ◌∙◌}
use Rattle.boxsearch.specs.Index.{IndexView}
use Rattle.boxsearch.specs.Putting.{PutsAll}
use Rattle.boxsearch.specs.Taking.{Taking}
use Rattle.boxsearch.proofs.AddLemmas.{made}
use Rattle.boxsearch.proofs.ResultLemmas.{from_ok}
use Rattle.boxsearch.proofs.TakingTurns.{joined, taking_none}
use Rattle.boxsearch.proofs.joining.join.Given as given
use Rattle.boxsearch.proofs.joining.join.Goals as goal

-- what putting the run makes of it
has_put : (g : given.Over) (c : goal.After-answer g) → PutsAll (made c.args.index.now c.args.feature) c.put_all.new.self c.args.feature c.args.legs.now c.put_all.result
has_put g c = subst (λ m. PutsAll m c.put_all.new.self c.args.feature c.args.legs.now c.put_all.result) (from_ok c.make_place.result (sym c.is_err.ensures.value ∙ c.if-is_err.false) c.make_place.ensures.ok) c.put_all.ensures

pub returns : goal.returns
returns g c =
    subst (λ r. Taking c.args.index.now c.put_all.new.self c.args.legs.now r) (sym c.answer.ensures)
    (joined c.args.index.now c.put_all.new.self c.args.feature c.args.legs.now c.requires.some c.requires.one c.put_all.result (has_put g c) c.requires.works)

pub returns-then-feature-len : goal.returns-then-feature-len
returns-then-feature-len g c =
    let made_is : c.make_place.new.self ≡ made c.args.index.now c.args.feature = from_ok c.make_place.result (sym c.is_err.ensures.value ∙ c.if-is_err.false) c.make_place.ensures.ok in
    let is = c.index.view_is ∙ made_is in
    taking_none c.args.index.now _ c.args.legs.now refl (ap (λ (i : IndexView). i.cache) is) (ap (λ (i : IndexView). i.tree.shape) is)
