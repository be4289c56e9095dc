use Rattle.std.proofs.Common.{ℕ, OnOk, ◌≡◌, ◌+◌, ◌-◌, ◌^◌, ◌<◌, ◌∙◌, ◌∷◌, [], min, ap, subst, sym, arith, length, Some, slice_get, set, map}
use Rattle.std.proofs.lemmas.Option.{slice_get-get_or}
use Rattle.legs.specs.Legs.{LegView}
use Rattle.boxsearch.specs.Index.{IndexView}
use Rattle.boxsearch.specs.Putting.{PutsAll}
use Rattle.boxsearch.proofs.ResultLemmas.{on_any, on_none}
use Rattle.boxsearch.proofs.tree_index.TreeIndex.put.Given as given
use Rattle.boxsearch.proofs.tree_index.TreeIndex.put.Goals.{After-is_ok}
use Rattle.boxsearch.proofs.tree_index.TreeIndex.put.Goals as goal

-- what putting the leg makes of the index, with as many legs as it then counts
put_makes : (g : given.Over) (c : After-is_ok g) (legs : ℕ) → OnOk c.insert-result.result (legs ≡ min (c.self.inside.legs + 1) (2 ^ 64 - 1))
    → PutsAll c.args.self.now (record { cache = c.insert-result.new.cache; tree = c.insert-result.new.tree; places = set c.self.inside.places.items c.leg.inside.feature c.insert-result.new.place; legs = legs; known = map (λ spans. spans.items) c.new.result.items }) c.args.leg.feature (c.args.leg ∷ []) c.insert-result.result
put_makes g c legs counts =
    let places = c.self.inside.places.items in
    let new : IndexView = record { cache = c.insert-result.new.cache; tree = c.insert-result.new.tree; places = set places c.leg.inside.feature c.insert-result.new.place; legs = legs; known = map (λ spans. spans.items) c.new.result.items } in
    let works = ap (λ (v : IndexView). v.tree.spent) c.self.view_is ∙ c.requires.works in
    let feature : c.leg.inside.feature ≡ c.args.leg.feature = ap (λ (l : LegView). l.feature) c.leg.view_is in
    let count = ap (λ (v : IndexView). length v.places) c.self.view_is in
    let below = c.requires.feature in
    let call = c.insert-result.ensures.call in
    let within : c.leg.inside.feature < length places = omega (arith, feature, count, below) in
    subst (λ old. PutsAll old new c.args.leg.feature (c.args.leg ∷ []) c.insert-result.result) c.self.view_is (record {
      was = c.index.result.now;
      is = c.insert-result.new.place;
      found = ap (slice_get places) (sym feature) ∙ slice_get-get_or places c.leg.inside.feature c.index.result.now within ∙ ap Some (sym c.index.ensures);
      places = ap (λ i. set places i c.insert-result.new.place) feature;
      joins = call.joins works;
      shape = call.shape;
      passes = call.passes;
      count = call.length;
      few = let a = c.if-prove.false in let b = c.count.ensures.value in omega (arith, a, b);
      caused = call.caused works;
      works = call.works;
      spent = call.spent;
      counted = counts;
    })

pub returns-then-is_ok-clause-puts : goal.returns-then-is_ok-clause-puts
returns-then-is_ok-clause-puts g c =
    let now : c.saturating_add-self-inside.result ≡ min (c.self.inside.legs + 1) (2 ^ 64 - 1) = c.saturating_add-self-inside.ensures in
    put_makes g (goal.at.returns-then-is_ok-clause-puts g c).After-is_ok c.saturating_add-self-inside.result (on_any c.insert-result.result now)

pub returns-else-is_ok-clause-puts : goal.returns-else-is_ok-clause-puts
returns-else-is_ok-clause-puts g c = put_makes g (goal.at.returns-else-is_ok-clause-puts g c).After-is_ok c.self.inside.legs (on_none _ c.insert-result.result (sym c.is_ok.ensures.value ∙ c.if-is_ok.false))
