use Rattle.std.proofs.Common.{ℕ, OnOk, ◌≡◌, ◌+◌, ◌-◌, ◌^◌, ◌<◌, ◌∙◌, min, ap, refl, subst, sym, arith, length, map, Some, set}
use Rattle.std.proofs.lemmas.Option.{slice_get-get_or}
use Rattle.boxsearch.specs.Index.{IndexView}
use Rattle.boxsearch.specs.Putting.{PutsAll}
use Rattle.boxsearch.proofs.ResultLemmas.{on_any, on_none}
use Rattle.boxsearch.proofs.tree_index.TreeIndex.put_all.Given as given
use Rattle.boxsearch.proofs.tree_index.TreeIndex.put_all.Goals.{After-is_ok}
use Rattle.boxsearch.proofs.tree_index.TreeIndex.put_all.Goals as goal

-- what putting the legs makes of the index, with as many legs as it then counts
put_all_makes : (g : given.Over) (c : After-is_ok g) (legs : ℕ) → OnOk c.insert_all-result.result (legs ≡ min (c.self.inside.legs + length c.args.legs.now) (2 ^ 64 - 1))
    → PutsAll c.args.self.now (record { cache = c.insert_all-result.new.cache; tree = c.insert_all-result.new.tree; places = set c.self.inside.places.items c.args.feature c.insert_all-result.new.place; legs = legs; known = map (λ spans. spans.items) c.new.result.items }) c.args.feature c.args.legs.now c.insert_all-result.result
put_all_makes g c legs counts =
    let places = c.self.inside.places.items in
    let new : IndexView = record { cache = c.insert_all-result.new.cache; tree = c.insert_all-result.new.tree; places = set places c.args.feature c.insert_all-result.new.place; legs = legs; known = map (λ spans. spans.items) c.new.result.items } in
    let works = ap (λ (v : IndexView). v.tree.spent) c.self.view_is ∙ c.requires.works in
    let count = ap (λ (v : IndexView). length v.places) c.self.view_is in
    let below = c.requires.feature in
    let within : c.args.feature < length places = omega (arith, count, below) in
    subst (λ old. PutsAll old new c.args.feature c.args.legs.now c.insert_all-result.result) c.self.view_is (record {
      was = c.index.result.now;
      is = c.insert_all-result.new.place;
      found = slice_get-get_or places c.args.feature c.index.result.now within ∙ ap Some (sym c.index.ensures);
      places = refl;
      few = let a = c.if-prove.false in let b = c.count.ensures.value in omega (arith, a, b);
      shape = c.insert_all-result.ensures.shape;
      passes = c.insert_all-result.ensures.passes;
      count = c.insert_all-result.ensures.length;
      joins = c.insert_all-result.ensures.joins works;
      caused = c.insert_all-result.ensures.caused works;
      counted = counts;
      works = c.insert_all-result.ensures.works;
      spent = c.insert_all-result.ensures.spent;
    })

pub returns-then-is_ok : goal.returns-then-is_ok
returns-then-is_ok g c =
    let now : c.saturating_add-self-inside.result ≡ min (c.self.inside.legs + length c.args.legs.now) (2 ^ 64 - 1) = c.saturating_add-self-inside.ensures in
    put_all_makes g (goal.at.returns-then-is_ok g c).After-is_ok c.saturating_add-self-inside.result (on_any c.insert_all-result.result now)

pub returns-else-is_ok : goal.returns-else-is_ok
returns-else-is_ok g c = put_all_makes g (goal.at.returns-else-is_ok g c).After-is_ok c.self.inside.legs (on_none _ c.insert_all-result.result (sym c.is_ok.ensures.value ∙ c.if-is_ok.false))
