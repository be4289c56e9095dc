use Rattle.std.proofs.Common.{map, ◌≡◌, sym, subst, []}
use Rattle.tbtree.specs.Insert.{Stands}
use Rattle.tbtree.specs.Nodes.{pages_of_cache}
use Rattle.boxsearch.specs.Index.{IndexView, new_index, IsSoundIndex}
use Rattle.boxsearch.proofs.NewLemmas.{new_sound}
use Rattle.boxsearch.proofs.tree_index.TreeIndex.new.Goals as goal

pub returns-clause-value : goal.returns-clause-value
returns-clause-value g c = λ i. record { cache = c.args.cache; tree = c.new.ensures.value i; places = c.new-2.ensures.items i; legs = 0; known = map (λ spans. spans.items) (c.new-3.ensures.items i) }

pub returns-clause-sound : goal.returns-clause-sound
returns-clause-sound g c = λ faithful some held count.
    let made : IndexView = record { cache = c.args.cache; tree = c.new.result; places = c.new-2.result.items; legs = 0; known = map (λ spans. spans.items) c.new-3.result.items } in
    let same : new_index c.args.cache c.args.shape ≡ made = λ i. record { cache = c.args.cache; tree = sym c.new.ensures.value i; places = sym c.new-2.ensures.items i; legs = 0; known = map (λ spans. spans.items) (sym c.new-3.ensures.items i) } in
    subst (λ v. IsSoundIndex v) same
    (new_sound c.args.cache c.args.shape faithful c.leaf.ensures.range count (subst (λ t. Stands (pages_of_cache c.args.cache) t [] (λ _. [])) c.new.ensures.value (c.new.ensures.stands (pages_of_cache c.args.cache) some held)))
