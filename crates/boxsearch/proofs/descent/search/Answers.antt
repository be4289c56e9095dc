use Rattle.std.proofs.Common.{ℕ, ◌∙◌, sym, arith, List}
use Rattle.std.proofs.lemmas.Bool.{true≢false}
use Rattle.legs.specs.Legs.{LegView}
use Rattle.tbtree.specs.Insert.{Stands}
use Rattle.tbtree.specs.Nodes.{pages_of_cache}
use Rattle.tbtree.proofs.LawLemmas.{Descends, descends}
use Rattle.chains.proofs.ReadLemmas.{reads_refl}
use Rattle.boxsearch.specs.Way.{meets}
use Rattle.boxsearch.proofs.FoundLemmas.{search_asks, search_gives}
use Rattle.boxsearch.proofs.PruningLemmas.{pruning}
use Rattle.boxsearch.proofs.descent.search.Given as given
use Rattle.boxsearch.proofs.descent.search.Goals.{After-leaf}
use Rattle.boxsearch.proofs.descent.search.Goals as goal

-- a tree that stands has a way down for the box
descends_to : (g : given.Over) (c : After-leaf g) (legs : List LegView) (pages : ℕ → List ℕ) → Stands (pages_of_cache c.args.cache.now) c.args.tree.now legs pages → Descends (meets c.args.query.now) (pages_of_cache c.args.cache.now) c.args.tree.now legs
descends_to g c legs pages s = descends (meets c.args.query.now) (pruning c.args.query.now) (pages_of_cache c.args.cache.now) c.args.tree.now legs pages c.leaf.ensures.range s

pub returns-clause-found : goal.returns-clause-found
returns-clause-found g c = λ ns fa legs pages s.
    search_gives c.args.query.now c.args.tree.now c.args.cache.now c.collected.new.cache (λ found. found.items) legs (descends_to g (goal.at.returns-clause-found g c).After-leaf legs pages s) c.collected.result c.collected.ensures ns fa

pub returns-clause-asked : goal.returns-clause-asked
returns-clause-asked g c = λ fa legs pages s.
    search_asks c.args.query.now c.args.tree.now c.args.cache.now c.collected.new.cache (λ found. found.items) legs (descends_to g (goal.at.returns-clause-asked g c).After-leaf legs pages s) c.collected.result c.collected.ensures fa

pub returns-clause-spent : goal.returns-clause-spent
returns-clause-spent g c = λ spent. absurd (true≢false (sym spent ∙ c.if-tree.false))

pub returns-then-tree-clause-searches : goal.returns-then-tree-clause-searches
returns-then-tree-clause-searches g c = record {
  met = λ fa. tt;
  way = λ fa. tt;
  named = λ fa. tt;
  asked = λ fa. tt;
  most = omega arith;
  reads = reads_refl c.args.cache.now;
  caused = λ works. absurd (true≢false (sym c.if-tree.true ∙ works));
}
