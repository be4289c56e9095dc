use Rattle.std.proofs.Common.{◌≡◌, ◌-◌, ◌*◌}
use Rattle.std.specs.Prelude.{IsTrue}
use Rattle.chains.specs.Reads.{OnlyReads}
use Rattle.treecheck.specs.Walking.{pages_by}
use Rattle.treecheck.proofs.WalkedLemmas.{Walked}
use Rattle.treecheck.proofs.walking.walk_chain.Given as goal

abbrev pub invariant-leaves : goal.invariant-leaves
invariant-leaves g l = record {
  reads : OnlyReads (g.R.LeafReader.seen l.initial.source) (g.R.LeafReader.seen l.source);
  left : IsTrue (g.R.LeafReader.seen l.initial.source).store.is_faithful → l.walk.left ≡ l.place.legs - l.counter * l.most;
  walked : IsTrue (g.R.LeafReader.seen l.initial.source).store.is_faithful → Walked (pages_by g.R.LeafReader.node (g.R.LeafReader.seen l.initial.source)) l.most l.rows l.feature l.place l.walk l.initial.survey l.survey;
}
