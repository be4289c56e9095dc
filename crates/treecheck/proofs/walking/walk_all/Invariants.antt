use Rattle.std.specs.Prelude.{IsTrue}
use Rattle.chains.specs.Reads.{OnlyReads}
use Rattle.treecheck.specs.Walking.{pages_by}
use Rattle.treecheck.proofs.SurveyLemmas.{Surveyed}
use Rattle.treecheck.proofs.walking.walk_all.Given as goal

abbrev pub invariant-loop-feature : goal.invariant-loop-feature
invariant-loop-feature g l = record {
  reads : OnlyReads (g.R.LeafReader.seen l.initial.source) (g.R.LeafReader.seen l.source);
  surveyed : IsTrue (g.R.LeafReader.seen l.initial.source).store.is_faithful → Surveyed (pages_by g.R.LeafReader.node (g.R.LeafReader.seen l.initial.source)) l.most l.rows l.feature l.places l.tracks.tracks l.survey;
}
