use Rattle.std.proofs.Common.{rules}
use Rattle.trajdb.proofs.PageLemmas.{keeps_leaves}
use Rattle.trajdb.proofs.database.Core.command.Goals as goal

pub returns-in-Load : goal.returns-in-Load
returns-in-Load g c = rw (c.in-Load.is, ← c.as_str.ensures) c.load_text.ensures

pub returns-in-Features : goal.returns-in-Features
returns-in-Features g c = rw (c.in-Features.is) (record {
  text = c.features_text.ensures.found;
  becomes = search rules;
  lives = search rules;
  says = c.features_text.ensures.says;
  named = c.features_text.ensures.named;
  asks = c.features_text.ensures.asks;
  later = search rules;
  question = λ _. c.features_text.ensures.leaves;
  refused = search rules;
  failed = search rules;
  full = search rules;
  stopped = search rules;
  begins = search rules;
  only = search rules;
  pages = keeps_leaves g.I.Listed c.args.self.now c.features_text.new.self c.features_text.ensures.leaves;
  was_failed = search rules;
})

pub returns-in-Trajectory : goal.returns-in-Trajectory
returns-in-Trajectory g c = rw (c.in-Trajectory.is, ← c.as_str-in-Trajectory.ensures) (record {
  text = c.track_text.ensures.found;
  becomes = search rules;
  lives = search rules;
  says = c.track_text.ensures.says;
  named = c.track_text.ensures.named;
  asks = c.track_text.ensures.asks;
  later = search rules;
  question = λ _. c.track_text.ensures.leaves;
  refused = search rules;
  failed = search rules;
  full = search rules;
  stopped = search rules;
  begins = search rules;
  only = search rules;
  pages = keeps_leaves g.I.Listed c.args.self.now c.track_text.new.self c.track_text.ensures.leaves;
  was_failed = search rules;
})
