use Rattle.std.proofs.lemmas.Result.{on_ok_weaker}
use Rattle.reports.proofs.TextLemmas.{behind_comma}
use Rattle.reports.proofs.moments_text.push_next_coord.Goals as goal

pub returns : goal.returns
returns c = on_ok_weaker c.push_coord.result (behind_comma c.args.text.now.items _ _ _ c.in_ok-push.ensures.items) c.push_coord.ensures.ok
