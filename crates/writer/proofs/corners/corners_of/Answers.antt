use Rattle.writer.proofs.CornerLemmas.{are_corners}
use Rattle.writer.proofs.corners.corners_of.Goals as goal

pub returns : goal.returns
returns c = are_corners c.first.result c.widened.result c.args.entries.now c.first.ensures c.widened.ensures
