use Rattle.digests.proofs.LaneLemmas.{shifts}
use Rattle.digests.proofs.lanes.shift.Goals as goal

pub returns : goal.returns
returns c = shifts c.args.bits c.args.x c.fits-x.0
