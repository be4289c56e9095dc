use Rattle.digests.proofs.LaneLemmas.{shifts_rotate}
use Rattle.digests.proofs.lanes.rotate.Goals as goal

pub returns : goal.returns
returns c = shifts_rotate c.args.bits c.requires.0 c.requires.1 c.args.x c.fits-x.0
