use Rattle.digests.proofs.LoadLemmas.{turned_low, turned_high}
use Rattle.digests.proofs.load.turn.Goals as goal

pub returns-clause-low : goal.returns-clause-low
returns-clause-low c = turned_low c.args.first c.args.second c.args.third c.args.fourth c.fits-first.0 c.fits-third.0

pub returns-clause-high : goal.returns-clause-high
returns-clause-high c = turned_high c.args.first c.args.second c.args.third c.args.fourth c.fits-first.0 c.fits-third.0
