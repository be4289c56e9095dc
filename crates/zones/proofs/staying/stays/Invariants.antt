use Rattle.zones.proofs.CutLemmas.{IsSoFar}
use Rattle.zones.proofs.Falling.{left}
use Rattle.zones.proofs.staying.stays.Given as goal

abbrev pub invariant-stays : goal.invariant-stays
invariant-stays l = IsSoFar l.rings l.course l.fn.first l.last l.from l.cuts.items

abbrev pub decreases-stays : goal.decreases-stays
decreases-stays l = left l.from.num l.from.den l.last.num l.last.den
