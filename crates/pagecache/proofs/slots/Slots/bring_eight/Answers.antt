use Rattle.pagecache.proofs.CacheLemmas.{rests, steps-trans}
use Rattle.pagecache.proofs.slots.Slots.bring_eight.Goals as goal

pub returns-then-absent-lt-FEW : goal.returns-then-absent-lt-FEW
returns-then-absent-lt-FEW g c = rests _ c.requires

pub returns-in-Ok-take_eight : goal.returns-in-Ok-take_eight
returns-in-Ok-take_eight g c = steps-trans _ _ _ c.read_eight.ensures.steps c.take_eight.ensures

pub returns-in-Err-take_eight : goal.returns-in-Err-take_eight
returns-in-Err-take_eight g c = steps-trans _ _ _ c.read_eight.ensures.steps c.take_eight.ensures
