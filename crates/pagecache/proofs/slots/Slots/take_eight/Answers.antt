use Rattle.std.proofs.Common.{arith}
use Rattle.pagecache.proofs.BringLemmas.{all_read_after}
use Rattle.pagecache.proofs.CacheLemmas.{rests, steps-trans}
use Rattle.pagecache.proofs.slots.Slots.take_eight.Goals as goal

pub places-init : goal.places-init
places-init g c = record { steps = rests _ c.requires.sound }

pub take_in-requires-clause-read : goal.take_in-requires-clause-read
take_in-requires-clause-read g c = (all_read_after _ _ _ _ _ 8 c.places.invariant.steps c.requires.read).each c.places.place (omega arith)

pub take_in-requires-clause-digest : goal.take_in-requires-clause-digest
take_in-requires-clause-digest g c = c.digests_of-all.ensures c.places.place (omega arith)

pub places-preserved : goal.places-preserved
places-preserved g c =
    record { steps = steps-trans _ _ _ c.places.invariant.steps c.take_in.ensures }

pub returns-in-Err : goal.returns-in-Err
returns-in-Err g c = steps-trans _ _ _ c.places.invariant.steps c.take_in.ensures
