use Rattle.std.proofs.Common.{refl, ◌∙◌}
use Rattle.pagecache.proofs.CacheLemmas.{rests, steps-trans, writes-trans}
use Rattle.pagecache.proofs.slots.Slots.write_groups.Goals as goal

pub groups-init : goal.groups-init
groups-init g c = record { steps = rests _ c.requires; keys = refl }

pub groups-preserved : goal.groups-preserved
groups-preserved g c =
    let i = c.groups.invariant in
    let e = c.write_eight.ensures in record { steps = steps-trans _ _ _ i.steps e.steps; keys = e.keys ∙ i.keys }

pub returns-in-Err : goal.returns-in-Err
returns-in-Err g c = writes-trans _ _ _ _ c.groups.invariant.steps c.groups.invariant.keys c.in-Err.ensures
