use Rattle.pagecache.proofs.BringLemmas.{read_after, read_payload}
use Rattle.pagecache.proofs.CacheLemmas.{answered-ok, rests, steps-trans}
use Rattle.pagecache.proofs.HeldLemmas.{none_by_keys}
use Rattle.pagecache.proofs.slots.Slots.take_in.Goals as goal

pub returns-then-not-found : goal.returns-then-not-found
returns-then-not-found g c = rests _ c.requires.sound

pub returns-then-not-is_absent : goal.returns-then-not-is_absent
returns-then-not-is_absent g c = rests _ c.requires.sound

pub returns-in-Err : goal.returns-in-Err
returns-in-Err g c = rests _ c.requires.sound

pub keep-requires-clause-absent : goal.keep-requires-clause-absent
keep-requires-clause-absent g c =
    none_by_keys c.args.number c.args.self.now.held.entries c.make_room.new.self.held.entries c.make_room.ensures.writes.keys (c.is_absent.ensures.absent c.if-not-is_absent.false)

pub keep-requires-clause-same : goal.keep-requires-clause-same
keep-requires-clause-same g c =
    read_payload _ c.args.number c.args.page.now c.in-Ok.payload (read_after _ _ c.args.number c.args.page.now c.make_room.ensures.writes.steps (c.requires.read c.if-not-found.false)) (answered-ok _ _ _ c.in-Ok.ensures.value)

pub returns-in-Ok-keep : goal.returns-in-Ok-keep
returns-in-Ok-keep g c = steps-trans _ _ _ c.make_room.ensures.writes.steps c.keep.ensures.steps

pub returns-in-Err-keep : goal.returns-in-Err-keep
returns-in-Err-keep g c = steps-trans _ _ _ c.make_room.ensures.writes.steps c.keep.ensures.steps
