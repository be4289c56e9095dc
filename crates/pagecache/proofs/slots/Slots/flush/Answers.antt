use Rattle.std.proofs.Common.{◌≡◌, ◌∙◌, refl, Err, IfErr, IsErrOf, Result, Ok}
use Rattle.pagecache.specs.Cache.{Cache}
use Rattle.pagecache.specs.Slots.{HasFailed, Steps, seen_of}
use Rattle.pagecache.specs.declared.fault.CacheFault.{CacheFault}
use Rattle.pagecache.specs.declared.fault.CacheFault.TheVariants.{Memory, Store}
use Rattle.pagecache.proofs.CacheLemmas.{all_written, failed_after, failed_stopped, none_changed, on_err, on_ok, rests, steps-trans, store_step}
use Rattle.pagecache.proofs.slots.Slots.flush.Goals as goal

-- a store that failed is no want of memory
no_want : (a b : Cache) (r : Result (Unit {0}) CacheFault) → IfErr r (λ fault. HasFailed fault a b) → IsErrOf r Memory → b ≡ a
no_want a b (Ok x) h e = absurd (cc)
no_want a b (Err fault) h e = let s : fault ≡ Store = h.0 in absurd (cc)

pub returns-in-Err-clause-sound : goal.returns-in-Err-clause-sound
returns-in-Err-clause-sound g c = c.requires

pub returns-in-Err-clause-flushes : goal.returns-in-Err-clause-flushes
returns-in-Err-clause-flushes g c =
    let r = rests _ c.requires in
    record { written = tt; synced = tt; stays = r.stays; unsynced = r.unsynced; length = r.length; asked = r.asked; memory = λ _. refl; cause = tt }

pub returns-in-Err-write_all-clause-flushes : goal.returns-in-Err-write_all-clause-flushes
returns-in-Err-write_all-clause-flushes g c =
    let w = c.in-Err-write_all.ensures.writes in
    record {
      written = tt;
      synced = tt;
      stays = w.steps.stays;
      unsynced = w.steps.unsynced;
      length = w.steps.length;
      asked = w.steps.asked;
      memory = no_want _ _ (Err c.in-Err-write_all.fault) w.cause;
      cause = failed_stopped _ _ c.in-Err-write_all.fault w.cause;
    }

pub returns-clause-sound : goal.returns-clause-sound
returns-clause-sound g c =
    let w = c.write_all.ensures.writes.steps in
    (store_step g.S.PageStore.seen c.write_all.new.self c.sync.new.self w.sound c.sync.ensures.rest c.sync.ensures.stays).sound

pub returns-clause-flushes : goal.returns-clause-flushes
returns-clause-flushes g c =
    let seen = g.S.PageStore.seen in
    let w = c.write_all.ensures.writes.steps in
    let clean = none_changed _ (seen_of seen c.write_all.new.self) c.deref.result.now (c.deref.ensures.value ∙ c.in-Ok.ensures) w.stays c.in-Ok-write_all.ensures.written in
    let last : Steps (seen_of seen c.write_all.new.self) (seen_of seen c.sync.new.self) = store_step seen c.write_all.new.self c.sync.new.self w.sound c.sync.ensures.rest c.sync.ensures.stays in
    let all : Steps (seen_of seen c.args.self.now) (seen_of seen c.sync.new.self) = steps-trans _ _ _ w last in
    let cause : IfErr c.sync.result (λ fault. HasFailed fault (seen_of seen c.args.self.now) (seen_of seen c.sync.new.self)) = on_err c.sync.result (λ e. failed_after (seen_of seen c.args.self.now) (seen_of seen c.write_all.new.self) (seen_of seen c.sync.new.self) e w) c.sync.ensures.cause in
    record {
      written = on_ok c.sync.result (λ _. all_written _ last.sound (g.met.S.PageStore.lawful c.sync.new.self.store) (λ n. last.stays.changed n (clean n))) c.sync.ensures.synced;
      synced = c.sync.ensures.synced;
      stays = all.stays;
      unsynced = all.unsynced;
      length = all.length;
      asked = all.asked;
      memory = no_want (seen_of seen c.args.self.now) (seen_of seen c.sync.new.self) c.sync.result cause;
      cause = on_err c.sync.result (failed_stopped (seen_of seen c.args.self.now) (seen_of seen c.sync.new.self)) cause;
    }
