use Rattle.std.proofs.Common.{arith, subst, sym}
use Rattle.pagecache.proofs.CallerLemmas.{refused_after}
use Rattle.pagecache.specs.Cache.{Cache}
use Rattle.register.proofs.ReaderLemmas.{if_err, on_err_and, on_ok}
use Rattle.catalogue.specs.Finishing.{FinishesAll}
use Rattle.catalogue.specs.Holding.{IsUnfinishedStore}
use Rattle.catalogue.proofs.FinishLemmas.{finishes, reads_others, sets_others, stopped_after, then_others, unwritten}
use Rattle.catalogue.proofs.finishing.finish.Goals as goal

pub returns-in_err-flush : goal.returns-in_err-flush
returns-in_err-flush g c =
    let a = c.args.cache.now in
    let b = c.flush.new.self in
    let e = c.in_err-flush.field-0.0 in
    let f = c.in_err-flush.ensures in
    on_err_and (λ r. FinishesAll a b r) c.from_residual.result e c.from_residual.ensures.1 (record {
      finishes = tt;
      synced = tt;
      others = reads_others a b f.stays f.unsynced f.length;
      unfinished = λ memory fa some was says. subst (λ (k : Cache). IsUnfinishedStore k.store) (sym (f.memory memory)) was;
      caused = stopped_after a a b 0 e (omega arith) f.cause;
    })

pub returns-in_err-set_state : goal.returns-in_err-set_state
returns-in_err-set_state g c =
    let a = c.args.cache.now in
    let b = c.flush.new.self in
    let d = c.set_state.new.cache in
    let e = c.in_err-set_state.field-0.0 in
    let f = c.in_ok-flush.ensures in
    let r = c.in_err-set_state.ensures.rests in
    on_err_and (λ r. FinishesAll a d r) c.from_residual-in_err-set_state.result e c.from_residual-in_err-set_state.ensures.1 (record {
      finishes = tt;
      synced = tt;
      others = then_others a b d (reads_others a b f.stays f.unsynced f.length) (reads_others b d r.stays r.unsynced r.length);
      unfinished = λ memory fa some was says. unwritten a b f.stays f.written fa d r.stays.keeps some says;
      caused = refused_after a b d 0 e f.stays c.in_err-set_state.ensures.caused;
    })

pub returns : goal.returns
returns g c =
    let a = c.args.cache.now in
    let b = c.flush.new.self in
    let d = c.set_state.new.cache in
    let k = c.flush-2.new.self in
    let f = c.in_ok-flush.ensures in
    let sets = c.in_ok-set_state.ensures.sets in
    let l = c.flush-2.ensures in
    let first = then_others a b d (reads_others a b f.stays f.unsynced f.length) (sets_others b d _ sets.lends) in
    let others = then_others a d k first (reads_others d k l.stays l.unsynced l.length) in
    record {
      finishes = on_ok c.flush-2.result (λ all fa counts. finishes a b f.stays f.written fa d sets k l.stays all others counts) l.written;
      synced = l.synced;
      others = others;
      unfinished = λ memory fa some was says. subst (λ (x : Cache). IsUnfinishedStore x.store) (sym (l.memory memory)) (unwritten a b f.stays f.written fa d sets.lends.writes.keeps some says);
      caused = if_err _ _ c.flush-2.result (λ e h. stopped_after a d k 0 e first.store.faults h) l.cause;
    }
