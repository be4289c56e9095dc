use Rattle.std.proofs.Common.{◌∙◌, sym}
use Rattle.pagecache.specs.Cache.{fresh}
use Rattle.register.proofs.ReaderLemmas.{later_fault, on_err_and}
use Rattle.version1.specs.OldStore.{ReadsOn}
use Rattle.version1.proofs.LentLemmas.{still_stored}
use Rattle.version1.proofs.OldLemmas.{reads_stays}
use Rattle.version1.proofs.TakingLemmas.{stays_trans}
use Rattle.version1.proofs.lent_store.fill_lent.Goals as goal

pub loop-store-preserved : goal.loop-store-preserved
loop-store-preserved g c =
    let a = g.S.PageStore.seen c.args.store.now in
    let b = g.S.PageStore.seen c.loop-store.store in
    let i = c.loop-store.invariant in
    let r = c.in_ok-load_lent.ensures.reads in
    record {
      stays = stays_trans a b (g.S.PageStore.seen c.load_lent.new.store) i.stays r.stays;
      same = λ at shows. r.same at (still_stored a b i.stays at shows) ∙ i.same at shows;
    }

pub returns-clause-reads : goal.returns-clause-reads
returns-clause-reads g c = record { same = c.loop-store.invariant.same; broken = tt; stays = c.loop-store.invariant.stays; caused = tt }

pub returns-in_err-load_lent-clause-reads : goal.returns-in_err-load_lent-clause-reads
returns-in_err-load_lent-clause-reads g c =
    let a = g.S.PageStore.seen c.args.store.now in
    let b = g.S.PageStore.seen c.loop-store.store in
    let d = g.S.PageStore.seen c.load_lent.new.store in
    let e = c.in_err-load_lent.field-0.0 in
    let i = c.loop-store.invariant in
    let r = c.in_err-load_lent.ensures.reads in
    on_err_and (λ x. ReadsOn a d c.args.reader.now c.load_lent.new.reader x) c.from_residual.result e c.from_residual.ensures.1 (record {
      same = tt;
      broken = λ at shows broken. sym (i.same at shows) ∙ r.broken at (still_stored a b i.stays at shows) broken;
      stays = stays_trans a b d i.stays r.stays;
      caused = later_fault (fresh a 1) (fresh b 1) (fresh d 1) e (reads_stays a b i.stays) r.caused;
    })
