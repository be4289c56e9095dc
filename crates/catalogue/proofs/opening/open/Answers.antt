use Rattle.std.proofs.Common.{subst}
use Rattle.pagecache.specs.Cache.{fresh, Cache, IsWritten}
use Rattle.catalogue.specs.Holding.{IsRestored, NotRestored}
use Rattle.catalogue.proofs.OpenLemmas.{not_opened, opened}
use Rattle.catalogue.proofs.opening.open.Goals as goal

pub returns-in-Ok-restore-clause-opened : goal.returns-in-Ok-restore-clause-opened
returns-in-Ok-restore-clause-opened g c =
    let s = g.S.PageStore.seen c.args.store in
    let r = c.in-Ok-restore.restored in
    let is = c.in-Ok.ensures.fresh in
    opened s c.args.cache_pages (subst (λ k. IsWritten k) is c.in-Ok.ensures.written) (g.met.S.PageStore.lawful c.args.store) r.0 r.1
    (subst (λ (k : Cache). IsRestored k r.0 r.1) is c.in-Ok-restore.ensures.restored) c.laws.ensures.same

pub returns-in-Err-restore-clause-refused : goal.returns-in-Err-restore-clause-refused
returns-in-Err-restore-clause-refused g c =
    let s = g.S.PageStore.seen c.args.store in
    let b = c.in-Err-restore.cache in
    let is = c.in-Ok.ensures.fresh in
    not_opened s c.args.cache_pages (subst (λ k. IsWritten k) is c.in-Ok.ensures.written) (g.met.S.PageStore.lawful c.args.store) b c.in-Err-restore.fault (g.S.PageStore.seen c.into_store.result)
    (subst (λ (k : Cache). NotRestored k b c.in-Err-restore.fault) is c.in-Err-restore.ensures.refused) c.into_store.ensures (g.met.S.PageStore.lawful c.into_store.result)
