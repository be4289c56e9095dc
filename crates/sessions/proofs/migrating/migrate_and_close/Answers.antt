use Rattle.std.proofs.Common.{◌≡◌, ◌⊎◌, false, subst, true, OnOk}
use Rattle.std.specs.Prelude.{OnErr}
use Rattle.pages.specs.Store.{IsSynced}
use Rattle.catalogue.specs.Holding.{HoldsButFirst, IsUnfinishedStore}
use Rattle.version1.specs.OldStore.{present_shape}
use Rattle.trajdb.specs.Calls.{IsLoadFault}
use Rattle.trajdb.specs.Db.{HasPages, IsSoundDb}
use Rattle.trajdb.specs.Lasting.{IsClosingFault, IsFaultless}
use Rattle.sessions.proofs.AnswerLemmas.{closed_book, closed_but_first, closing_fault, err_of, over_open, over_run}
use Rattle.sessions.proofs.migrating.migrate_and_close.Goals as goal

pub returns-in-Ok-closed-clause-holds : goal.returns-in-Ok-closed-clause-holds
returns-in-Ok-closed-clause-holds g c = λ fa fb shape limits book h.
    let e = c.in-Ok.ensures in
    closed_book c.in-Ok.database (g.T.PageStore.seen c.close-store.result.0) c.close-store.result.1 c.close-store.ensures.holds c.in-Ok-closed.is
    (present_shape shape) limits book (e.book fa fb shape limits book h) (e.pages fa fb) e.begun

pub returns-in-Ok-closed-clause-synced : goal.returns-in-Ok-closed-clause-synced
returns-in-Ok-closed-clause-synced g c =
    let closed = g.T.PageStore.seen c.close-store.result.0 in
    subst (λ r. OnOk r (c.in-Ok.database.begun ≡ true → IsSynced closed)) c.in-Ok-closed.is c.close-store.ensures.synced c.in-Ok.ensures.begun

pub returns-in-Err-closed-clause-left : goal.returns-in-Err-closed-clause-left
returns-in-Err-closed-clause-left g c = λ fa fb shape limits book h.
    let e = c.in-Ok.ensures in
    let sound = (e.book fa fb shape limits book h).sound in
    over_run (g.T.PageStore.seen c.args.new) (g.T.PageStore.seen c.close-store.result.0) c.in-Err-closed.fault
    (err_of (λ f. IsSoundDb c.in-Ok.database → c.in-Ok.database.failed ≡ false → IsLoadFault f) c.close-store.result.1 c.in-Err-closed.fault c.in-Err-closed.is c.close-store.ensures.only sound e.lives)
    (λ f. err_of (λ f. IsFaultless f → IsSoundDb c.in-Ok.database → HasPages c.in-Ok.database → c.in-Ok.database.failed ≡ false → IsUnfinishedStore (g.T.PageStore.seen c.close-store.result.0)) c.close-store.result.1 c.in-Err-closed.fault c.in-Err-closed.is c.close-store.ensures.unfinished f sound (e.pages fa fb) e.lives)

pub returns-in-Err-clause-left : goal.returns-in-Err-clause-left
returns-in-Err-clause-left g c = λ fa fb shape limits book h.
    let e = c.in-Err.ensures in
    over_open (g.T.PageStore.seen c.args.new) (g.T.PageStore.seen c.in-Err.store) c.in-Err.fault (e.refused.holds fa fb shape limits book h) (e.left fa fb)

pub returns-in-Err-closed-clause-caused : goal.returns-in-Err-closed-clause-caused
returns-in-Err-closed-clause-caused g c =
    let left = g.T.PageStore.seen c.close-store.result.0 in
    closing_fault (g.S.PageStore.seen c.args.old.now) (g.S.PageStore.seen c.migrate.new.old) (g.T.PageStore.seen c.args.new) left c.in-Ok.database c.in-Err-closed.fault c.in-Ok.ensures.lives c.in-Ok.ensures.faults
    (err_of (λ f. IsClosingFault c.in-Ok.database left f) c.close-store.result.1 c.in-Err-closed.fault c.in-Err-closed.is c.close-store.ensures.caused)

pub returns-in-Err-closed-clause-closing : goal.returns-in-Err-closed-clause-closing
returns-in-Err-closed-clause-closing g c = λ why is fa fb shape limits book h.
    let e = c.in-Ok.ensures in
    let has = e.book fa fb shape limits book h in
    let db = c.in-Ok.database in
    let s = g.T.PageStore.seen c.close-store.result.0 in
    let left = subst (λ r. OnErr r (IsSoundDb db → HasPages db → db.failed ≡ false → IsUnfinishedStore s ⊎ HoldsButFirst s db.index.tree.shape db.limits db.book)) c.in-Err-closed.is c.close-store.ensures.refused in
    closed_but_first db s (present_shape shape) limits book has (left has.sound (e.pages fa fb) e.lives)
