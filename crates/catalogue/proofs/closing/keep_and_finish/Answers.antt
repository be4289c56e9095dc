use Rattle.std.proofs.Common.{◌≡◌, ◌∙◌, ap, sym, subst, Err, Some}
use Rattle.legs.specs.declared.head.BookHead.{BookHead}
use Rattle.boxsearch.proofs.StartLemmas.{IsBeside}
use Rattle.boxsearch.specs.Index.{IndexView}
use Rattle.register.specs.Saved.{CatalogueView}
use Rattle.register.specs.declared.fault.CatalogueFault.{CatalogueFault}
use Rattle.register.proofs.ReaderLemmas.{on_err_and}
use Rattle.catalogue.specs.Closing.{CloseStoreCall}
use Rattle.catalogue.proofs.CallLemmas.{finished_call, not_kept, refused_call, IsKeptBeside}
use Rattle.catalogue.proofs.closing.keep_and_finish.Goals as goal

pub returns-in_err-keep : goal.returns-in_err-keep
returns-in_err-keep g c = λ legs known lawful small.
    let i : IndexView = record { cache = c.args.cache.now; tree = c.args.tree; places = c.args.places.now; legs = legs; known = known } in
    let b = c.keep.new.cache in
    let k = c.in_err-keep.ensures in
    let e = c.in_err-keep.field-0.0 in
    on_err_and (λ r. CloseStoreCall c.args.catalogue.now i b.store r) c.from_residual.result e c.from_residual.ensures.1
    (not_kept c.args.catalogue.now i b k.later k.first_written e k.only k.caused lawful small)

pub returns-in-Ok : goal.returns-in-Ok
returns-in-Ok g c = λ legs known lawful small.
    let i : IndexView = record { cache = c.args.cache.now; tree = c.args.tree; places = c.args.places.now; legs = legs; known = known } in
    let k = c.in_ok-keep.ensures in
    let beside : IsBeside c.args.cache.now c.keep.new.cache = record { faithful = k.later.store.faithful; length = k.length; tree = k.tree } in
    let dated = λ (head : BookHead) (e : c.args.catalogue.now.head ≡ Some head). c.dated.ensures head (ap (λ (v : CatalogueView). v.head) c.catalogue.view_is ∙ e) in
    let kept : IsKeptBeside c.args.catalogue.now i c.keep.new.cache = record { saved = k.saved; whole = k.whole; front = k.front; some = k.some; beside = beside; but = k.written; synced = k.synced } in
    finished_call c.args.catalogue.now i c.keep.new.cache k.later k.first_written c.laws.ensures.state dated c.store.ensures.settled kept c.finish.new.cache lawful c.in-Ok.ensures

pub returns-in-Err : goal.returns-in-Err
returns-in-Err g c = λ legs known lawful small.
    let i : IndexView = record { cache = c.args.cache.now; tree = c.args.tree; places = c.args.places.now; legs = legs; known = known } in
    let k = c.in_ok-keep.ensures in
    let beside : IsBeside c.args.cache.now c.keep.new.cache = record { faithful = k.later.store.faithful; length = k.length; tree = k.tree } in
    let dated = λ (head : BookHead) (e : c.args.catalogue.now.head ≡ Some head). c.dated.ensures head (ap (λ (v : CatalogueView). v.head) c.catalogue.view_is ∙ e) in
    let kept : IsKeptBeside c.args.catalogue.now i c.keep.new.cache = record { saved = k.saved; whole = k.whole; front = k.front; some = k.some; beside = beside; but = k.written; synced = k.synced } in
    subst (λ (e : CatalogueFault). CloseStoreCall c.args.catalogue.now i c.finish.new.cache.store (Err e)) (sym c.fault_of.ensures)
    (refused_call c.args.catalogue.now i c.keep.new.cache k.later k.first_written c.laws.ensures.state dated c.store.ensures.settled kept c.finish.new.cache lawful c.in-Err.fault c.in-Err.ensures)
