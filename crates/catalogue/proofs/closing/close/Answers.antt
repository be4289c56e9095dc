use Rattle.std.proofs.Common.{◌≤◌, ◌∙◌, ap, sym, subst}
use Rattle.pages.specs.Store.{Store}
use Rattle.boxsearch.specs.Index.{IndexView}
use Rattle.catalogue.specs.Closing.{CloseStoreCall}
use Rattle.catalogue.proofs.closing.close.Goals as goal

pub returns-clause-call : goal.returns-clause-call
returns-clause-call g c =
    let i = c.args.index in
    let catalogue = c.args.catalogue.now in
    let r = c.keep_and_finish-result.result in
    let new = c.keep_and_finish-result.new.cache in
    let taken = c.take_places-places.ensures in
    let cache = c.into_cache-cache.ensures ∙ ap (λ (i : IndexView). i.cache) taken.rest in
    let places = c.deref.ensures.value ∙ taken.taken in
    let call = c.keep_and_finish-result.ensures i.legs i.known c.lawful.ensures (subst (λ n. n ≤ new.store.count) c.count.ensures.value c.count.ensures.within) in
    subst (λ (s : Store). CloseStoreCall catalogue i s r) (sym c.into_store.ensures)
    (subst (λ (x : IndexView). CloseStoreCall catalogue x new.store r) (λ x. record { cache = cache x; tree = c.tree-tree.ensures x; places = places x; legs = i.legs; known = i.known }) call)
