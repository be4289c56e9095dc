use Rattle.std.proofs.Common.{◌∙◌, ap, sym, subst}
use Rattle.pages.specs.Store.{IsLawful}
use Rattle.boxsearch.specs.Index.{IndexView}
use Rattle.catalogue.specs.Holding.{IsUnfinishedStore}
use Rattle.catalogue.proofs.StateLemmas.{marked_store}
use Rattle.trajdb.specs.Db.{DbView, HasPages}
use Rattle.trajdb.specs.Lasting.{IsSafe}
use Rattle.trajdb.proofs.SafeLemmas.{left_safe}
use Rattle.trajdb.proofs.db.Db.abandon.Goals as goal

pub returns-clause-safe : goal.returns-clause-safe
returns-clause-safe g c = λ was safe.
    let index = c.into_parts-index.ensures.index in
    let lawful = subst (λ (x : IndexView). IsLawful x.cache.store) index c.rest.ensures.lawful in
    let store = c.rest.ensures.store ∙ ap (λ (x : IndexView). x.cache.store) index in
    left_safe was c.self.inside.core (g.S.PageStore.seen c.rest.result) store lawful (subst (IsSafe was) (sym c.self.view_is) safe)

pub returns-clause-unfinished : goal.returns-clause-unfinished
returns-clause-unfinished g c = λ pages begun.
    let core = c.self.inside.core in
    let index = c.into_parts-index.ensures.index in
    let store = c.rest.ensures.store ∙ ap (λ (x : IndexView). x.cache.store) index in
    let marked = (subst HasPages (sym c.self.view_is) pages).begun (ap (λ (d : DbView). d.begun) c.self.view_is ∙ begun) in
    subst IsUnfinishedStore (sym store) (marked_store core.index.cache marked)
