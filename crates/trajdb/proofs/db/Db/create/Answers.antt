use Rattle.std.proofs.Common.{ap, subst, sym, true, ◌∙◌}
use Rattle.std.proofs.lemmas.Bool.{true≢false}
use Rattle.boxsearch.specs.Index.{IndexView}
use Rattle.pagecache.specs.Cache.{Cache}
use Rattle.catalogue.specs.Beginning.{IsLeft}
use Rattle.catalogue.proofs.BeginLemmas.{left_written}
use Rattle.trajdb.specs.Database.{fresh}
use Rattle.trajdb.specs.Db.{DbView, HasPages}
use Rattle.trajdb.proofs.db.Db.create.Goals as goal

pub returns-in-Err-new-clause-left : goal.returns-in-Err-new-clause-left
returns-in-Err-new-clause-left g c =
    let old = g.S.PageStore.seen c.args.store in
    let same = c.into_store.ensures ∙ ap (λ (v : Cache). v.store) (c.into_cache.ensures ∙ ap (λ (i : IndexView). i.cache) c.in-Err-new.ensures.refused) in
    subst (λ s. IsLeft c.args.shape c.args.limits old s) (sym same) (left_written c.args.shape c.args.limits old c.in-Ok.index.cache.store (g.met.S.PageStore.lawful c.args.store) c.requires.empty c.in-Ok.ensures.begun.stored)

pub returns-in-Ok-new-clause-made : goal.returns-in-Ok-new-clause-made
returns-in-Ok-new-clause-made g c =
    let is = c.in-Ok-new.ensures.made c.in-Ok.ensures.begun.empty in
    is ∙ ap (λ (i : IndexView). fresh c.args.limits i true) (sym (ap (λ (d : DbView). d.index) is))

pub returns-in-Ok-new-clause-pages : goal.returns-in-Ok-new-clause-pages
returns-in-Ok-new-clause-pages g c = λ fa.
    subst HasPages (sym (c.in-Ok-new.ensures.made c.in-Ok.ensures.begun.empty)) (record { begun = λ b. c.in-Ok.ensures.begun.marked fa; idle = λ rests. absurd (true≢false rests) })
