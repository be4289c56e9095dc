use Rattle.std.proofs.Common.{◌∙◌, sym, subst}
use Rattle.std.specs.Prelude.{Option}
use Rattle.pagecache.specs.Cache.{stored_payload}
use Rattle.register.specs.Lasting.{ComesFirst}
use Rattle.register.specs.declared.fault.CatalogueFault.{CatalogueFault}
use Rattle.register.proofs.ReaderLemmas.{if_err_and}
use Rattle.version1.specs.Migrating.{NotMigrated}
use Rattle.version1.proofs.LentLemmas.{stores_own}
use Rattle.version1.proofs.MigrateLemmas.{allowed_stop}
use Rattle.version1.proofs.OldBookLemmas.{old_stop}
use Rattle.version1.proofs.OldStoreLemmas.{bringing_behind, bringing_breaks, bringing_later, first_none, no_old_kept, old_answers, old_kept, old_kept_fields, reading_brings, rest_after, rest_before}
use Rattle.version1.proofs.old_store.read_old.Goals as goal

pub returns-in_err-old-clause-refused : goal.returns-in_err-old-clause-refused
returns-in_err-old-clause-refused g c =
    let s = g.S.PageStore.seen c.args.lent.now in
    let at = stored_payload s in
    let below = c.args.cache.now.store in
    let e = c.in_err-old.field-0.0 in
    let r = c.in_err-old.ensures.refused in
    if_err_and (NotMigrated s (g.S.PageStore.seen c.read_old_header.new.lent) below below) c.from_residual.result e c.from_residual.ensures.1 (record {
      holds = λ fa fb shape limits book h. allowed_stop e (old_stop s e
          (λ not k tree places kept. r.broken fa not (old_kept at s.count k tree places kept) (old_kept_fields at s.count k tree places kept)) shape limits book h);
      first = r.first;
      caused = reading_brings s (g.S.PageStore.seen c.read_old_header.new.lent) below e r.caused;
    })

pub returns-in_err-catalogue-clause-refused : goal.returns-in_err-catalogue-clause-refused
returns-in_err-catalogue-clause-refused g c =
    let s = g.S.PageStore.seen c.args.lent.now in
    let mid = g.S.PageStore.seen c.read_old_header.new.lent in
    let end = g.S.PageStore.seen c.read_old_rest.new.lent in
    let below = c.args.cache.now.store in
    let after = c.read_old_rest.new.cache.store in
    let e = c.in_err-catalogue.field-0.0 in
    let old = c.in_ok-old.old in
    let stays = c.in_ok-old.ensures.stays in
    let says = c.in_ok-old.ensures.says in
    let r = c.in_err-catalogue.ensures in
    if_err_and (NotMigrated s end below after) c.from_residual-in_err-catalogue.result e c.from_residual-in_err-catalogue.ensures.1 (record {
      holds = λ fa fb shape limits book h. allowed_stop e (old_stop s e
          (λ not. no_old_kept (stored_payload s) s.count old (says fa) (λ k places rest.
          r.broken fb (stored_payload mid) (stores_own mid (stays.keeps.faithful ∙ fa)) (bringing_breaks mid end below after e r.caused not) k places (rest_after s mid stays fa old.fields k places rest)))
          shape limits book h);
      first = λ fa. subst (λ (o : Option CatalogueFault). ComesFirst o e) (sym (first_none s.count (stored_payload s 0) old (says fa))) (bringing_behind mid end below after e r.caused);
      caused = bringing_later s mid end below after e stays r.caused;
    })

pub returns-clause-read : goal.returns-clause-read
returns-clause-read g c =
    let s = g.S.PageStore.seen c.args.lent.now in
    let mid = g.S.PageStore.seen c.read_old_header.new.lent in
    let stays = c.in_ok-old.ensures.stays in
    let old = c.in_ok-old.old in
    let k = c.in_ok-catalogue.catalogue in
    let places = c.in_ok-catalogue.places.items in
    let says = c.in_ok-old.ensures.says in
    record {
      room = c.in_ok-old.ensures.leaf;
      kept = λ fa fb. old_answers (stored_payload s) s.count old k places (says fa)
          (rest_before s mid stays fa old.fields k places (c.in_ok-catalogue.ensures.is fb (stored_payload mid) (stores_own mid (stays.keeps.faithful ∙ fa))));
      finished = λ fa. first_none s.count (stored_payload s 0) old (says fa);
    }
