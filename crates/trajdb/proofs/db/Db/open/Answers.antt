use Rattle.std.proofs.Common.{rules, sym, subst, false, ◌∙◌}
use Rattle.pages.specs.Store.{Stays}
use Rattle.catalogue.proofs.ResultLemmas.{none_some}
use Rattle.catalogue.proofs.StateLemmas.{unfinished_said}
use Rattle.register.specs.Lasting.{ComesFirst}
use Rattle.trajdb.specs.Db.{DbView}
use Rattle.trajdb.proofs.LastingLemmas.{opened_book}
use Rattle.trajdb.proofs.SafeLemmas.{opened_safe}
use Rattle.trajdb.proofs.db.Db.open.Goals as goal

pub returns-in-Ok : goal.returns-in-Ok
returns-in-Ok g c = record {
  book = λ fa shape limits book h.
      opened_book shape limits book c.in-Ok.catalogue c.in-Ok.index false c.restored.result c.restored.ensures.core c.restored.ensures.limits (c.in-Ok.ensures.opened.book fa shape limits book h);
  holds = search rules;
  idle = search rules;
  begun = search rules;
  lives = search rules;
  capacity = search rules;
  first = search rules;
  finished = search rules;
  unfinished = λ fa some u. none_some (sym (c.in-Ok.ensures.opened.finished fa) ∙ unfinished_said (g.S.PageStore.seen c.args.store) u some);
  stored = search rules;
  back = search rules;
  safe = λ fa sound.
      let s = g.S.PageStore.seen c.args.store in
      let stays = subst (λ (d : DbView). Stays s d.index.cache.store) (sym c.restored.ensures.core) c.in-Ok.ensures.opened.stored in
      opened_safe s c.restored.result (g.met.S.PageStore.lawful c.args.store) fa stays sound;
  caused = search rules;
}

pub returns-in-Err : goal.returns-in-Err
returns-in-Err g c =
    let s = g.S.PageStore.seen c.args.store in
    record {
      book = search rules;
      holds = search rules;
      idle = search rules;
      begun = search rules;
      lives = search rules;
      capacity = search rules;
      first = search rules;
      finished = search rules;
      unfinished = λ fa some u. subst (λ f. ComesFirst f c.in-Err.back.1) (unfinished_said s u some) (c.in-Err.ensures.refused.first fa);
      stored = search rules;
      back = search rules;
      safe = search rules;
      caused = search rules;
    }
