use Rattle.std.proofs.Common.{rules, ◌∙◌}
use Rattle.register.specs.ChainReader.{IsPageFault}
use Rattle.register.proofs.ReaderLemmas.{on_ok, if_err}
use Rattle.version1.proofs.LentLemmas.{lent_loaded, lent_not_taken, lent_not_read, unread_none}
use Rattle.version1.proofs.lent_store.load_lent.Goals as goal

pub returns-in-Ok-clause-reads : goal.returns-in-Ok-clause-reads
returns-in-Ok-clause-reads g c = record {
  same = on_ok c.take_page.result (λ t at shows. lent_loaded at c.args.reader.now c.next_page.result c.next_page.ensures c.requires c.take_page.new.self c.in-Ok.payload
      (shows.same c.next_page.result ∙ c.in-Ok.ensures.payload shows.faithful) t) c.take_page.ensures.taken;
  broken = if_err (λ e. IsPageFault c.in-Ok.payload c.args.reader.now e) _ c.take_page.result
      (λ e h at shows b. lent_not_taken at c.args.reader.now c.next_page.result c.next_page.ensures c.requires c.in-Ok.payload
      (shows.same c.next_page.result ∙ c.in-Ok.ensures.payload shows.faithful) e h b) c.take_page.ensures.broken;
  stays = search rules;
  caused = search rules;
}

pub returns-in-Err-clause-reads : goal.returns-in-Err-clause-reads
returns-in-Err-clause-reads g c = record {
  same = tt;
  broken = λ at shows b. lent_not_read at c.args.reader.now c.next_page.result c.next_page.ensures c.requires
      (unread_none at c.next_page.result (g.S.PageStore.seen c.args.store.now) (g.S.PageStore.seen c.read_sealed.new.store) c.in-Err.fault (g.met.S.PageStore.lawful c.args.store.now) c.in-Err.ensures.fault shows b);
  stays = search rules;
  caused = search rules;
}
