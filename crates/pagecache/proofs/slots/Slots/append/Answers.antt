use Rattle.std.proofs.Common.{arith, refl}
use Rattle.std.proofs.lemmas.Int.{clamps}
use Rattle.pagecache.proofs.CacheLemmas.{appended, not_appended}
use Rattle.pagecache.proofs.slots.Slots.append.Goals as goal

pub returns-in-Ok-clause-appends : goal.returns-in-Ok-clause-appends
returns-in-Ok-clause-appends g c = record {
  sound =
      (appended _ _ c.args.self.now.count _ c.args.payload.now c.requires.sound (g.met.S.PageStore.lawful c.args.self.now.store) refl
      c.seal-page.ensures.reads_back c.in-Ok.ensures.written (λ _. refl) refl refl).0;
  adds =
      (appended _ _ c.args.self.now.count _ c.args.payload.now c.requires.sound (g.met.S.PageStore.lawful c.args.self.now.store) refl
      c.seal-page.ensures.reads_back c.in-Ok.ensures.written (λ _. refl) refl refl).1;
  number = refl;
  length = λ e. let k = c.in-Ok.ensures.written.count in omega (arith, clamps, k, e);
  stays = tt;
  asked = refl;
}

pub returns-in-Err-clause-appends : goal.returns-in-Err-clause-appends
returns-in-Err-clause-appends g c = record {
  sound = (not_appended _ _ c.args.self.now.count c.requires.sound (g.met.S.PageStore.lawful c.args.self.now.store) refl c.in-Err.ensures.torn (λ _. refl) refl refl).0;
  adds = tt;
  number = tt;
  length = tt;
  stays = (not_appended _ _ c.args.self.now.count c.requires.sound (g.met.S.PageStore.lawful c.args.self.now.store) refl c.in-Err.ensures.torn (λ _. refl) refl refl).1;
  asked = refl;
}
