use Rattle.std.proofs.Common.{◌≡◌, ◌+◌, ◌∙◌, ℕ, None, refl, ap, subst, arith, nat_eq}
use Rattle.std.proofs.lemmas.Int.{clamps}
use Rattle.std.specs.Map.{lookup}
use Rattle.lru.specs.LruCache.{LruCache}
use Rattle.pages.specs.declared.payload.Payload.{Payload}
use Rattle.pagecache.specs.declared.slots.Held.{Held}
use Rattle.pagecache.specs.Cache.{Adds, in_memory}
use Rattle.pagecache.specs.Slots.{seen_of}
use Rattle.pagecache.proofs.HeldLemmas.{put_as}
use Rattle.pagecache.proofs.CacheLemmas.{entered, none_beyond, not_appended, rests, taken, written_torn}
use Rattle.pagecache.proofs.slots.Slots.enter.Goals as goal

pub returns-in-Err-clause-appends : goal.returns-in-Err-clause-appends
returns-in-Err-clause-appends g c =
    record { sound = c.requires.sound; adds = tt; number = tt; length = tt; stays = (rests _ c.requires.sound).stays; asked = refl }

pub returns-in-Err-write-clause-appends : goal.returns-in-Err-write-clause-appends
returns-in-Err-write-clause-appends g c = record {
  sound = (not_appended _ _ c.args.self.now.count c.requires.sound (g.met.S.PageStore.lawful c.args.self.now.store) refl c.in-Err-write.ensures.torn (λ _. refl) refl refl).0;
  adds = tt;
  number = tt;
  length = tt;
  stays = (not_appended _ _ c.args.self.now.count c.requires.sound (g.met.S.PageStore.lawful c.args.self.now.store) refl c.in-Err-write.ensures.torn (λ _. refl) refl refl).1;
  asked = refl;
}

pub returns-in-Ok-put-clause-appends : goal.returns-in-Ok-put-clause-appends
returns-in-Ok-put-clause-appends g c =
    let old = seen_of g.S.PageStore.seen c.args.self.now in
    let n = c.args.self.now.count in
    let absent : in_memory old n ≡ None = none_beyond old n (in_memory old n) c.requires.sound (omega arith) refl in
    let held = ap (λ (h : LruCache ℕ Held). h.entries) c.in-Ok-put.ensures.entries ∙ put_as c.args.self.now.held n _ absent in
    let new = seen_of g.S.PageStore.seen (record { store = c.write.new.self; held = c.put.new.self; count = n + 1; asked = c.args.self.now.asked; followers = c.args.self.now.followers; alloc = c.args.self.now.alloc }) in
    record {
      sound = (entered old _ n _ _ c.requires.sound (g.met.S.PageStore.lawful c.args.self.now.store) refl refl c.in-Ok-write.ensures.written (taken old _ n _ c.requires.room held) refl (ap (λ (h : LruCache ℕ Held). h.cap) c.in-Ok-put.ensures.entries)).0;
      adds = subst (λ (p : Payload). Adds p old new) c.in-Ok.ensures.ok
          (entered old new n _ _ c.requires.sound (g.met.S.PageStore.lawful c.args.self.now.store) refl refl c.in-Ok-write.ensures.written (taken old _ n _ c.requires.room held) refl (ap (λ (h : LruCache ℕ Held). h.cap) c.in-Ok-put.ensures.entries)).1;
      number = refl;
      length = λ e. let k = c.in-Ok-write.ensures.written.count in omega (arith, clamps, k, e);
      stays = tt;
      asked = refl;
    }

pub returns-clause-appends : goal.returns-clause-appends
returns-clause-appends g c =
    let e = c.in-Err-put.ensures.err in
    let n = c.args.self.now.count in
    record {
      sound = (not_appended _ _ n c.requires.sound (g.met.S.PageStore.lawful c.args.self.now.store) refl
          (written_torn _ _ n _ c.requires.sound.within c.in-Ok-write.ensures.written)
          (λ m. ap (λ (h : LruCache ℕ Held). lookup (nat_eq m) h.entries) e) refl (ap (λ (h : LruCache ℕ Held). h.cap) e)).0;
      adds = tt;
      number = tt;
      length = tt;
      stays = (not_appended _ _ n c.requires.sound (g.met.S.PageStore.lawful c.args.self.now.store) refl
          (written_torn _ _ n _ c.requires.sound.within c.in-Ok-write.ensures.written)
          (λ m. ap (λ (h : LruCache ℕ Held). lookup (nat_eq m) h.entries) e) refl (ap (λ (h : LruCache ℕ Held). h.cap) e)).1;
      asked = refl;
    }
