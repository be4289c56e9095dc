use Rattle.std.proofs.Common.{◌≡◌, None, refl, sym, ◌∙◌, subst, ℕ, ◌<◌, arith, true, nat_eq, IsSome, Some, ap}
use Rattle.std.specs.Map.{lookup, set_value}
use Rattle.lru.specs.LruCache.{lru_cache, promoted}
use Rattle.std.specs.Box.{with_value}
use Rattle.pagecache.specs.declared.slots.Held.{Held}
use Rattle.pages.specs.Store.{Store}
use Rattle.pages.specs.declared.payload.Payload.{Payload}
use Rattle.pagecache.specs.Cache.{Writes, payload_of}
use Rattle.pagecache.specs.Slots.{IsSound, seen_of}
use Rattle.pagecache.specs.declared.slots.Slots.{Slots}
use Rattle.pagecache.proofs.HeldLemmas.{lookup-written, first_entry}
use Rattle.pagecache.proofs.CacheLemmas.{lent, store_rests, payload_of-some, is_some_of}
use Rattle.pagecache.proofs.CallerLemmas.{stays-writes}
use Rattle.pagecache.proofs.slots.Slots.page_mut.Goals as goal

-- c with the page n first and changed, with the payload w
abbrev with_page : {S : Type 0} → Slots S → ℕ → Held → Payload → Slots S
with_page c n h w = record c { held = lru_cache (set_value (nat_eq n) (promoted (nat_eq n) c.held.entries) (record { payload = with_value h.payload w; changed = true })) c.held.cap }

lent_slot : {S : Type 0} (seen : S → Store) (c : Slots S) (n : ℕ) (h : Held) (w : Payload) → IsSound (seen_of seen c) → n < c.count → IsSome (lookup (nat_eq n) c.held.entries)
    → IsSound (seen_of seen (with_page c n h w)) × Writes n w (seen_of seen c) (seen_of seen (with_page c n h w))
lent_slot seen c n h w s below here =
    lent (seen_of seen c) (seen_of seen (with_page c n h w)) n (record { payload = with_value h.payload w; changed = true }) s below refl (store_rests (seen c.store)) (λ m. lookup-written n m c.held.entries (record { payload = with_value h.payload w; changed = true }) here) refl refl

pub returns : goal.returns
returns g c =
    let n = c.args.number in
    let ready = c.ready.new.self in
    let e = c.ready.ensures in
    let below : n < ready.count = subst (λ k. n < k) (sym e.rests.stays.count) c.in_ok-ready.ensures.below in
    let here : lookup (nat_eq n) ready.held.entries ≡ Some c.in-Some.held.now = sym {b = lookup (nat_eq n) ready.held.entries} c.in-Some.ensures.value in
    let seen = seen_of g.S.PageStore.seen in (
      (
        refl,
        λ w.
            let l = lent_slot g.S.PageStore.seen ready n c.in-Some.held.now w e.sound below (is_some_of (lookup (nat_eq n) ready.held.entries) c.in-Some.held.now here) in
            (l.0, λ _. record { writes = stays-writes (seen c.args.self.now) (seen ready) (seen (with_page ready n c.in-Some.held.now w)) n w e.rests.stays l.1; unsynced = record { clean = e.rests.unsynced.clean; but_first = e.rests.unsynced.but_first }; length = e.rests.length; asks = e.rests.asks }),
        (e.sound, tt),
      ),
      record {
        lends = tt;
        value = λ f. sym {b = payload_of (seen c.args.self.now) n} (e.rests.stays.payloads f n) ∙ payload_of-some (seen ready) n c.in-Some.held.now here ∙ ap Some (sym c.deref_mut.ensures.value);
        below = c.in_ok-ready.ensures.below;
        no_page = λ h. absurd (omega (arith, h, c.in_ok-ready.ensures.below));
      },
    )

-- a page that is the first is there
pub unreachable-requires : goal.unreachable-requires
unreachable-requires g c =
    let first = c.in_ok-ready.ensures.first in
    let here : lookup (nat_eq c.args.number) c.ready.new.self.held.entries ≡ Some first.0 = first_entry c.args.number c.ready.new.self.held.entries first.0 first.1 in
    let none : None ≡ lookup (nat_eq c.args.number) c.ready.new.self.held.entries = c.in-None.ensures.value in
    cc
