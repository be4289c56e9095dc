-- What proofs of callers may cite: how the relations of `specs/Cache.antt` join.
use Rattle.std.proofs.Common.{◌≡◌, ℕ, false, cond, nat_eq, Some, sym, ap, ◌∙◌, arith, ⊎_elim, inl, inr}
use Rattle.pages.specs.Store.{Store, Faulted}
use Rattle.pages.specs.Store as store
use Rattle.pages.specs.declared.payload.Payload.{Payload}
use Rattle.pagecache.specs.Cache.{Cache, is_changed, payload_of, IsRefused, Keeps, KeepsPayloads, UnsyncsNone, WritesNone, Writes, Adds}
use Rattle.pagecache.specs.declared.fault.CacheFault.{CacheFault}
use Rattle.pagecache.specs.declared.fault.CacheFault.TheVariants as fault

-- one step after another
store_keeps-trans : (a b c : Store) → store.Keeps a b → store.Keeps b c → store.Keeps a c
store_keeps-trans a b c k l = record { most = l.most ∙ k.most; faithful = l.faithful ∙ k.faithful; faults = omega (arith, k.faults, l.faults); lost = λ h. l.lost (k.lost h) }

keeps_after : (a b c : Cache) → KeepsPayloads a b → Keeps b c → Keeps a c
keeps_after a b c t k = record {
  store = store_keeps-trans a.store b.store c.store t.keeps.store k.store;
  capacity = k.capacity ∙ t.keeps.capacity;
  written = λ f n h u. k.written (t.keeps.store.faithful ∙ f) n (omega (arith, h, t.count)) (t.changed n u) ∙ t.keeps.written f n h u;
  settled = k.settled;
}

none_written_after : (a b c : Cache) → KeepsPayloads a b → WritesNone b c → WritesNone a c
none_written_after a b c t u = record {
  clean = λ f h. u.clean (t.keeps.store.faithful ∙ f) (λ n. t.changed n (h n)) ∙ t.unwritten.clean f h;
  from = λ f k h. u.from (t.keeps.store.faithful ∙ f) k (λ n g. t.changed n (h n g)) ∙ t.unwritten.from f k h;
}

pub store_unsyncs-trans : (a b c : Store) → store.UnsyncsNone a b → store.UnsyncsNone b c → store.UnsyncsNone a c
store_unsyncs-trans a b c p q = ⊎_elim (λ e. ⊎_elim (λ k. inl (e ∙ k)) (λ k. inr (e ∙ k)) p) (λ e. inr e) q

-- and none more is changed by the first
pub unsyncs-trans : (a b c : Cache) → ((n : ℕ) → is_changed a n ≡ false → is_changed b n ≡ false)
    → UnsyncsNone a b → UnsyncsNone b c → UnsyncsNone a c
unsyncs-trans a b c still p q = record {
  clean = λ h. store_unsyncs-trans a.store b.store c.store (p.clean h) (q.clean (λ n. still n (h n)));
  but_first = λ h s. q.but_first (λ n l. still n (h n l)) (p.but_first h s);
}

pub stays-trans : (a b c : Cache) → KeepsPayloads a b → KeepsPayloads b c → KeepsPayloads a c
stays-trans a b c t u = record {
  keeps = keeps_after a b c t u.keeps;
  count = u.count ∙ t.count;
  payloads = λ f n. u.payloads (t.keeps.store.faithful ∙ f) n ∙ t.payloads f n;
  changed = λ n h. u.changed n (t.changed n h);
  unwritten = none_written_after a b c t u.unwritten;
}

pub stays-writes : (a b c : Cache) (n : ℕ) (w : Payload) → KeepsPayloads a b → Writes n w b c → Writes n w a c
stays-writes a b c n w t u = record {
  keeps = keeps_after a b c t u.keeps;
  count = u.count ∙ t.count;
  payloads = λ f m. u.payloads (t.keeps.store.faithful ∙ f) m ∙ ap (cond (nat_eq n m) (Some w)) (t.payloads f m);
  changed = λ m ne h. u.changed m ne (t.changed m h);
  unwritten = none_written_after a b c t u.unwritten;
}

pub adds-stays : (a b c : Cache) (w : Payload) → Adds w a b → KeepsPayloads b c → Adds w a c
adds-stays a b c w t u = record {
  keeps = record {
    store = store_keeps-trans a.store b.store c.store t.keeps.store u.keeps.store;
    capacity = u.keeps.capacity ∙ t.keeps.capacity;
    written = λ f n h k. u.keeps.written (t.keeps.store.faithful ∙ f) n (omega (arith, h, t.count)) (t.changed n (λ e. let x : a.count ≡ n = e in absurd (omega (arith, x, h))) k) ∙ t.keeps.written f n h k;
    settled = u.keeps.settled;
  };
  count = u.count ∙ t.count;
  payloads = λ f m. u.payloads (t.keeps.store.faithful ∙ f) m ∙ t.payloads f m;
  changed = λ m ne h. u.changed m (t.changed m ne h);
}

-- a call that is refused after a step is refused from before it
faulted_after : (a b c : Store) → store.Keeps a b → Faulted b c → Faulted a c
faulted_after a b c k f = omega (arith, f, k.faults)

pub refused_after : (a b c : Cache) (n : ℕ) (e : CacheFault) → KeepsPayloads a b → IsRefused n e b c → IsRefused n e a c
refused_after a b c n fault.NoPage t r = (omega (arith, r.0, t.count), λ f. sym (t.payloads f n) ∙ r.1 (t.keeps.store.faithful ∙ f))
refused_after a b c n fault.Store t r = faulted_after a.store b.store c.store t.keeps.store r
refused_after a b c n (fault.Damaged m) t r = (r.0, λ f. sym (t.payloads f n) ∙ r.1 (t.keeps.store.faithful ∙ f))
refused_after a b c n fault.StoreFull t r = r
refused_after a b c n fault.Memory t r = tt

pub adds-after : (a b c : Cache) (w : Payload) → KeepsPayloads a b → Adds w b c → Adds w a c
adds-after a b c w t u = record {
  keeps = keeps_after a b c t u.keeps;
  count = omega (arith, u.count, t.count);
  payloads = λ f m. u.payloads (t.keeps.store.faithful ∙ f) m ∙ ap (λ k. cond (nat_eq k m) (Some w) (payload_of b m)) t.count ∙ ap (cond (nat_eq a.count m) (Some w)) (t.payloads f m);
  changed = λ m ne h. u.changed m (λ e. ne (sym t.count ∙ e)) (t.changed m h);
}
