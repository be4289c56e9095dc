-- One call after another.
use Rattle.std.proofs.Common.{ℕ, ◌∙◌, refl, sym, arith, inl, Result, Ok, Err}
use Rattle.std.proofs.lemmas.Int.{clamps}
use Rattle.pagecache.proofs.CallerLemmas.{unsyncs-trans}
use Rattle.pagecache.specs.Cache.{Cache}
use Rattle.pagecache.specs.declared.fault.CacheFault.{CacheFault}
use Rattle.pagecache.specs.declared.fault.CacheFault.TheVariants as cache
use Rattle.tbtree.specs.Faults.{IfNamed, MayRefuseRead, RefusesRead, RefusesReadInCache}
use Rattle.tbtree.specs.declared.fault.TreeFault.{TreeFault}
use Rattle.tbtree.specs.declared.fault.TreeFault.TheVariants.{Cache as OfCache, Malformed, Spent}
use Rattle.chains.specs.Reads.{OnlyReads, Reads}

pub reads_refl : (a : Cache) → OnlyReads a a
reads_refl a = record {
  store = record { most = refl; faithful = refl; faults = omega arith; lost = λ l. l };
  capacity = refl;
  count = refl;
  length = refl;
  asked = omega (arith, clamps);
  payloads = λ f n. refl;
  changed = λ n u. u;
  written = λ f n h u. refl;
  unwritten = record { clean = λ f h. refl; from = λ f k h. refl };
  unsynced = record { clean = λ h. inl refl; but_first = λ h s. s };
}

pub reads_trans : (a b c : Cache) → OnlyReads a b → OnlyReads b c → OnlyReads a c
reads_trans a b c p q = record {
  store = record {
    most = q.store.most ∙ p.store.most;
    faithful = q.store.faithful ∙ p.store.faithful;
    faults = omega (arith, p.store.faults, q.store.faults);
    lost = λ l. q.store.lost (p.store.lost l);
  };
  capacity = q.capacity ∙ p.capacity;
  count = q.count ∙ p.count;
  length = q.length ∙ p.length;
  asked = omega (arith, clamps, p.asked, q.asked);
  payloads = λ f n. q.payloads (p.store.faithful ∙ f) n ∙ p.payloads f n;
  changed = λ n u. q.changed n (p.changed n u);
  written = λ f n h u. q.written (p.store.faithful ∙ f) n (omega (arith, h, p.count)) (p.changed n u) ∙ p.written f n h u;
  unwritten = record {
    clean = λ f h. q.unwritten.clean (p.store.faithful ∙ f) (λ n. p.changed n (h n)) ∙ p.unwritten.clean f h;
    from = λ f k h. q.unwritten.from (p.store.faithful ∙ f) k (λ n l. p.changed n (h n l)) ∙ p.unwritten.from f k h;
  };
  unsynced = unsyncs-trans a b c p.changed p.unsynced q.unsynced;
}

caused_in_cache : (a b c : Cache) (e : CacheFault) → OnlyReads a b → RefusesReadInCache b c e → RefusesReadInCache a c e
caused_in_cache a b c cache.NoPage p h = h
caused_in_cache a b c cache.Store p h = omega (arith, h, p.store.faults)
caused_in_cache a b c (cache.Damaged n) p h = (omega (arith, h.0, p.count), λ f. sym (p.payloads f n) ∙ h.1 (p.store.faithful ∙ f))
caused_in_cache a b c cache.StoreFull p h = h
caused_in_cache a b c cache.Memory p h = tt

pub caused_after : (a b c : Cache) (e : TreeFault) → OnlyReads a b → RefusesRead b c e → RefusesRead a c e
caused_after a b c (OfCache e) p h = caused_in_cache a b c e p h
caused_after a b c (Malformed n) p h = tt
caused_after a b c Spent p h = h

pub reads_then : {T : Type 0} (a b c : Cache) (r : Result T TreeFault) → OnlyReads a b → Reads b c r → Reads a c r
reads_then a b c (Ok y) p q = record { only = reads_trans a b c p q.only; caused = tt }
reads_then a b c (Err e) p q = record { only = reads_trans a b c p q.only; caused = caused_after a b c e p q.caused }

-- and a refusal after calls that were not refused, whatever it is that each call gives
pub reads_refused : {T U : Type 0} (a b c : Cache) (e : TreeFault) → OnlyReads a b → Reads {T = T} b c (Err e) → Reads {T = U} a c (Err e)
reads_refused a b c e p q = record { only = reads_trans a b c p q.only; caused = caused_after a b c e p q.caused }

-- where there is no page to be named, a refusal is one that good pages allow
pub allowed_by : (old new : Cache) (P : ℕ → Type 0) (fault : TreeFault) → ((n : ℕ) → P n → ⊥) → RefusesRead old new fault → IfNamed P fault → MayRefuseRead fault
allowed_by old new P (OfCache cache.NoPage) none caused named = caused
allowed_by old new P (OfCache cache.Store) none caused named = tt
allowed_by old new P (OfCache (cache.Damaged n)) none caused named = none n named
allowed_by old new P (OfCache cache.StoreFull) none caused named = caused
allowed_by old new P (OfCache cache.Memory) none caused named = tt
allowed_by old new P (Malformed n) none caused named = none n named
allowed_by old new P Spent none caused named = caused

-- what a call after another may cite
pub ruleset reading = (reads_trans, reads_refl, caused_after)
