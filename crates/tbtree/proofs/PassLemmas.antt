-- One call after another.
use Rattle.std.proofs.Common.{◌∙◌, refl, arith, Result, Ok, Err}
use Rattle.std.specs.Prelude.{IfOk}
use Rattle.pages.specs.Store.{Store}
use Rattle.pages.specs.Store as store
use Rattle.pagecache.specs.Cache.{Cache}
use Rattle.pagecache.specs.declared.fault.CacheFault.{CacheFault}
use Rattle.pagecache.specs.declared.fault.CacheFault.TheVariants as cache
use Rattle.tbtree.specs.Faults.{RefusesWrite, RefusesWriteInCache}
use Rattle.tbtree.specs.Passes.{Passes, Touches}
use Rattle.tbtree.specs.declared.fault.TreeFault.{TreeFault}
use Rattle.tbtree.specs.declared.fault.TreeFault.TheVariants.{Cache as OfCache, Malformed, Spent}

store_keeps-refl : (a : Store) → store.Keeps a a
store_keeps-refl a = record { most = refl; faithful = refl; faults = omega arith; lost = λ l. l }

store_keeps-trans : (a b c : Store) → store.Keeps a b → store.Keeps b c → store.Keeps a c
store_keeps-trans a b c k l = record { most = l.most ∙ k.most; faithful = l.faithful ∙ k.faithful; faults = omega (arith, k.faults, l.faults); lost = λ h. l.lost (k.lost h) }

pub passes_refl : (a : Cache) → Passes a a
passes_refl a = record {
  store = store_keeps-refl a.store;
  capacity = refl;
  count = omega arith;
  asked = omega arith;
  first = λ f h. refl;
  unmarked = λ h u. u;
  written = λ f h u. refl;
}

pub passes_trans : (a b c : Cache) → Passes a b → Passes b c → Passes a c
passes_trans a b c p q = record {
  store = store_keeps-trans a.store b.store c.store p.store q.store;
  capacity = q.capacity ∙ p.capacity;
  count = omega (arith, p.count, q.count);
  asked = omega (arith, p.asked, q.asked);
  first = λ f h. q.first (p.store.faithful ∙ f) (omega (arith, h, p.count)) ∙ p.first f h;
  unmarked = λ h u. q.unmarked (omega (arith, h, p.count)) (p.unmarked h u);
  written = λ f h u. q.written (p.store.faithful ∙ f) (omega (arith, h, p.count)) (p.unmarked h u) ∙ p.written f h u;
}

caused_in_cache : (a b c : Cache) (e : CacheFault) → Passes a b → RefusesWriteInCache b c e → RefusesWriteInCache a c e
caused_in_cache a b c cache.Store p h = omega (arith, h, p.store.faults)
caused_in_cache a b c cache.NoPage p h = h
caused_in_cache a b c (cache.Damaged n) p h = h
caused_in_cache a b c cache.StoreFull p h = h
caused_in_cache a b c cache.Memory p h = h

pub caused_after : (a b c : Cache) (e : TreeFault) → Passes a b → RefusesWrite b c e → RefusesWrite a c e
caused_after a b c (OfCache e) p h = caused_in_cache a b c e p h
caused_after a b c (Malformed n) p h = h
caused_after a b c Spent p h = h

-- no call, and one after another
pub touches_none : {T : Type 0} (a : Cache) (x : T) → Touches a a (Ok x)
touches_none a x = record { passes = passes_refl a; length = λ e. e; caused = tt }

pub touches_then : {T U : Type 0} (a b c : Cache) (x : T) (r : Result U TreeFault) → Touches a b (Ok x) → Touches b c r → Touches a c r
touches_then a b c x (Ok y) t u = record { passes = passes_trans a b c t.passes u.passes; length = λ e. u.length (t.length e); caused = tt }
touches_then a b c x (Err e) t u = record { passes = passes_trans a b c t.passes u.passes; length = tt; caused = caused_after a b c e t.passes u.caused }

-- an answer of another type, and a refusal of one
pub touches_any : {T U : Type 0} {a b : Cache} {x : T} {y : U} → Touches a b (Ok x) → Touches a b (Ok y)
touches_any t = record { passes = t.passes; length = t.length; caused = tt }

pub refused_any : {T U : Type 0} {a b : Cache} {e : TreeFault} → Touches {T = T} a b (Err e) → Touches {T = U} a b (Err e)
refused_any t = record { passes = t.passes; length = tt; caused = t.caused }

pub if_ok : {T : Type 0} (r : Result T TreeFault) (P : T → Type 0) → ((x : T) → P x) → IfOk r P
if_ok (Ok x) P h = h x
if_ok (Err e) P h = tt

pub on_ok : {T : Type 0} (r : Result T TreeFault) (P Q : T → Type 0) → ((x : T) → P x → Q x) → IfOk r P → IfOk r Q
on_ok (Ok x) P Q f h = f x h
on_ok (Err e) P Q f h = tt

-- what a call after another may cite
pub ruleset passing = (passes_trans, passes_refl, caused_after)
