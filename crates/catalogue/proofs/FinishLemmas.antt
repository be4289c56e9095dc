-- A store that is marked as finished.
use Rattle.std.proofs.Common.{ℕ, ◌≡◌, ◌≢◌, ◌<◌, ◌≤◌, ◌==◌, cond, false, true, sym, ap, ◌∙◌, arith, IsTrue, Some, option_and_then}
use Rattle.std.proofs.lemmas.Bool.Decides.{nat_tests}
use Rattle.pages.specs.Unsealed.{unsealed}
use Rattle.pages.specs.Store as store
use Rattle.pages.specs.declared.payload.Payload.{Payload}
use Rattle.pagecache.specs.Cache.{payload_of, sealed_payload, stored_payload, Cache, IsRefused, IsStopped, IsWritten, Keeps, KeepsPayloads, Lends, SameLength, UnsyncsNone}
use Rattle.pagecache.specs.declared.fault.CacheFault.{CacheFault}
use Rattle.pagecache.specs.declared.fault.CacheFault.TheVariants as cache
use Rattle.header.specs.Front.{finished, SaysState}
use Rattle.catalogue.specs.Finishing.{Finishes, KeepsOthers, SetsState}
use Rattle.catalogue.specs.Holding.{IsUnfinishedStore}
use Rattle.catalogue.proofs.StateLemmas.{says_stored}

not_first : (n : ℕ) → 0 < n → (0 == n) ≡ false
not_first n h = grind (arith, nat_tests, h)

not_zero : (n : ℕ) → 1 ≤ n → 0 ≢ n
not_zero n h e = omega (arith, h, e)

pub store_then : (a b c : store.Store) → store.Keeps a b → store.Keeps b c → store.Keeps a c
store_then a b c k l = record { most = l.most ∙ k.most; faithful = l.faithful ∙ k.faithful; faults = (let m = k.faults in let n = l.faults in omega (arith, m, n)); lost = λ h. l.lost (k.lost h) }

-- a call that changes no payload leaves the other pages
pub reads_others : (a b : Cache) → KeepsPayloads a b → UnsyncsNone a b → SameLength a b → KeepsOthers a b
reads_others a b s unsynced length = record {
  store = s.keeps.store;
  count = s.count;
  length = length;
  clean = λ clean n h. s.changed n (clean n h);
  written = λ f clean. s.unwritten.from f 1 clean;
  synced = unsynced.but_first;
}

-- and so does one for page 0
pub sets_others : (a b : Cache) (w : Payload) → Lends 0 w a b → KeepsOthers a b
sets_others a b w l = record {
  store = l.writes.keeps.store;
  count = l.writes.count;
  length = l.length;
  clean = λ clean n h. l.writes.changed n (not_zero n h) (clean n h);
  written = λ f clean. l.writes.unwritten.from f 1 clean;
  synced = l.unsynced.but_first;
}

pub then_others : (a b c : Cache) → KeepsOthers a b → KeepsOthers b c → KeepsOthers a c
then_others a b c p q = record {
  store = store_then a.store b.store c.store p.store q.store;
  count = q.count ∙ p.count;
  length = q.length ∙ p.length;
  clean = λ clean. q.clean (p.clean clean);
  written = λ f clean. q.written (p.store.faithful ∙ f) (p.clean clean) ∙ p.written f clean;
  synced = λ clean synced. q.synced (p.clean clean) (p.synced clean synced);
}

-- why all is not written, as why page 0 is refused
pub stopped_after : (a b c : Cache) (n : ℕ) (e : CacheFault) → a.store.faults ≤ b.store.faults → IsStopped e b c → IsRefused n e a c
stopped_after a b c n cache.NoPage l h = absurd h
stopped_after a b c n cache.Store l h = omega (arith, h, l)
stopped_after a b c n (cache.Damaged m) l h = absurd h
stopped_after a b c n cache.StoreFull l h = h
stopped_after a b c n cache.Memory l h = tt

-- all is written
module _ (a b : Cache) (s : KeepsPayloads a b) (written : IsWritten b) (f : IsTrue a.store.is_faithful) where
  still : IsTrue b.store.is_faithful
  still = s.keeps.store.faithful ∙ f

  first_sealed : (h : SaysState true (payload_of a 0)) → sealed_payload b 0 ≡ Some h.payload
  first_sealed h = sym (written.sealed still 0) ∙ s.payloads f 0 ∙ h.is

  -- then page 0 is not written by the next call
  pub unwritten : (c : Cache) → Keeps b c → 0 < a.count → SaysState true (payload_of a 0) → IsUnfinishedStore c.store
  unfolding sealed_payload
  unwritten c keeps some h =
      says_stored c h.payload (ap (option_and_then (unsealed 0)) (keeps.written still 0 (let n = s.count in omega (arith, some, n)) (written.clean 0)) ∙ first_sealed h) h.state

  -- or page 0 says that the store is finished, and is written too
  module _ (c : Cache) (sets : SetsState b c) (d : Cache) (last : KeepsPayloads c d) (all : IsWritten d) (others : KeepsOthers a d) (counts : a.count ≡ a.store.count) where
    set : IsTrue c.store.is_faithful
    set = sets.lends.writes.keeps.store.faithful ∙ still

    stored_is : (n : ℕ) → stored_payload d.store n ≡ payload_of c n
    stored_is n = sym (all.stored (last.keeps.store.faithful ∙ set) (others.count ∙ counts ∙ sym others.length) n) ∙ last.payloads set n

    pub finishes : Finishes a d.store
    finishes = record {
      length = others.length;
      header = sets.was;
      was = sym (s.payloads f 0) ∙ sets.before still;
      first = stored_is 0 ∙ sets.lends.writes.payloads still 0;
      rest = λ n h. stored_is n ∙ sets.lends.writes.payloads still n ∙ ap (λ v. cond v (Some (finished sets.was)) (payload_of b n)) (not_first n h) ∙ s.payloads f n;
    }
