-- What is not synced after a step of a cache.
use Rattle.std.proofs.Common.{◌≡◌, ◌≢◌, ◌<◌, ◌≤◌, ◌∙◌, ℕ, false, refl, sym, arith, subst, ⊎_elim}
use Rattle.std.proofs.lemmas.Bool.{cases_lt}
use Rattle.pages.specs.Store as store
use Rattle.pages.specs.Store.{Store, IsSyncedButFirst, MayUnsync, Unsyncs}
use Rattle.pages.specs.Unsynced.{with_written}
use Rattle.pages.specs.declared.unsynced.Unsynced.{Unsynced}
use Rattle.pages.specs.declared.unsynced.Unsynced.TheVariants.{Nothing, First, Others}
use Rattle.pagecache.specs.Cache.{Cache, is_changed, UnsyncsNone}

nothing_others : (u : Unsynced) → u ≡ Nothing → u ≢ Others
nothing_others u e k = let x : Nothing ≡ Others = sym e ∙ k in cc

-- page 0 is written
first_written : (u : Unsynced) → u ≢ Others → with_written 0 u ≢ Others
first_written Nothing h e = cc
first_written First h e = cc
first_written Others h e = h refl

-- a store of which none more is unsynced
still_synced : (s t : Store) → store.UnsyncsNone s t → IsSyncedButFirst s → IsSyncedButFirst t
still_synced s t n h e = ⊎_elim (λ k. h (sym k ∙ e)) (λ k. nothing_others t.unsynced k e) n

pub unsyncs_none : (c d : Cache) → store.UnsyncsNone c.store d.store → UnsyncsNone c d
unsyncs_none c d n = record { clean = λ _. n; but_first = λ _. still_synced c.store d.store n }

-- page n is changed, and is written
module _ (c d : Cache) (n : ℕ) (changed : is_changed c n ≢ false) where
  zero_or : (P : ℕ → Type 0) → ((m : ℕ) → 1 ≤ m → is_changed c m ≡ false) → P n → P 0
  zero_or P u p = ⊎_elim (λ (h : 0 < n). absurd (changed (u n (omega (arith, h))))) (λ (h : n ≤ 0). (let z : n ≡ 0 = omega (arith, h) in subst P z p)) (cases_lt 0 n)

  pub unsyncs_written : Unsyncs n c.store d.store → UnsyncsNone c d
  unsyncs_written w = record {
    clean = λ u. absurd (changed (u n));
    but_first = λ u s e. first_written c.store.unsynced s (sym (zero_or (λ m. d.store.unsynced ≡ with_written m c.store.unsynced) u w) ∙ e);
  }

  -- or its write failed
  pub unsyncs_torn : MayUnsync n c.store d.store → UnsyncsNone c d
  unsyncs_torn w = record {
    clean = λ u. absurd (changed (u n));
    but_first = λ u s e. ⊎_elim (λ (h : Unsyncs n c.store d.store). (unsyncs_written h).but_first u s e) (λ h. s (sym h.0 ∙ e)) w;
  }
