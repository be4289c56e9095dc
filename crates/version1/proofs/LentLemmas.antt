-- The pages of a lent store, which stay as they are.
use Rattle.std.proofs.Common.{ℕ, zero, suc, ◌≡◌, ◌<◌, ◌≤◌, ◌∙◌, List, [], ◌∷◌, length, refl, sym, ap, arith, IsTrue, Option, Some, None, option_and_then, slice_get}
use Rattle.pages.specs.Store.{Store as StoreView, IsLawful, Stays}
use Rattle.pages.specs.Unsealed.{unsealed}
use Rattle.pages.specs.declared.payload.Payload.{Payload}
use Rattle.pagecache.specs.Cache.{stored_payload}
use Rattle.register.specs.ChainReader.{ReaderView, rest_of, IsBroken, IsPageFault, TakesPart}
use Rattle.version1.specs.OldStore.{IsUnread, ShowsStored}
use Rattle.register.specs.declared.fault.CatalogueFault.{CatalogueFault}
use Rattle.register.specs.declared.fault.CatalogueFault.TheVariants.{Memory, Store, StoreFull, Damaged, Unfinished, Version, Malformed}
use Rattle.register.proofs.ReaderLemmas.{page_broken, rest_broken, rest_none, rest_step}

pub stored_read : (s : StoreView) (n : ℕ) (page : List ℕ) → slice_get s.pages n ≡ Some page → stored_payload s n ≡ unsealed n page
unfolding stored_payload
stored_read s n page e = ap (option_and_then (unsealed n)) e

-- behind the last page there is none
none_behind : {X : Type 0} (xs : List X) (n : ℕ) → length xs ≤ n → slice_get xs n ≡ None
none_behind [] n l = refl
none_behind (x ∷ xs) zero l = absurd (omega (arith, l))
none_behind (x ∷ xs) (suc n) l = none_behind xs n (omega (arith, l))

pub stored_none : (s : StoreView) (n : ℕ) → IsLawful s → s.count ≤ n → IsTrue s.is_faithful → stored_payload s n ≡ None
unfolding stored_payload
stored_none s n lawful l fa = ap (option_and_then (unsealed n)) (none_behind s.pages n (let c = lawful.counted fa in omega (arith, c, l)))

-- a page that is not read for a fault of its own has no payload
pub unread_none : (at : ℕ → Option Payload) (n : ℕ) (a b : StoreView) (e : CatalogueFault) → IsLawful a → IsUnread n a b e → ShowsStored a at → IsBroken e → at n ≡ None
unread_none at n a b Memory lawful h shows k = absurd k
unread_none at n a b Store lawful h shows k = absurd k
unread_none at n a b StoreFull lawful h shows k = absurd k
unread_none at n a b (Damaged m) lawful h shows k = shows.same n ∙ h.2 shows.faithful
unread_none at n a b Unfinished lawful h shows k = absurd k
unread_none at n a b Version lawful h shows k = absurd k
unread_none at n a b Malformed lawful h shows k = shows.same n ∙ stored_none a n lawful h shows.faithful

-- the next page is read
module _ (at : ℕ → Option Payload) (old : ReaderView) (n : ℕ) (named : n ≡ old.next) (some : 0 < old.left) where
  pub lent_loaded : (new : ReaderView) (payload : Payload) → at n ≡ Some payload → TakesPart payload old new → rest_of at new ≡ rest_of at old
  lent_loaded new payload here t = rest_step at old new payload some (ap at (sym named) ∙ here) t

  pub lent_not_taken : (payload : Payload) → at n ≡ Some payload → (e : CatalogueFault) → IsPageFault payload old e → IsBroken e → rest_of at old ≡ None
  lent_not_taken payload here e h b = rest_broken at old payload some (ap at (sym named) ∙ here) (page_broken payload old e h b)

  pub lent_not_read : at n ≡ None → rest_of at old ≡ None
  lent_not_read none = rest_none at old some (ap at (sym named) ∙ none)

-- a store that stays has the payloads that it had
pub stays_payload : (a b : StoreView) → Stays a b → IsTrue a.is_faithful → stored_payload b ≡ stored_payload a
unfolding stored_payload
stays_payload a b s fa = λ i n. option_and_then (unsealed n) (slice_get (s.pages fa i) n)

-- pages that a store has it has once it stayed
pub still_stored : (a b : StoreView) (s : Stays a b) (at : ℕ → Option Payload) → ShowsStored a at → ShowsStored b at
still_stored a b s at shows = record {
  faithful = s.keeps.faithful ∙ shows.faithful;
  same = λ p. shows.same p ∙ ap (λ (f : ℕ → Option Payload). f p) (sym (stays_payload a b s shows.faithful));
}

-- it has its own
pub stores_own : (s : StoreView) → IsTrue s.is_faithful → ShowsStored s (stored_payload s)
stores_own s fa = record { faithful = fa; same = λ p. refl }
