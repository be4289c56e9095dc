-- What is read of a store of version 1.
use Rattle.std.proofs.Common.{◌≡◌, ◌<◌, ◌∙◌, ℕ, zero, suc, List, [], ◌∷◌, take, drop, length, slice_get, Option, Some, None, Ok, Err, refl, sym, ap, arith, IsTrue}
use Rattle.std.proofs.lemmas.Int.{clamps}
use Rattle.std.specs.Option.{option_and_then, option_map, ok_or}
use Rattle.pages.specs.Store.{Store, IsLawful, Stays}
use Rattle.pages.specs.declared.payload.PageFault.{PageFault}
use Rattle.pages.specs.Unsealed.{unsealed}
use Rattle.pages.specs.declared.payload.Payload.{Payload}
use Rattle.pagecache.proofs.UnsyncedLemmas.{unsyncs_none}
use Rattle.pagecache.specs.Cache.{fresh, is_changed, page_of, payload_of, pages_as_written, sealed_payload, stored_payload}
use Rattle.version1.specs.OldForm.{old_node_of}
use Rattle.version1.specs.OldLegs.{pages_of_old}
use Rattle.treecheck.specs.Walking.{pages_by}
use Rattle.chains.specs.Reads.{OnlyReads}

get_taken : {X : Type 0} (xs : List X) (n i : ℕ) → i < n → slice_get (take n xs) i ≡ slice_get xs i
get_taken xs zero i l = absurd (omega (arith, l))
get_taken [] (suc n) i l = refl
get_taken (x ∷ xs) (suc n) zero l = refl
get_taken (x ∷ xs) (suc n) (suc i) l = get_taken xs n i (omega (arith, l))

-- a page below the count has the payload that it seals
pub fresh_payload : (s : Store) (n : ℕ) → n < s.count → payload_of (fresh s 1) n ≡ option_and_then (unsealed n) (slice_get s.pages n)
unfolding payload_of sealed_payload page_of pages_as_written is_changed
fresh_payload s n l = ap (option_and_then (unsealed n)) (get_taken s.pages s.count n l)

pub payload_read : (s : Store) (n : ℕ) (page : List ℕ) → n < s.count → slice_get s.pages n ≡ Some page → payload_of (fresh s 1) n ≡ unsealed n page
payload_read s n page l e = fresh_payload s n l ∙ ap (option_and_then (unsealed n)) e

-- a store that stays is only read
pub reads_stays : (a b : Store) → Stays a b → OnlyReads (fresh a 1) (fresh b 1)
unfolding payload_of sealed_payload page_of pages_as_written is_changed
reads_stays a b s = record {
  store = s.keeps;
  capacity = refl;
  count = s.count;
  length = s.count;
  asked = omega (arith, clamps);
  payloads = λ f n i. option_and_then (unsealed n) (slice_get (take (s.count i) (s.pages f i)) n);
  changed = λ n u. u;
  written = λ f n h u i. slice_get (take (s.count i) (s.pages f i)) n;
  unwritten = record {
    clean = λ f h i. take (s.count i) (s.pages f i);
    from = λ f k h i. drop k (take (s.count i) (s.pages f i));
  };
  unsynced = unsyncs_none (fresh a 1) (fresh b 1) s.unsynced;
}

pub ok_some : (o : Option Payload) (f : PageFault) (x : Payload) → ok_or o f ≡ Ok x → o ≡ Some x
ok_some None f x e = let wrong : Err f ≡ Ok x = e in absurd (cc)
ok_some (Some y) f x e = let same : Ok y ≡ Ok x = e in let s : y ≡ x = cc in ap (λ z. Some z) s

pub ok_none : (o : Option Payload) (f g : PageFault) → ok_or o f ≡ Err g → (o ≡ None) × (f ≡ g)
ok_none None f g e = let same : Err f ≡ Err g = e in let s : f ≡ g = cc in (refl, s)
ok_none (Some y) f g e = let wrong : Ok y ≡ Err g = e in absurd (cc)

all_taken : {X : Type 0} (xs : List X) (n : ℕ) → length xs ≡ n → take n xs ≡ xs
all_taken [] zero e = refl
all_taken [] (suc n) e = refl
all_taken (x ∷ xs) zero e = absurd (omega (arith, e))
all_taken (x ∷ xs) (suc n) e = ap (λ l. x ∷ l) (all_taken xs n (omega (arith, e)))

-- the pages of a faithful store are those of a cache that has read none
pub same_old : (s : Store) → IsLawful s → IsTrue s.is_faithful → pages_by old_node_of (fresh s 1) ≡ pages_of_old s
unfolding payload_of sealed_payload page_of pages_as_written stored_payload
same_old s l fa = λ i. record { at = λ p. option_map old_node_of (option_and_then (unsealed p) (slice_get (all_taken s.pages s.count (l.counted fa) i) p)); count = s.count }

-- what is only read of a store stays
pub stays_read : (a b : Store) → IsLawful a → IsLawful b → OnlyReads (fresh a 1) (fresh b 1) → Stays a b
unfolding pages_as_written is_changed
stays_read a b k l r = record {
  keeps = r.store;
  count = r.count;
  pages = λ fa. sym (all_taken b.pages b.count (l.counted (r.store.faithful ∙ fa))) ∙ r.unwritten.clean fa (λ n. refl) ∙ all_taken a.pages a.count (k.counted fa);
  unsynced = r.unsynced.clean (λ n. refl);
}
