-- What page 0 says of the state of a store.
use Rattle.std.proofs.Common.{ℕ, zero, suc, ◌≡◌, ◌<◌, List, [], ◌∷◌, take, nat_lt, if◌then◌else◌, cond, eqb, true, false, refl, sym, ap, ◌∙◌, arith, subst, IsTrue, Option, Some, None, option_and_then, slice_get}
use Rattle.std.proofs.lemmas.Bool.Decides.{nat_tests}
use Rattle.pages.specs.Store.{Store}
use Rattle.pages.specs.Unsealed.{unsealed}
use Rattle.pages.specs.declared.payload.Payload.{Payload}
use Rattle.pagecache.specs.Cache.{Cache, page_of, pages_as_written, payload_of, sealed_payload, stored_payload, IsSettled}
use Rattle.boxsearch.specs.Index.{written, IndexView, IsMarked}
use Rattle.header.specs.Front.{finished, finished_front, front_of, IsFinished, IsUnfinished, SaysState}
use Rattle.header.proofs.FrontLemmas.{finished_says, unfinished_says}
use Rattle.header.specs.declared.fronts.Front.{Front}
use Rattle.catalogue.proofs.ResultLemmas.{none_some}
use Rattle.catalogue.specs.Holding.{payload_in, IsAtRest, IsUnfinishedStore}
use Rattle.register.specs.Lasting.{first_fault, front_fault, header_fault, payload_fault, state_fault}
use Rattle.register.specs.Saved.{CatalogueView}
use Rattle.register.specs.declared.fault.CatalogueFault.TheVariants.{Malformed, Unfinished, Version}

-- the header of a store that is not finished says so
pub unfinished_header : (p : Payload) → IsUnfinished p → header_fault p ≡ Some Unfinished
unfolding header_fault
unfinished_header p u = ap (front_fault finished_front.version) (unfinished_says p u)

-- with the state 1 it is that of a finished store
pub finished_header : (p : Payload) → IsUnfinished p → header_fault (finished p) ≡ None
unfolding header_fault
finished_header p u = ap (front_fault finished_front.version) (finished_says p u)

-- the state of a store without a fault
finished_state : (state : ℕ) → state_fault state ≡ None → state ≡ 1
finished_state state e =
    elim (eqb state 0) as (λ b. eqb state 0 ≡ b → cond b (Some Unfinished) (cond (eqb state 1) None (Some Malformed)) ≡ None → state ≡ 1) [
      | true ↦ λ t e. absurd cc
      | false ↦ λ t. elim (eqb state 1) as (λ b. eqb state 1 ≡ b → cond b None (Some Malformed) ≡ None → state ≡ 1) [
        | true ↦ λ u e. grind (arith, nat_tests)
        | false ↦ λ u e. absurd cc
      ] refl
    ] refl e

-- how a header begins without a fault
finished_front_of : (front : Option Front) → front_fault finished_front.version front ≡ None → front ≡ Some finished_front
finished_front_of None e = absurd cc
finished_front_of (Some f) e =
    elim (eqb f.version 2) as (λ b. eqb f.version 2 ≡ b → cond b (state_fault f.state) (Some Version) ≡ None → Some f ≡ Some finished_front) [
      | true ↦ λ t e. let v : f.version ≡ 2 = grind (arith, nat_tests) in let s = finished_state f.state e in (λ i. Some (record { version = v i; state = s i }))
      | false ↦ λ t e. absurd cc
    ] refl e

-- a header without a fault is that of a finished store
pub finished_of : (p : Payload) → header_fault p ≡ None → IsFinished p
unfolding header_fault
finished_of p e = finished_front_of (front_of p) e

says_finished : (at : Option Payload) → payload_fault at ≡ None → SaysState false at
says_finished None e = absurd cc
says_finished (Some p) e = record { payload = p; is = refl; state = finished_of p e }

first_written : (i : IndexView) → IsTrue i.cache.store.is_faithful → payload_in (written i) 0 ≡ sealed_payload i.cache 0
unfolding payload_in sealed_payload page_of
first_written i f = ap (λ b. option_and_then (unsealed 0) (slice_get (cond b (pages_as_written i.cache) []) 0)) f

-- at rest page 0 says that the store is finished
pub rest_state : (c : CatalogueView) (i : IndexView) → IsTrue i.cache.store.is_faithful → IsSettled i.cache → IsAtRest c i → SaysState false (payload_of i.cache 0)
rest_state c i f settled rest =
    subst (SaysState false) (first_written i f ∙ sym (settled f 0 (rest.clean 0))) (says_finished (payload_in (written i) 0) rest.kept.finished)

-- and where it is marked, that it is not
pub marked_state : (c : Cache) → IsSettled c → IsMarked c → SaysState true (payload_of c 0)
marked_state c settled m = record { payload = m.payload; is = settled m.faithful 0 m.unchanged ∙ m.sealed; state = m.unfinished }

-- page 0 of the pages that are written is page 0 of the store
first_page : {X Y : Type 0} (f : X → Option Y) (n : ℕ) (xs : List X) (y : Y) → option_and_then f (slice_get (take n xs) 0) ≡ Some y → option_and_then f (slice_get xs 0) ≡ Some y
first_page f zero xs y e = absurd (none_some e)
first_page f (suc n) [] y e = e
first_page f (suc n) (x ∷ xs) y e = e

-- so a store is not finished where its cache says so
pub says_stored : (c : Cache) (p : Payload) → sealed_payload c 0 ≡ Some p → IsUnfinished p → IsUnfinishedStore c.store
unfolding sealed_payload page_of pages_as_written stored_payload
says_stored c p sealed unfinished = record { payload = p; is = first_page (unsealed 0) c.count c.store.pages p sealed; unfinished = unfinished }

pub marked_store : (c : Cache) → IsMarked c → IsUnfinishedStore c.store
marked_store c m = says_stored c m.payload m.sealed m.unfinished

-- a marked page 0 that stays as it is written
pub still_says : (a b : Cache) → IsMarked a → page_of b 0 ≡ page_of a 0 → IsUnfinishedStore b.store
unfolding sealed_payload
still_says a b m same = says_stored b m.payload (ap (option_and_then (unsealed 0)) same ∙ m.sealed) m.unfinished

-- a store that is not finished is said to be so where it is opened
pub unfinished_said : (s : Store) → IsUnfinishedStore s → 0 < s.count → first_fault s.count (stored_payload s 0) ≡ Some Unfinished
unfinished_said s u some =
    let there : nat_lt 0 s.count ≡ true = grind (arith, nat_tests, some) in
    ap (λ b. if b then payload_fault (stored_payload s 0) else Some Malformed) there ∙ ap payload_fault u.is ∙ unfinished_header u.payload u.unfinished
