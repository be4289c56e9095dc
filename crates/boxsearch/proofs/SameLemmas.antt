-- A cache that was only read has the nodes that it had.
use Rattle.std.proofs.Common.{ℕ, zero, suc, ◌≡◌, ◌≢◌, Bool, List, sym, ap, ◌∙◌, All, Some, option_map, map, [], ◌∷◌, ◌++◌, take, slice_get, refl, subst, Result, OnOk}
use Rattle.std.specs.Prelude.{IsTrue}
use Rattle.std.specs.List.{filter, flat_map}
use Rattle.std.proofs.lemmas.Grind.{flat_map-append}
use Rattle.std.proofs.lemmas.List.{append-nil}
use Rattle.std.proofs.lemmas.List.Elements.{All-nil, All-cons, All-append, All-same}
use Rattle.boxsearch.proofs.PushLemmas.{take_at}
use Rattle.legs.specs.Boxes.{BoxView}
use Rattle.legs.specs.Hull.{leg_boxes}
use Rattle.pages.specs.declared.payload.Payload.{Payload}
use Rattle.pagecache.specs.Cache.{Cache, payload_of}
use Rattle.tbnode.specs.Form.{node_of}
use Rattle.chains.specs.Reads.{OnlyReads}
use Rattle.legs.specs.Legs.{LegView}
use Rattle.tbtree.specs.Descent.{children_met, entries_in, legs_in, node_at, hits}
use Rattle.tbtree.specs.Nodes.{Pages, pages_of_cache}

-- one piece more
pub flat_more : {X Y : Type 0} (f : X → List Y) (xs : List X) (i j : ℕ) (x : X) (old new piece : List Y) → slice_get xs i ≡ Some x → j ≡ suc i
    → piece ≡ f x → new ≡ old ++ piece → old ≡ flat_map f (take i xs) → new ≡ flat_map f (take j xs)
flat_more f xs i j x old new piece a s p e h =
    e ∙ ap (λ l. l ++ piece) h ∙ ap (λ l. flat_map f (take i xs) ++ l) (p ∙ sym (append-nil (f x)))
    ∙ sym (flat_map-append f (take i xs) (x ∷ []))
    ∙ sym (ap (flat_map f) (ap (λ n. take n xs) s ∙ take_at xs i x a))

-- one element more of which something holds
pub all_more : {X : Type 0} (P : X → Type 0) (xs : List X) (i j : ℕ) (x : X) → slice_get xs i ≡ Some x → j ≡ suc i → P x → All P (take i xs) → All P (take j xs)
all_more P xs i j x a s h all =
    All-same P (take j xs) (take i xs ++ x ∷ []) (ap (λ n. take n xs) s ∙ take_at xs i x a)
    (All-append P (take i xs) (x ∷ []) all (All-cons P x [] h (All-nil P)))

-- what a page says is what its payload says
node_there : (c : Cache) (p : ℕ) (payload : Payload) → p ≢ 0 → payload_of c p ≡ Some payload → node_at (pages_of_cache c) p ≡ Some (node_of payload)
node_there c zero payload n e = absurd (n refl)
node_there c (suc p) payload n e = ap (λ o. option_map node_of o) e

pub children_there : (c : Cache) (p : ℕ) (payload : Payload) (meets : BoxView → Bool) → p ≢ 0 → payload_of c p ≡ Some payload
    → map (λ e. e.child) (filter (λ e. meets e.bounds) (entries_in (Some (node_of payload)))) ≡ children_met meets (pages_of_cache c) p
unfolding children_met
children_there c p payload meets n e = ap (λ o. map (λ e. e.child) (filter (λ e. meets e.bounds) (entries_in o))) (sym (node_there c p payload n e))

pub hits_there : (c : Cache) (p : ℕ) (payload : Payload) (meets : BoxView → Bool) → p ≢ 0 → payload_of c p ≡ Some payload
    → filter (λ leg. meets (leg_boxes.of leg)) (legs_in (Some (node_of payload))) ≡ hits leg_boxes meets (pages_of_cache c) p
hits_there c p payload meets n e = ap (λ o. filter (λ leg. meets (leg_boxes.of leg)) (legs_in o)) (sym (node_there c p payload n e))

-- what is pushed is what the page says
pub pushed_there : {X E : Type 0} (r : Result (Unit {0}) E) (found new : List X) {piece there : List X} → piece ≡ there → OnOk r (new ≡ found ++ piece) → OnOk r (new ≡ found ++ there)
pushed_there r found new same pushed = subst (λ l. OnOk r (new ≡ found ++ l)) same pushed

-- pages that are only read say what they said
pub same_pages : (old new : Cache) → OnlyReads old new → IsTrue old.store.is_faithful → pages_of_cache new ≡ pages_of_cache old
same_pages old new r f = λ i. record { at = λ p. option_map node_of (r.payloads f p i); count = r.count i }

-- what a call says of pages that were only read before is said of them as they were
pub as_before : (old mid : Cache) → OnlyReads old mid → (P : Pages LegView BoxView → Type 0) → (IsTrue mid.store.is_faithful → P (pages_of_cache mid)) → IsTrue old.store.is_faithful → P (pages_of_cache old)
as_before old mid reads P h fa = subst P (same_pages old mid reads fa) (h (reads.store.faithful ∙ fa))
