-- What a step leaves of the pages that are none of a text's.
use Rattle.std.proofs.Common.{ℕ, ◌≡◌, ◌<◌, ◌≤◌, ◌==◌, true, false, cond, refl, sym, ap, ◌∙◌, arith, IsTrue, Some, None, option_map, ⊎_elim, Result, Ok, Err}
use Rattle.std.specs.Prelude.{OnErr, OnOk}
use Rattle.std.proofs.lemmas.Bool.Decides.{eqb_tells}
use Rattle.std.proofs.lemmas.Bool.{cases_lt}
use Rattle.legs.specs.Boxes.{BoxView}
use Rattle.legs.specs.Legs.{LegView}
use Rattle.pages.specs.Zero.{zero_payload}
use Rattle.pages.specs.declared.payload.Kind.{Kind}
use Rattle.pages.specs.declared.payload.Kind.TheVariants.{Catalogue}
use Rattle.pages.specs.declared.payload.Payload.{Payload}
use Rattle.pagecache.specs.Cache.{Cache, Adds, KeepsPayloads, payload_of}
use Rattle.pagecache.specs.declared.fault.CacheFault.{CacheFault}
use Rattle.pagecache.specs.declared.fault.CacheFault.TheVariants as cache
use Rattle.tbnode.specs.Form.{node_of, node_by}
use Rattle.tbtree.specs.Descent.{IsSameTree, node_in}
use Rattle.tbtree.specs.Nodes.{Pages, pages_of_cache}
use Rattle.tbtree.specs.Passes.{Passes}
use Rattle.register.specs.Chain.{part_payload}
use Rattle.register.specs.ChainWriter.{Fills, Gives, OnlyAsks, PayloadsStay, IsCaused}
use Rattle.register.specs.Saved.{SparesTree}
use Rattle.register.proofs.ReaderLemmas.{some_none}

-- a step that is passed on is caused by what came before it too
pub caused_after : (a b c : Cache) (e : CacheFault) → Passes a b → IsCaused b c e → IsCaused a c e
caused_after a b c cache.Store p h = omega (arith, h, p.store.faults)
caused_after a b c _ p h = h

pub no_page : (n m : ℕ) → (n ≡ m → ⊥) → (n == m) ≡ false
no_page n m h = ⊎_elim (λ t. absurd (h t.1)) (λ f. f.0) (eqb_tells n m)

pub is_page : (n m : ℕ) → n ≡ m → (n == m) ≡ true
is_page n m e = ⊎_elim (λ t. t.0) (λ f. absurd (f.1 e)) (eqb_tells n m)

-- the pages of a tree say what they said
pub same_refl : (a : Pages LegView BoxView) → IsSameTree a a
same_refl a = record { count = omega arith; held = λ p h e. (h, e); rest = λ p h. refl }

pub same_trans : (a b c : Pages LegView BoxView) → IsSameTree a b → IsSameTree b c → IsSameTree a c
same_trans a b c s t = record {
  count = (let x = s.count in let y = t.count in omega (arith, x, y));
  held = λ p h e. (let r = t.held p h e in s.held p r.0 r.1);
  rest = λ p h. t.rest p h ∙ s.rest p h;
}

pub spares_then : (a b c : Cache) → b.store.is_faithful ≡ a.store.is_faithful → SparesTree a b → SparesTree b c → SparesTree a c
spares_then a b c same s t = λ f. same_trans (pages_of_cache a) (pages_of_cache b) (pages_of_cache c) (s f) (t (same ∙ f))

pub spares_trans : (a b c : Cache) → Passes a b → SparesTree a b → SparesTree b c → SparesTree a c
spares_trans a b c p s t = spares_then a b c p.store.faithful s t

-- no page has another payload
pub same_spare : (a b : Cache) → b.count ≡ a.count → (IsTrue a.store.is_faithful → (p : ℕ) → payload_of b p ≡ payload_of a p) → SparesTree a b
same_spare a b count same = λ f. record {
  count = omega (arith, count);
  held = λ p h e. (omega (arith, count, h), ap (option_map node_of) (sym (same f p)) ∙ e);
  rest = λ p h. ap (λ o. node_in (option_map node_of o)) (same f p);
}

-- as where the payloads are kept
pub stays_spares : (a b : Cache) → KeepsPayloads a b → SparesTree a b
stays_spares a b s = same_spare a b s.count s.payloads

-- a payload that says no node
node_of-catalogue : (p : Payload) → p.kind ≡ Catalogue → node_of p ≡ None
unfolding node_of
node_of-catalogue p e = ap (λ k. node_by k p.bytes) e

node_of-zero : (kind : Kind) → ((bytes : _) → node_by kind bytes ≡ None) → node_of (zero_payload kind) ≡ None
unfolding node_of zero_payload
node_of-zero kind h = h _

pub zero_catalogue : node_of (zero_payload Catalogue) ≡ None
zero_catalogue = node_of-zero Catalogue (λ bytes. refl)

pub node_of-part : (next : ℕ) (text : _) → node_of (part_payload next text) ≡ None
unfolding node_of part_payload
node_of-part next text = refl

-- one page has another payload, or is new; neither says a node, nor did the page before
module _ (a b : Cache) (n : ℕ) (w : Payload) (now : (m : ℕ) → payload_of b m ≡ cond (n == m) (Some w) (payload_of a m)) (no_node : node_of w ≡ None) (before : node_in (option_map node_of (payload_of a n)) ≡ None) where
  at_page : (m : ℕ) → n ≡ m → payload_of b m ≡ Some w
  at_page m e = now m ∙ ap (λ v. cond v (Some w) (payload_of a m)) (is_page n m e)

  pub elsewhere : (m : ℕ) → (n ≡ m → ⊥) → payload_of b m ≡ payload_of a m
  elsewhere m e = now m ∙ ap (λ v. cond v (Some w) (payload_of a m)) (no_page n m e)

  pub spared : a.count ≤ b.count → ((p : ℕ) → p < b.count → (n ≡ p → ⊥) → p < a.count) → IsSameTree (pages_of_cache a) (pages_of_cache b)
  spared more within = record {
    count = more;
    held = λ p h e. ⊎_elim
        (λ t. absurd (some_none (node_of w) (ap (option_map node_of) (sym (at_page p t.1)) ∙ e)))
        (λ t. (within p h t.1, ap (option_map node_of) (sym (elsewhere p t.1)) ∙ e))
        (eqb_tells n p);
    rest = λ p h. ⊎_elim
        (λ t. ap (λ o. node_in (option_map node_of o)) (at_page p t.1) ∙ no_node ∙ sym before ∙ ap (λ m. node_in (option_map node_of (payload_of a m))) t.1)
        (λ t. ap (λ o. node_in (option_map node_of o)) (elsewhere p t.1))
        (eqb_tells n p);
  }

pub adds_stay : (a b : Cache) (w : Payload) → payload_of a a.count ≡ None → Adds w a b → PayloadsStay a b
adds_stay a b w none s = λ f p v e.
    s.payloads f p ∙ ap (λ t. cond t (Some w) (payload_of a p)) (no_page a.count p (λ at. some_none v (sym e ∙ ap (payload_of a) (sym at) ∙ none))) ∙ e

pub adds_spares : (a b : Cache) (w : Payload) → node_of w ≡ None → payload_of a a.count ≡ None → Adds w a b → SparesTree a b
adds_spares a b w e none s = λ f.
    let count = s.count in
    spared a b a.count w (s.payloads f) e (ap (λ o. node_in (option_map node_of o)) none) (omega (arith, count))
    (λ p h other. ⊎_elim (λ l. l) (λ g. absurd (other (omega (arith, g, h, count)))) (cases_lt p a.count))

pub fills_spares : (a b : Cache) (n : ℕ) (next : ℕ) (text : _) (v : Payload) → v.kind ≡ Catalogue → (IsTrue a.store.is_faithful → payload_of a n ≡ Some v) → Fills n (part_payload next text) a b → SparesTree a b
fills_spares a b n next text v k at l = λ f.
    let before = ap (λ o. node_in (option_map node_of o)) (at f) ∙ node_of-catalogue v k in
    let count = l.writes.count in
    spared a b n (part_payload next text) (l.writes.payloads f) (node_of-part next text) before (omega (arith, count)) (λ p h _. omega (arith, h, count))

pub stay_trans : (a b c : Cache) → Passes a b → PayloadsStay a b → PayloadsStay b c → PayloadsStay a c
stay_trans a b c p s t = λ f n v e. t (p.store.faithful ∙ f) n v (s f n v e)

zero_kind : (zero_payload Catalogue).kind ≡ Catalogue
unfolding zero_payload
zero_kind = refl

-- a page is added above page 0
pub gives_added : (a b c : Cache) (n : ℕ) → Passes a b → PayloadsStay a b → 0 < b.count → Adds (zero_payload Catalogue) b c → n ≡ b.count → payload_of b b.count ≡ None → Gives a n c
gives_added a b c n p stay some s at none = record {
  above = omega (arith, at, some);
  below = (let k = s.count in omega (arith, k, at));
  own = λ f. record { above = omega (arith, at, some); payload = zero_payload Catalogue; is = s.payloads (p.store.faithful ∙ f) n ∙ ap (λ t. cond t (Some (zero_payload Catalogue)) (payload_of b n)) (is_page b.count n (sym at)); kind = zero_kind };
  stay = stay_trans a b c p stay (adds_stay b c (zero_payload Catalogue) none s);
}

-- a page that is written is not page 0
pub page_passes : {T E : Type 0} {b d : Cache} {n : ℕ} (w : Payload) (r : Result T E) → 0 < n → OnOk r (Fills n w b d) → OnErr r (OnlyAsks b d) → Passes b d
page_passes {b = b} {n = n} w (Ok x) above l rests = record {
  store = l.writes.keeps.store;
  capacity = l.writes.keeps.capacity;
  count = let count = l.writes.count in omega (arith, count);
  asked = l.asked;
  first = λ f some. l.writes.payloads f 0 ∙ ap (λ v. cond v (Some w) (payload_of b 0)) (no_page n 0 (λ e. omega (arith, e, above)));
  unmarked = λ some u. l.writes.changed 0 (λ e. omega (arith, e, above)) u;
  written = λ f some u. l.writes.keeps.written f 0 some u;
}
page_passes w (Err e) above l rests = record {
  store = rests.stays.keeps.store;
  capacity = rests.stays.keeps.capacity;
  count = let count = rests.stays.count in omega (arith, count);
  asked = rests.asked;
  first = λ f some. rests.stays.payloads f 0;
  unmarked = λ some u. rests.stays.changed 0 u;
  written = λ f some u. rests.stays.keeps.written f 0 some u;
}
