-- A store that is opened.
use Rattle.std.proofs.Common.{ℕ, ◌≡◌, [], List, true, nat_lt, length, refl, sym, ap, ◌∙◌, arith, subst, IsTrue, Option, Some, None, if◌then◌else◌, option_and_then, slice_get}
use Rattle.std.proofs.lemmas.Bool.Decides.{nat_tests}
use Rattle.std.proofs.lemmas.List.{take_all}
use Rattle.legs.specs.Book.{Book}
use Rattle.legs.specs.Costs.{ShapeView}
use Rattle.legs.specs.Limits.{LimitsView}
use Rattle.pages.specs.Store.{Store, IsLawful, Stays}
use Rattle.pages.specs.declared.payload.Payload.{Payload}
use Rattle.pagecache.specs.Cache.{fresh, pages_as_written, page_of, payload_of, sealed_payload, stored_payload, Cache, IsWritten}
use Rattle.pages.specs.Unsealed.{unsealed}
use Rattle.chains.specs.Reads.{OnlyReads}
use Rattle.boxsearch.specs.Beside.{with_cache}
use Rattle.boxsearch.specs.Index.{content, written, IndexView, IsSoundIndex}
use Rattle.boxsearch.proofs.BoundLemmas.{alike}
use Rattle.boxsearch.proofs.StartLemmas.{beside_content, beside_sound, IsBeside}
use Rattle.tbtree.specs.declared.tree.Place.{Place}
use Rattle.tbtree.specs.declared.tree.TbTree.{TbTree}
use Rattle.catalogue.specs.Holding.{index_over, payload_in, AnswersBook, HoldsBook, IsAtRest, IsOfBook, IsOpened, IsRestored, NotOpened, NotRestored}
use Rattle.register.specs.Lasting.{first_fault, payload_fault, ComesFirst, IsKept, IsReadingFault, IsSame, IsStop}
use Rattle.register.specs.declared.fault.CatalogueFault.{CatalogueFault}
use Rattle.register.specs.declared.fault.CatalogueFault.TheVariants.{Memory, StoreFull, Damaged, Unfinished, Version, Malformed}
use Rattle.register.specs.declared.fault.CatalogueFault.TheVariants as fault
use Rattle.register.specs.Saved.{CatalogueView}

-- all pages of a store that a cache counts are written
pub all_pages : (c : Cache) → IsLawful c.store → c.count ≡ c.store.count → IsTrue c.store.is_faithful → pages_as_written c ≡ c.store.pages
unfolding pages_as_written
all_pages c lawful count fa = take_all c.count c.store.pages (let l = lawful.counted fa in omega (arith, l, count))

pub payload_stored : (s : Store) → payload_in s.pages ≡ stored_payload s
unfolding payload_in stored_payload
payload_stored s = refl

-- a cache without pages has those of its store
pub fresh_payload : (s : Store) (n : ℕ) → IsLawful s → IsTrue s.is_faithful → (p : ℕ) → payload_of (fresh s n) p ≡ stored_payload s p
unfolding payload_of sealed_payload page_of stored_payload
fresh_payload s n lawful fa p = ap (λ (l : List (List ℕ)). option_and_then (unsealed p) (slice_get l p)) (all_pages (fresh s n) lawful refl fa)

-- that they keep one catalogue, one tree and one list of places at most
abbrev pub SameLaw : Type 0
SameLaw = (at : ℕ → Option Payload) (count : ℕ) (c d : CatalogueView) (tree other : TbTree) (places others : List Place) → IsKept at count c tree places → IsKept at count d other others
    → IsSame c d tree other places others

-- what is no other fault is memory or the store
pub stop_of : (e : CatalogueFault) → ((IsStop e → ⊥) → ⊥) → IsStop e
stop_of Memory h = tt
stop_of fault.Store h = tt
stop_of StoreFull h = h (λ x. x)
stop_of (Damaged n) h = h (λ x. x)
stop_of Unfinished h = h (λ x. x)
stop_of Version h = h (λ x. x)
stop_of Malformed h = h (λ x. x)

-- a cache over a store, of which no page is read yet
module _ (s : Store) (pages : ℕ) (clean : IsWritten (fresh s pages)) (lawful : IsLawful s) where
  at_stored : IsTrue s.is_faithful → payload_of (fresh s pages) ≡ stored_payload s
  at_stored fa = (λ i n. clean.stored fa refl n i)

  stays : (b : Cache) → OnlyReads (fresh s pages) b → IsLawful b.store → Stays s b.store
  stays b reads lawful_b = record {
    keeps = reads.store;
    count = reads.length;
    pages = λ fa. sym (all_pages b lawful_b (reads.count ∙ sym reads.length) (reads.store.faithful ∙ fa)) ∙ reads.unwritten.clean fa clean.clean ∙ all_pages (fresh s pages) lawful refl fa;
    unsynced = reads.unsynced.clean clean.clean;
  }

  module _ (c : CatalogueView) (index : IndexView) (r : IsRestored (fresh s pages) c index) where
    module _ (fa : IsTrue s.is_faithful) where
      kept_stored : IsKept (stored_payload s) s.count c index.tree index.places
      kept_stored = subst (λ (at : ℕ → Option Payload). IsKept at s.count c index.tree index.places) (at_stored fa) (r.kept fa)

      pages_are : written index ≡ s.pages
      pages_are = ap (λ f. if f then pages_as_written index.cache else []) (r.reads.store.faithful ∙ fa) ∙ r.reads.unwritten.clean fa clean.clean ∙ all_pages (fresh s pages) lawful refl fa

      at_rest : IsAtRest c index
      at_rest = record {
        clean = λ n. r.reads.changed n (clean.clean n);
        legs = r.legs;
        kept = subst (λ n. IsKept (payload_in (written index)) n c index.tree index.places) (sym (lawful.counted fa) ∙ ap length (sym pages_are))
            (subst (λ (f : ℕ → Option Payload). IsKept f s.count c index.tree index.places) (sym (payload_stored s) ∙ ap payload_in (sym pages_are)) kept_stored);
      }

      module _ (same_law : SameLaw) (shape : ShapeView) (limits : LimitsView) (book : Book) (h : HoldsBook s shape limits book) where
        same : IsSame c h.catalogue index.tree h.tree index.places h.places
        same = same_law (stored_payload s) s.count c h.catalogue index.tree h.tree index.places h.places kept_stored h.kept

        of : IsOfBook limits book c
        of = subst (IsOfBook limits book) (sym same.catalogue) h.of

        beside : IsBeside (fresh s 1) index.cache
        beside = alike (fresh s 1) index.cache r.reads.store.faithful r.reads.count r.reads.length
            (λ f n. r.reads.payloads f n ∙ clean.stored f refl n ∙ sym (fresh_payload s 1 lawful f n))

        this : with_cache (index_over s h.tree h.places (length book.legs)) index.cache index.known ≡ index
        this =
            let t = sym same.tree_is in
            let p = sym same.places_are in
            let l = sym of.tracks.legs ∙ sym r.legs in
            (λ i. record { cache = index.cache; tree = t i; places = p i; legs = l i; known = index.known })

        answers : AnswersBook shape limits book c index
        answers = record {
          shape_is = ap (λ (t : TbTree). t.shape) same.tree_is ∙ h.shape_is;
          of = of;
          sound = subst IsSoundIndex this (beside_sound (index_over s h.tree h.places (length book.legs)) index.cache index.known beside h.sound);
          legs = ap (λ i. content i) (sym this) ∙ beside_content (index_over s h.tree h.places (length book.legs)) index.cache index.known beside ∙ h.legs;
        }

      first_none : first_fault s.count (stored_payload s 0) ≡ None
      first_none =
          let there : nat_lt 0 s.count ≡ true = (let root = kept_stored.within.root in grind (arith, nat_tests, root)) in
          ap (λ b. if b then payload_fault (stored_payload s 0) else Some Malformed) there ∙ kept_stored.finished

    pub opened : SameLaw → IsOpened s pages c index
    opened law = record {
      rest = at_rest;
      capacity = r.reads.capacity;
      book = λ fa shape limits book h. answers fa law shape limits book h;
      finished = first_none;
      stored = stays index.cache r.reads r.lawful;
    }

  pub not_opened : (b : Cache) (e : CatalogueFault) (left : Store) → NotRestored (fresh s pages) b e → left ≡ b.store → IsLawful left → NotOpened s left e
  not_opened b e left r is lawful_left = record {
    holds = λ fa shape limits book h. stop_of e (λ not.
        r.broken fa not h.catalogue h.tree h.places (subst (λ (at : ℕ → Option Payload). IsKept at s.count h.catalogue h.tree h.places) (sym (at_stored fa)) h.kept));
    first = λ fa. subst (λ (p : Option Payload). ComesFirst (first_fault s.count p) e) (λ i. at_stored fa i 0) (r.first fa);
    back = subst (λ x. Stays s x) (sym is) (stays b r.back (subst (λ x. IsLawful x) is lawful_left));
    caused = subst (λ x. IsReadingFault s x e) (sym is) r.caused;
  }
