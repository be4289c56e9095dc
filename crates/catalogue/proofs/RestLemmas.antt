-- A database of which no page is changed, and a store whose pages hold a book.
use Rattle.std.proofs.Common.{ℕ, ◌≡◌, ◌<◌, cond, Option, List, [], ◌∷◌, map, length, refl, sym, ap, ◌∙◌, subst, IsTrue, Some, option_and_then, slice_get}
use Rattle.legs.specs.Asking.{Leaves}
use Rattle.legs.specs.Book.{Book}
use Rattle.pages.specs.Store.{Store, IsLawful}
use Rattle.pages.specs.Unsealed.{unsealed}
use Rattle.pagecache.specs.Cache.{Cache, fresh, page_of, pages_as_written, payload_of, sealed_payload, stored_payload, IsSettled}
use Rattle.pages.specs.declared.payload.Kind.TheVariants.{Header}
use Rattle.pages.specs.declared.payload.Payload.{Payload}
use Rattle.tbtree.specs.declared.tree.Place.{Place}
use Rattle.tbtree.specs.declared.tree.TbTree.{TbTree}
use Rattle.boxsearch.proofs.BoundLemmas.{alike}
use Rattle.boxsearch.proofs.StartLemmas.{beside_content, beside_sound, IsBeside}
use Rattle.catalogue.proofs.OpenLemmas.{all_pages, fresh_payload, payload_stored}
use Rattle.boxsearch.specs.Index.{content, found_by, place_of, words, written, IndexView, IsSoundIndex}
use Rattle.catalogue.specs.Holding.{index_over, payload_in, HoldsBook, IsAtRest, IsOfBook}
use Rattle.header.specs.Front.{with_state}
use Rattle.register.specs.Lasting.{IsKept, Says}
use Rattle.register.specs.Saved.{CatalogueView}

-- the law of page 0 with another state
abbrev pub StateLaw : Type 0
StateLaw = (at now : ℕ → Option Payload) (header : Payload) (state : ℕ) → ((n : ℕ) → 0 < n → now n ≡ at n) → at 0 ≡ Some header → now 0 ≡ Some (with_state state header) → header.kind ≡ Header
    → (count : ℕ) (c : CatalogueView) (tree : TbTree) (places : List Place) → Says at count c tree places → Says now count c tree places

heads : {X : Type 0} (x y : X) (xs ys : List X) → x ∷ xs ≡ y ∷ ys → x ≡ y
heads x y xs ys e = cc

tails : {X : Type 0} (x y : X) (xs ys : List X) → x ∷ xs ≡ y ∷ ys → xs ≡ ys
tails x y xs ys e = cc

the_same : {X : Type 0} (x y : X) → Some x ≡ Some y → x ≡ y
the_same x y e = cc

place_same : (p q : Place) → place_of p ≡ place_of q → p ≡ q
place_same p q e = λ i. record { first = (e i).first; last = (e i).last; last_index = (e i).last_index; legs = (e i).legs }

-- places are known by their numbers
places_same : (ps qs : List Place) → map place_of ps ≡ map place_of qs → ps ≡ qs
places_same [] [] e = refl
places_same [] (q ∷ qs) e = absurd cc
places_same (p ∷ ps) [] e = absurd cc
places_same (p ∷ ps) (q ∷ qs) e =
    let first = place_same p q (heads (place_of p) (place_of q) (map place_of ps) (map place_of qs) e) in
    let rest = places_same ps qs (tails (place_of p) (place_of q) (map place_of ps) (map place_of qs) e) in
    λ i. first i ∷ rest i

-- what a question leaves of a database at rest is at rest
module _ (c : CatalogueView) (a b : IndexView) (rest : IsAtRest c a) (leaves : Leaves words a b) where
  tree_same : b.tree ≡ a.tree
  tree_same =
      let shape : b.tree.shape ≡ a.tree.shape = the_same b.tree.shape a.tree.shape leaves.later.plan in
      let spent : b.tree.spent ≡ a.tree.spent = leaves.spent in
      let found : found_by b ≡ found_by a = leaves.found_by in
      λ i. record { shape = shape i; root = (found i).root; levels = (found i).levels; leaves = (found i).leaves; spent = spent i }

  pub rest_stays : IsAtRest c b
  rest_stays =
      let found : found_by b ≡ found_by a = leaves.found_by in
      let places : b.places ≡ a.places = places_same b.places a.places (λ i. (found i).places) in
      let pages : written b ≡ written a = leaves.written rest.clean in
      record {
        clean = leaves.clean rest.clean;
        legs = (λ i. (found i).legs) ∙ rest.legs;
        kept = subst (λ w. IsKept (payload_in w) (length w) c b.tree b.places) (sym pages)
            (subst (λ t. IsKept (payload_in (written a)) (length (written a)) c t b.places) (sym tree_same)
            (subst (λ p. IsKept (payload_in (written a)) (length (written a)) c a.tree p) (sym places) rest.kept));
      }

-- a cache that counts all pages of its store
pub sealed_stored : (c : Cache) → c.count ≡ c.store.count → IsLawful c.store → IsTrue c.store.is_faithful → (n : ℕ) → sealed_payload c n ≡ stored_payload c.store n
unfolding sealed_payload page_of stored_payload
sealed_stored c counts lawful f n = ap (λ (pages : List (List ℕ)). option_and_then (unsealed n) (slice_get pages n)) (all_pages c lawful counts f)

-- a store that keeps a sound index of a book, in pages that say the same, holds the book
pub book_held : (c : CatalogueView) (i : IndexView) (book : Book) (s : Store) → IsKept (stored_payload s) s.count c i.tree i.places → IsBeside i.cache (fresh s 1) → IsSoundIndex i → IsOfBook c.limits book c → content i ≡ book.legs
    → HoldsBook s i.tree.shape c.limits book
book_held c i book s kept beside sound of legs = record {
  catalogue = c;
  tree = i.tree;
  places = i.places;
  kept = kept;
  shape_is = refl;
  of = of;
  sound = subst (λ n. IsSoundIndex (index_over s i.tree i.places n)) (sound.counted ∙ ap length legs) (beside_sound i (fresh s 1) [] beside sound);
  legs = beside_content i (fresh s 1) [] beside ∙ legs;
}

-- at rest the pages of a store hold the book that a sound index and a catalogue are of
module _ (c : CatalogueView) (i : IndexView) (book : Book) (f : IsTrue i.cache.store.is_faithful) (lawful : IsLawful i.cache.store) (settled : IsSettled i.cache)
    (rest : IsAtRest c i) (sound : IsSoundIndex i) (of : IsOfBook c.limits book c) (legs : content i ≡ book.legs) where
  abbrev s : Store
  s = i.cache.store

  written_is : written i ≡ s.pages
  written_is = ap (λ b. cond b (pages_as_written i.cache) []) f ∙ all_pages i.cache lawful sound.count f

  kept : IsKept (stored_payload s) s.count c i.tree i.places
  kept =
      subst (λ at. IsKept at s.count c i.tree i.places) (payload_stored s)
      (subst (λ n. IsKept (payload_in s.pages) n c i.tree i.places) (lawful.counted f)
      (subst (λ w. IsKept (payload_in w) (length w) c i.tree i.places) written_is rest.kept))

  payloads : (n : ℕ) → payload_of (fresh s 1) n ≡ payload_of i.cache n
  payloads n =
      fresh_payload s 1 lawful f n
      ∙ sym (settled f n (rest.clean n) ∙ sealed_stored i.cache sound.count lawful f n)

  beside : IsBeside i.cache (fresh s 1)
  beside = alike i.cache (fresh s 1) refl (sym sound.count) refl (λ _. payloads)

  pub rest_holds : HoldsBook s i.tree.shape c.limits book
  rest_holds = book_held c i book s kept beside sound of legs
