-- Page 0 of a new store.
use Rattle.std.proofs.Common.{ℕ, ◌≡◌, ◌+◌, ◌<◌, ◌∷◌, [], true, false, cond, length, drop, refl, sym, ap, ◌∙◌, arith, List, IsTrue, inl, inr, ⊎_elim, Some, None, option_map, option_and_then, slice_get}
use Rattle.legs.specs.Costs.{ShapeView}
use Rattle.legs.specs.Limits.{LimitsView}
use Rattle.pages.proofs.UnsealedLemmas.{unsealed-sealed}
use Rattle.pages.specs.Sealed.{sealed}
use Rattle.pages.specs.Store.{Store, IsLawful, IsSynced, Writes}
use Rattle.pages.specs.Unsealed.{unsealed}
use Rattle.pages.specs.declared.payload.Payload.{Payload}
use Rattle.pagecache.specs.Cache.{Cache, IsWritten, fresh, payload_of, stored_payload}
use Rattle.tbnode.specs.Form.{node_of}
use Rattle.tbtree.specs.Descent.{content_of, found_legs}
use Rattle.tbtree.specs.Nodes.{pages_of_cache}
use Rattle.tbtree.specs.Stands.{empty_tree}
use Rattle.chains.specs.Chains.{AreHeld}
use Rattle.boxsearch.specs.Index.{content, new_index, IsMarked, IsSoundIndex}
use Rattle.header.specs.Fields.{header_payload}
use Rattle.header.proofs.FieldsLemmas.{new_unfinished}
use Rattle.catalogue.specs.Beginning.{IsBegun, IsLeft, IsLeftOver}

no_pages : (pages : List (List ℕ)) → length pages ≡ 0 → pages ≡ []
no_pages [] e = refl
no_pages (p ∷ pages) e = absurd (omega (arith, e))

-- the one page of a store that had none
one_page : (a b : Store) (page : List ℕ) → IsLawful a → a.count ≡ 0 → Writes 0 page a b → IsTrue a.is_faithful → b.pages ≡ page ∷ []
one_page a b page l e w f = w.pages f ∙ ap (λ pages. page ∷ drop (0 + 1) pages) (no_pages a.pages (l.counted f ∙ e))

-- a store to which page 0 was written, and which is handed back
pub left_written : (shape : ShapeView) (limits : LimitsView) (a b : Store) → IsLawful a → a.count ≡ 0 → Writes 0 (sealed 0 (header_payload shape limits)) a b → IsLeft shape limits a b
left_written shape limits a b l e w = record {
  few = (let x = w.count in omega (arith, x, e));
  first = λ f. inr (inl (one_page a b (sealed 0 (header_payload shape limits)) l e w f));
}

-- an index without pages has no legs
no_legs : (cache : Cache) (shape : ShapeView) → content (new_index cache shape) ≡ []
unfolding found_legs
no_legs cache shape = elim cache.store.is_faithful as (λ b. cond b (content_of (pages_of_cache cache) (empty_tree shape)) [] ≡ []) [ true ↦ refl | false ↦ refl ]

-- page 0 of such a store says the payload
first_stored : (s : Store) (p : Payload) → s.pages ≡ sealed 0 p ∷ [] → stored_payload s 0 ≡ Some p
unfolding stored_payload
first_stored s p one = ap (λ (pages : List (List ℕ)). option_and_then (unsealed 0) (slice_get pages 0)) one ∙ unsealed-sealed 0 p

-- what is left over of one that was not begun
pub left_over : (shape : ShapeView) (limits : LimitsView) (a b : Store) → IsTrue a.is_faithful → IsLeft shape limits a b → IsLeftOver a b
left_over shape limits a b f l =
    let header = header_payload shape limits in
    ⊎_elim inl (λ some. inr (⊎_elim
    (λ (one : b.pages ≡ sealed 0 header ∷ []). inl (record { payload = header; is = first_stored b header one; unfinished = new_unfinished shape limits }))
    (λ failed. inr (l.few, failed)) some)) (l.first f)

-- an index without legs over a store whose page 0 is the seal of a new header, alone
module _ (shape : ShapeView) (limits : LimitsView) (a s : Store) (capacity : ℕ) (l : IsLawful a) (empty : a.count ≡ 0) (w : Writes 0 (sealed 0 (header_payload shape limits)) a s) (written : IsWritten (fresh s capacity)) where
  abbrev cache : Cache
  cache = fresh s capacity

  abbrev header : Payload
  header = header_payload shape limits

  one : cache.count ≡ 1
  one = let x = w.count in omega (arith, x, empty)

  faithful : IsTrue a.is_faithful → IsTrue s.is_faithful
  faithful f = w.keeps.faithful ∙ f

  payload : IsTrue a.is_faithful → payload_of cache 0 ≡ Some header
  payload f = written.stored (faithful f) refl 0 ∙ first_stored s header (one_page a s (sealed 0 header) l empty w f)

  marked : IsTrue a.is_faithful → IsMarked cache
  marked f = record {
    faithful = faithful f;
    there = (let o = one in omega (arith, o));
    unchanged = written.clean 0;
    payload = header;
    sealed = sym (written.sealed (faithful f) 0) ∙ payload f;
    unfinished = new_unfinished shape limits;
  }

  held : IsTrue a.is_faithful → AreHeld (pages_of_cache cache)
  held f n below e =
      let o = one in
      let z : 0 ≡ n = omega (arith, below, o) in
      let none : Some (node_of header) ≡ None = sym (ap (option_map node_of) (payload f)) ∙ ap (pages_of_cache cache).at z ∙ e in
      absurd cc

  pub begun : IsSynced s → (IsTrue s.is_faithful → 0 < cache.count → AreHeld (pages_of_cache cache) → cache.count ≡ s.count → IsSoundIndex (new_index cache shape))
      → IsBegun shape limits capacity a (new_index cache shape)
  begun synced sound = record {
    empty = no_legs cache shape;
    shape = refl;
    capacity = refl;
    stored = w;
    synced = synced;
    sound = λ f. sound (faithful f) (let o = one in omega (arith, o)) (held f) refl;
    marked = marked;
  }
