-- What is left of a store, whatever its database answers.
use Rattle.std.proofs.Common.{ℕ, ◌≡◌, ◌≤◌, ◌∙◌, refl, sym, ap, arith, cond, inl, inr, [], length, drop, take, true, false, Bool, subst, IsTrue}
use Rattle.std.proofs.Math.Seq.{take-length}
use Rattle.std.specs.Prelude.{◌⊎◌}
use Rattle.legs.specs.Book.{Book}
use Rattle.legs.specs.Costs.{ShapeView}
use Rattle.legs.specs.Limits.{LimitsView}
use Rattle.pages.specs.Store.{Store, Stays, IsLawful}
use Rattle.pages.specs.declared.unsynced.Unsynced.{Unsynced}
use Rattle.pagecache.specs.Cache.{page_of, pages_as_written, payload_of, sealed_payload, stored_payload}
use Rattle.boxsearch.specs.Index.{words, written, IndexView, IsMarked, IsSoundIndex}
use Rattle.catalogue.specs.Holding.{HoldsBook, IsAtRest}
use Rattle.register.specs.Saved.{CatalogueView}
use Rattle.legs.specs.Asking.{IsLater as IsLaterIndex, Leaves as IndexLeaves}
use Rattle.catalogue.proofs.StateLemmas.{marked_store}
use Rattle.trajdb.specs.Calls.{IsUnwritten, KeepsPages, LeavesBook}
use Rattle.trajdb.specs.Db.{DbView, HasPages, IsSoundDb}
use Rattle.trajdb.specs.Promises.{KeepsStore}
use Rattle.trajdb.specs.Lasting.{IsSafe, IsSafeStore, IsUnchanged, IsUntouched}
use Rattle.trajdb.proofs.LastingLemmas.{keeps_idle}
use Rattle.trajdb.proofs.PageLemmas.{clash, keeps_leaves}

-- a call that wrote no page, after others
untouched_after : (was : Store) (a b : IndexView) → a.cache.store.faults ≤ b.cache.store.faults → IsUntouched was a → IsUnwritten words a b → IsUntouched was b
untouched_after was a b risen u w = record {
  lawful = u.lawful;
  faithful = u.faithful;
  faults = (let f = u.faults in omega (arith, f, risen));
  sound = w.sound u.sound;
  others = w.others ∙ u.others;
  pages = λ none. w.first (λ r. none (let f = u.faults in omega (arith, f, r))) ∙ u.pages (λ r. none (omega (arith, risen, r)));
}

safe_after : (was : Store) (old new : DbView) → old.index.cache.store.faults ≤ new.index.cache.store.faults → IsUntouched was old.index → IsMarked new.index.cache ⊎ IsUnwritten words old.index new.index → IsSafe was new
safe_after was old new risen u (inl m) = inl m
safe_after was old new risen u (inr w) = inr (untouched_after was old.index new.index risen u w)

-- every call keeps a store safe
module _ (old new : DbView) (keeps : KeepsPages words old new) (risen : old.index.cache.store.faults ≤ new.index.cache.store.faults) (same : old.failed ≡ true → new ≡ old) where
  pub keeps_safe : (was : Store) → IsSoundDb old → HasPages old → IsSafe was old → IsSafe was new
  keeps_safe was sound pages (inl m) = inl ((keeps.written sound.index.faithful pages).marked m)
  keeps_safe was sound pages (inr u) = by_state old.begun refl old.failed refl where
    by_state : (b : Bool) → old.begun ≡ b → (f : Bool) → old.failed ≡ f → IsSafe was new
    by_state true begun f is = inl ((keeps.written sound.index.faithful pages).marked (pages.begun begun))
    by_state false idle true is = subst (IsSafe was) (sym (same is)) (inr u)
    by_state false idle false is = safe_after was old new risen u ((keeps.written sound.index.faithful pages).clean (pages.idle idle is))

-- what catalogues at rest stay over what a question leaves
abbrev pub RestsStay : Type 0
RestsStay = (c : CatalogueView) (a b : IndexView) → IsAtRest c a → IndexLeaves words a b → IsAtRest c b

-- so a call keeps the store of a database
pub keeps_store : RestsStay → (old new : DbView) → KeepsPages words old new → IsLaterIndex words old.index new.index → (old.failed ≡ true → new ≡ old) → KeepsStore old new
keeps_store stay old new keeps later same = record { rests = keeps_idle stay old new keeps; safe = keeps_safe old new keeps later.faults same }

-- and so does a question
pub leaves_store : RestsStay → (old new : DbView) → LeavesBook words old new → old.failed ≡ false → KeepsStore old new
leaves_store stay old new leaves lives = keeps_store stay old new (keeps_leaves words old new leaves) leaves.index.later (λ failed. absurd (clash old.failed failed lives))

-- the pages as written of a sound index are those of its store
written_all : (i : IndexView) → IsSoundIndex i → IsLawful i.cache.store → written i ≡ i.cache.store.pages
unfolding pages_as_written
written_all i sound lawful =
    ap (λ b. cond b (pages_as_written i.cache) []) sound.faithful
    ∙ (ap (λ n. take n i.cache.store.pages) (sound.count ∙ sym (lawful.counted sound.faithful)) ∙ take-length i.cache.store.pages)

-- how many pages a store may have, how often it failed, and what of it is synced, is no part of the book that it holds
pub apart : (s : Store) (most faults : ℕ) (left : Unsynced) (lost : Bool) (shape : ShapeView) (limits : LimitsView) (book : Book) → HoldsBook s shape limits book → HoldsBook (record s { most = most; faults = faults; unsynced = left; has_lost = lost }) shape limits book
unfolding stored_payload payload_of sealed_payload page_of pages_as_written
apart s most faults left lost shape limits book h = record {
  catalogue = h.catalogue;
  tree = h.tree;
  places = h.places;
  kept = h.kept;
  shape_is = h.shape_is;
  of = h.of;
  sound = record {
    faithful = h.sound.faithful;
    works = h.sound.works;
    shape = h.sound.shape;
    count = h.sound.count;
    pages = h.sound.pages;
    stands = h.sound.stands;
    lawful = h.sound.lawful;
    counted = h.sound.counted;
    features = h.sound.features;
    placed = h.sound.placed;
  };
  legs = h.legs;
}

-- two stores of the same pages
same_but : (was s : Store) → s.pages ≡ was.pages → IsLawful was → IsLawful s → IsTrue was.is_faithful → IsTrue s.is_faithful → s ≡ record was { most = s.most; faults = s.faults; unsynced = s.unsynced; has_lost = s.has_lost }
same_but was s pages was_lawful lawful was_faithful faithful =
    let count : s.count ≡ was.count = sym (lawful.counted faithful) ∙ (ap length pages ∙ was_lawful.counted was_faithful) in
    let alike : s.is_faithful ≡ was.is_faithful = faithful ∙ sym was_faithful in
    λ i. record { count = count i; most = s.most; faults = s.faults; unsynced = s.unsynced; has_lost = s.has_lost; is_faithful = alike i; pages = pages i }

unchanged : (was : Store) (i : IndexView) → IsUntouched was i → IsLawful i.cache.store → IsUnchanged was i.cache.store
unchanged was i u lawful =
    let s = i.cache.store in
    let all = written_all i u.sound lawful in
    record {
      others = ap (drop 1) (sym all) ∙ u.others;
      pages = λ none. sym all ∙ u.pages none;
      holds = λ none shape limits book h.
          subst (λ (k : Store). HoldsBook k shape limits book) (sym (same_but was s (sym all ∙ u.pages none) u.lawful lawful u.faithful u.sound.faithful)) (apart was s.most s.faults s.unsynced s.has_lost shape limits book h);
    }

-- the store that is left is safe
pub left_safe : (was : Store) (db : DbView) (s : Store) → s ≡ db.index.cache.store → IsLawful db.index.cache.store → IsSafe was db → IsSafeStore was s
left_safe was db s is lawful (inl m) =
    subst (IsSafeStore was) (sym is) (inl (marked_store db.index.cache m))
left_safe was db s is lawful (inr u) = subst (IsSafeStore was) (sym is) (inr (unchanged was db.index u lawful))

-- a database that was opened keeps its store safe
pub opened_safe : (was : Store) (db : DbView) → IsLawful was → IsTrue was.is_faithful → Stays was db.index.cache.store → IsSoundDb db → IsSafe was db
unfolding pages_as_written
opened_safe was db lawful faithful stays sound =
    let s = db.index.cache.store in
    let count : db.index.cache.count ≡ length was.pages = sound.index.count ∙ (stays.count ∙ sym (lawful.counted faithful)) in
    let same : written db.index ≡ was.pages =
    ap (λ b. cond b (pages_as_written db.index.cache) []) sound.index.faithful
    ∙ (ap (λ n. take n s.pages) count ∙ (ap (take (length was.pages)) (stays.pages faithful) ∙ take-length was.pages)) in
    inr (record {
      lawful = lawful;
      faithful = faithful;
      faults = stays.keeps.faults;
      sound = sound.index;
      others = ap (drop 1) same;
      pages = λ none. same;
    })
