-- A store of which all but page 0 is written, and the call that closes it.
use Rattle.std.proofs.Common.{ℕ, zero, suc, ◌≡◌, ◌<◌, List, [], ◌∷◌, drop, refl, sym, ap, ◌∙◌, arith, IsTrue, Some, option_and_then, slice_get}
use Rattle.std.proofs.lemmas.List.{length-drop}
use Rattle.pages.proofs.UnsealedLemmas.{unsealed-sealed}
use Rattle.pages.specs.Sealed.{sealed}
use Rattle.pages.specs.Store.{IsLawful, IsSyncedButFirst, NoneUnsynced, Store}
use Rattle.pages.specs.declared.unsynced.Unsynced.TheVariants.{Nothing, Others}
use Rattle.pages.specs.Unsealed.{unsealed}
use Rattle.pages.specs.declared.payload.Payload.{Payload}
use Rattle.pagecache.specs.Cache.{page_of, pages_as_written, payload_of, sealed_payload, stored_payload, Cache}
use Rattle.legs.specs.Book.{Book}
use Rattle.boxsearch.specs.Index.{IndexView}
use Rattle.header.specs.Front.{finished, IsUnfinished}
use Rattle.catalogue.specs.Finishing.{Finishes, KeepsOthers}
use Rattle.catalogue.specs.Holding.{HoldsButFirst}
use Rattle.register.specs.Saved.{CatalogueView, IsWrittenButFirst}
use Rattle.catalogue.proofs.CloseLemmas.{closed_holds, IsSavedOf}
use Rattle.catalogue.proofs.RestLemmas.{StateLaw}
use Rattle.catalogue.proofs.OpenLemmas.{all_pages}

-- a store of which nothing is unsynced
pub synced_but_first : (s : Store) → NoneUnsynced s → IsSyncedButFirst s
synced_but_first s e k = let x : Nothing ≡ Others = sym e ∙ k in cc

behind_first : {X : Type 0} (xs : List X) (n : ℕ) → slice_get xs (suc n) ≡ slice_get (drop 1 xs) n
behind_first [] n = refl
behind_first (x ∷ xs) n = refl

-- page 0 made that of a finished store
abbrev pub finished_store : Store → Payload → Store
finished_store s header = record s { pages = sealed 0 (finished header) ∷ drop 1 s.pages }

module _ (j new : Cache) (but : IsWrittenButFirst j) (faithful : IsTrue j.store.is_faithful) (there : 0 < j.count) (counts : j.count ≡ j.store.count)
    (o : KeepsOthers j new) (lawful : IsLawful new.store) (header : Payload) (is : payload_of j 0 ≡ Some header) where
  abbrev whole : Store
  whole = finished_store new.store header

  all : pages_as_written new ≡ new.store.pages
  all = all_pages new lawful (o.count ∙ counts ∙ sym o.length) (o.store.faithful ∙ faithful)

  pub whole_lawful : IsLawful whole
  whole_lawful = record {
    within = lawful.within;
    small = lawful.small;
    counted = λ f. let l = length-drop 1 new.store.pages in let n = lawful.counted f in let long = o.length in omega (arith, l, n, there, counts, long);
  }

  stored_rest : (n : ℕ) → 0 < n → stored_payload whole n ≡ payload_of j n
  unfolding stored_payload sealed_payload page_of
  stored_rest zero h = absurd (omega (arith, h))
  stored_rest (suc n) h =
      ap (option_and_then (unsealed (suc n)))
      (ap (λ (pages : List (List ℕ)). slice_get (drop 1 pages) n) (sym all) ∙ ap (λ (pages : List (List ℕ)). slice_get pages n) (o.written faithful but.clean) ∙ sym (behind_first (pages_as_written j) n))
      ∙ sym (but.settled faithful (suc n) (but.clean (suc n) (omega arith)))

  stored_first : stored_payload whole 0 ≡ Some (finished header)
  unfolding stored_payload
  stored_first = unsealed-sealed 0 (finished header)

  pub finishes_but_first : Finishes j whole
  finishes_but_first = record { length = o.length; header = header; was = is; first = stored_first; rest = stored_rest }

-- so the store would hold the book with a page 0 that says that it is finished
module _ (states : StateLaw) (c : CatalogueView) (j : IndexView) (book : Book) (new : Cache) (saved : IsSavedOf c book j)
    (header : Payload) (is : payload_of j.cache 0 ≡ Some header) (unfinished : IsUnfinished header)
    (but : IsWrittenButFirst j.cache) (there : 0 < j.cache.count) (o : KeepsOthers j.cache new) (stored : IsLawful new.store) (synced : IsSyncedButFirst new.store) where
  pub behind_holds : HoldsButFirst new.store j.tree.shape c.limits book
  behind_holds =
      let sound = saved.sound in
      let finishes = finishes_but_first j.cache new but sound.faithful there sound.count o stored header is in
      let fine = whole_lawful j.cache new but sound.faithful there sound.count o stored header is in
      record {
        whole = finished_store new.store header;
        holds = closed_holds states c j book (finished_store new.store header) saved header is unfinished finishes fine o.store.faithful;
        count = refl;
        others = refl;
        synced = synced;
      }
