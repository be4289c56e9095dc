-- What a reading call leaves of an index over pages.
use Rattle.std.proofs.Common.{Bool, ◌≡◌, ◌<◌, refl, sym, ap, ◌∙◌, arith, subst, true, false, [], IsTrue, All, length, option_and_then, cond, List}
use Rattle.std.proofs.lemmas.Int.{clamps}
use Rattle.legs.specs.Asking.{Leaves}
use Rattle.legs.specs.Boxes.{BoxView}
use Rattle.legs.specs.Index.{feature_count}
use Rattle.legs.specs.Legs.{IsLeg}
use Rattle.pagecache.specs.Cache.{Cache, IsClean, is_changed, pages_as_written, sealed_payload}
use Rattle.pages.specs.Unsealed.{unsealed}
use Rattle.chains.specs.Reads.{OnlyReads}
use Rattle.tbtree.specs.Descent.{content_of, found_legs}
use Rattle.tbtree.specs.Insert.{Stands, IsPlace}
use Rattle.tbtree.specs.Nodes.{pages_of_cache}
use Rattle.chains.specs.declared.spans.LeafSpan.{LeafSpan}
use Rattle.boxsearch.specs.Beside.{with_cache}
use Rattle.boxsearch.proofs.SameLemmas.{same_pages}
use Rattle.boxsearch.specs.Telling.{Tells, Denies}
use Rattle.boxsearch.specs.Index.{IndexView, words, content, found_by, legs_by, written, IsSoundIndex, IsMarked}

pub content_is : (i : IndexView) → IsTrue i.cache.store.is_faithful → content i ≡ content_of (pages_of_cache i.cache) i.tree
content_is i f = ap (λ b. cond b (content_of (pages_of_cache i.cache) i.tree) []) f

module _ (old : IndexView) (c : Cache) (known : List (List LeafSpan)) (r : OnlyReads old.cache c) where
  abbrev new : IndexView
  new = with_cache old c known

  same_found : (meets : BoxView → Bool) → legs_by meets new ≡ legs_by meets old
  same_found meets =
      ap (λ b. cond b (found_legs meets (pages_of_cache c) old.tree) []) r.store.faithful ∙
      (elim old.cache.store.is_faithful as (λ b. old.cache.store.is_faithful ≡ b → cond b (found_legs meets (pages_of_cache c) old.tree) [] ≡ cond b (found_legs meets (pages_of_cache old.cache) old.tree) []) [
        | true ↦ λ f. ap (λ n. found_legs meets n old.tree) (same_pages old.cache c r f)
        | false ↦ λ f. refl
      ]) refl

  same_content : content new ≡ content old
  same_content = same_found (λ _. true)

  same_written : IsClean old.cache → written new ≡ written old
  same_written clean =
      ap (λ b. cond b (pages_as_written c) []) r.store.faithful ∙
      (elim old.cache.store.is_faithful as (λ b. old.cache.store.is_faithful ≡ b → cond b (pages_as_written c) [] ≡ cond b (pages_as_written old.cache) []) [
        | true ↦ λ f. r.unwritten.clean f clean
        | false ↦ λ f. refl
      ]) refl

  still_sound : IsSoundIndex old → IsSoundIndex new
  still_sound s =
      let nodes = same_pages old.cache c r s.faithful in
      let legs = same_content in
      record {
        faithful = r.store.faithful ∙ s.faithful;
        works = s.works;
        shape = s.shape;
        count = r.count ∙ s.count ∙ sym r.length;
        pages = s.pages;
        stands = subst (λ l. Stands (pages_of_cache c) old.tree l s.pages) (sym legs) (subst (λ n. Stands n old.tree (content old) s.pages) (sym nodes) s.stands);
        lawful = subst (λ l. All IsLeg l) (sym legs) s.lawful;
        counted = s.counted ∙ sym (ap length legs);
        features = s.features ∙ sym (ap feature_count legs);
        placed = λ f place e. subst (λ l. IsPlace old.tree l s.pages f place) (sym legs) (s.placed f place e);
      }

  same_page : IsTrue old.cache.store.is_faithful → 0 < old.cache.count → is_changed old.cache 0 ≡ false → sealed_payload c 0 ≡ sealed_payload old.cache 0
  unfolding sealed_payload
  same_page f h u = ap (option_and_then (unsealed 0)) (r.written f 0 h u)

  still_marked : IsMarked old.cache → IsMarked c
  still_marked m = record {
    faithful = r.store.faithful ∙ m.faithful;
    there = (let a = m.there in let b = r.count in omega (arith, a, b));
    unchanged = r.changed 0 m.unchanged;
    payload = m.payload;
    sealed = same_page m.faithful m.there m.unchanged ∙ m.sealed;
    unfinished = m.unfinished;
  }

  pub reads_leave : Leaves words old new
  reads_leave = record {
    content = same_content;
    told = λ q legs h f. subst (λ n. Tells n old.tree old.places q legs) (same_pages old.cache c r f) (h (r.store.faithful ∙ f));
    denied = λ q page h f. subst (λ n. Denies n old.tree old.places q page) (same_pages old.cache c r f) (h (r.store.faithful ∙ f));
    sound = still_sound;
    spent = refl;
    found_by = ap (λ n. record (found_by old) { pages = n }) r.count;
    later = record { plan = refl; faults = r.store.faults; asked = (let a = r.asked in omega (arith, clamps, a)); faithful = λ fa. r.store.faithful ∙ fa };
    clean = λ h n. r.changed n (h n);
    marked = still_marked;
    written = same_written;
  }
