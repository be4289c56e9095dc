-- A store that is closed.
use Rattle.std.proofs.Common.{ℕ, suc, ◌≡◌, ◌<◌, ◌≤◌, ◌==◌, ◌+◌, true, false, Bool, cond, ◌⊎◌, inl, inr, ⊎_elim, List, [], ◌∷◌, map, length, get_or, refl, sym, ap, ◌∙◌, arith, subst, Option, Some, None, option_map, slice_get, unwrap_or, ◌≢◌}
use Rattle.std.specs.Prelude.{All, AllPairs, fold, sum_by, count_by, if◌then◌else◌, ℤ, pos}
use Rattle.std.specs.List.{range_with_len}
use Rattle.std.proofs.lemmas.Bool.{cases_lt}
use Rattle.std.proofs.lemmas.List.FromFn.{length-map-range_with_len, get_or-map-range_with_len}
use Rattle.std.proofs.lemmas.List.Sums.{sum_by-cons}
use Rattle.std.proofs.lemmas.Option.{get_or_from_slice_get, slice_get-get_or, slice_get_within, unwrap_or-slice_get}
use Rattle.timebase.specs.Instant.{IsMoment}
use Rattle.legs.specs.Book.{Book}
use Rattle.legs.specs.Index.{feature_count, is_of, last_end}
use Rattle.legs.specs.Law.{IsName}
use Rattle.legs.specs.Legs.{IsLeg, LegView}
use Rattle.legs.specs.Places.{no_leg}
use Rattle.legs.specs.declared.head.BookHead.{BookHead}
use Rattle.legs.specs.declared.tracks.Track.{Track}
use Rattle.pages.specs.Store.{IsLawful, Store}
use Rattle.pages.specs.declared.payload.Payload.{Payload}
use Rattle.pagecache.specs.Cache.{fresh, payload_of, stored_payload, Cache, IsSettled}
use Rattle.tbnode.specs.Form.{node_of}
use Rattle.tbtree.specs.Descent.{node_in}
use Rattle.tbtree.specs.Stands.{no_place}
use Rattle.tbtree.specs.declared.tree.Place.{Place}
use Rattle.boxsearch.specs.Beside.{with_cache}
use Rattle.boxsearch.specs.Index.{content, IndexView, IsMarked, IsSoundIndex}
use Rattle.header.specs.Front.{finished, IsUnfinished, SaysState}
use Rattle.header.proofs.FrontLemmas.{begins_unfinished}
use Rattle.catalogue.specs.Finishing.{Finishes}
use Rattle.catalogue.specs.Holding.{HoldsBook, IsOfBook}
use Rattle.register.specs.Lasting.{payload_fault, tracks_of, IsKept, IsLawfulCatalogue, IsLawfulFeature, IsWithin, Says}
use Rattle.register.specs.Saved.{CatalogueView, KeepsFront}
use Rattle.register.specs.Saving.{contents_of, end_of, feature_at, features_of, HasFew, IsCatalogue}
use Rattle.register.specs.Text.{IsWhole}
use Rattle.register.specs.declared.contents.Feature.{Feature}
use Rattle.catalogue.proofs.OpenLemmas.{fresh_payload}
use Rattle.catalogue.proofs.ResultLemmas.{map_range, none_some, some_none, some_same}
use Rattle.catalogue.proofs.RestLemmas.{book_held, StateLaw}
use Rattle.catalogue.proofs.StateLemmas.{finished_header}
use Rattle.boxsearch.proofs.BoundLemmas.{all_counted, bounded, place_counts, IsBounded}
use Rattle.boxsearch.proofs.StartLemmas.{beside_content, beside_sound, IsBeside}

map_both : {X Y Z : Type 0} (g : Y → Z) (f : X → Y) (xs : List X) → map g (map f xs) ≡ map (λ x. g (f x)) xs
map_both g f [] = refl
map_both g f (x ∷ xs) = let rest = map_both g f xs in λ i. g (f x) ∷ rest i

map_from : {V : Type 0} (f : ℕ → V) (xs : List V) → ((k : ℕ) (x : V) → slice_get xs k ≡ Some x → f k ≡ x) → map f (range_with_len 0 (length xs)) ≡ xs
map_from f xs h = map_range f xs 0 (λ k x e. ap f (let z : 0 + k ≡ k = omega arith in z) ∙ h k x e)

All_from : {V : Type 0} (P : V → Type 0) (f : ℕ → V) (n : ℕ) → ((k : ℕ) → k < n → P (f k)) → All P (map f (range_with_len 0 n))
All_from P f n h k d l =
    let inside : k < n = let e = length-map-range_with_len f 0 n in omega (arith, e, l) in
    subst P (sym (get_or-map-range_with_len f 0 n k k d inside (omega arith))) (h k inside)

sum_by_map : {X Y : Type 0} (g : Y → ℕ) (f : X → Y) (xs : List X) → sum_by g (map f xs) ≡ sum_by (λ x. g (f x)) xs
sum_by_map g f [] = refl
sum_by_map g f (x ∷ xs) = sum_by-cons g (f x) (map f xs) ∙ ap (λ n. g (f x) + n) (sum_by_map g f xs) ∙ sym (sum_by-cons (λ y. g (f y)) x xs)

nothing : {X : Type 0} (xs : List X) → length xs ≡ 0 → xs ≡ []
nothing [] e = refl
nothing (x ∷ xs) e = absurd (omega (arith, e))

-- the last leg of a feature ends at a moment
step_moment : (b : Bool) (leg : LegView) (end : Option ℤ) → IsLeg leg → ((e : ℤ) → end ≡ Some e → IsMoment e) → (e : ℤ) → (if b then Some leg.t1 else end) ≡ Some e → IsMoment e
step_moment true leg end is h e same = subst IsMoment (some_same leg.t1 e same) is.t1
step_moment false leg end is h e same = h e same

ends : (feature : ℕ) (legs : List LegView) (end : Option ℤ) → All IsLeg legs → ((e : ℤ) → end ≡ Some e → IsMoment e) → (e : ℤ) → fold (λ end leg. if leg.feature == feature then Some leg.t1 else end) end legs ≡ Some e → IsMoment e
ends feature [] end all h e same = h e same
ends feature (leg ∷ legs) end all h e same =
    ends feature legs (if leg.feature == feature then Some leg.t1 else end) (λ k d l. all (suc k) d (omega (arith, l)))
    (step_moment (leg.feature == feature) leg end (all 0 leg (omega arith)) h) e same

last_end_moment : (feature : ℕ) (legs : List LegView) → All IsLeg legs → (e : ℤ) → last_end feature legs ≡ Some e → IsMoment e
last_end_moment feature legs all e same = ends feature legs None all (λ e none. absurd (none_some none)) e same

-- a feature that has an end has a leg
either_counted : (f : ℕ) (legs : List LegView) (d : Option ℤ) → (fold (λ end leg. if leg.feature == f then Some leg.t1 else end) d legs ≡ d) ⊎ (0 < count_by (is_of f) legs)
either_counted f [] d = inl refl
either_counted f (leg ∷ legs) d =
    let sum = sum_by-cons (λ leg. cond (is_of f leg) 1 0) leg legs in
    (elim (leg.feature == f) as (λ b. count_by (is_of f) (leg ∷ legs) ≡ cond b 1 0 + count_by (is_of f) legs
    → (fold (λ end leg. if leg.feature == f then Some leg.t1 else end) (cond b (Some leg.t1) d) legs ≡ d) ⊎ (0 < count_by (is_of f) (leg ∷ legs))) [
      | true ↦ λ n. inr (omega (arith, n))
      | false ↦ λ n. ⊎_elim
          (λ (same : fold (λ end leg. if leg.feature == f then Some leg.t1 else end) d legs ≡ d). inl same)
          (λ (some : 0 < count_by (is_of f) legs). inr (omega (arith, n, some)))
          (either_counted f legs d)
    ]) sum

ended_some : (f : ℕ) (legs : List LegView) (e : ℤ) → last_end f legs ≡ Some e → 0 < count_by (is_of f) legs
ended_some f legs e is = ⊎_elim
    (λ (none : last_end f legs ≡ None). absurd (none_some (sym none ∙ is)))
    (λ (some : 0 < count_by (is_of f) legs). some)
    (either_counted f legs None)

-- the catalogue of a book has few features and rows
module _ (c : CatalogueView) (book : Book) (of : IsOfBook c.limits book c) where
  names_same : length c.tracks.names ≡ length book.names
  names_same = ap length of.tracks.names

  pub of_few : HasFew c
  of_few = record {
    features = let n = names_same in let f = of.tracks.lawful.few_names in omega (arith, n, f);
    rows = let r = ap length of.rows in let f = of.tracks.lawful.few_legs in let l = of.law.ordered.few_rows in omega (arith, r, f, l);
  }

  pub of_catalogue : IsCatalogue c
  of_catalogue = record {
    few = of_few;
    rows = λ head e. subst (λ rows. All (λ row. length row ≡ length head.columns) rows) (sym of.rows) (of.law.rows head (sym of.head ∙ e));
  }

-- a sound index with the catalogue of its book is lawful
module _ (c : CatalogueView) (i : IndexView) (book : Book) (sound : IsSoundIndex i) (of : IsOfBook c.limits book c) (legs : content i ≡ book.legs)
    (dated : (head : BookHead) → c.head ≡ Some head → IsMoment head.base) where
  abbrev n : ℕ
  n = length c.tracks.names

  abbrev fs : List Feature
  fs = features_of c.tracks i.places

  limits : IsBounded i
  limits = bounded i sound (let f = of.tracks.lawful.few_legs in let l = ap length legs in omega (arith, f, l))

  paired : length c.tracks.tracks ≡ n
  paired = of.tracks.paired ∙ sym (ap length of.tracks.names)

  placed : length i.places ≡ n
  placed = sound.features ∙ ap feature_count legs ∙ of.law.ordered.numbered ∙ sym (ap length of.tracks.names)

  all_legs : All IsLeg book.legs
  all_legs = subst (All IsLeg) legs sound.lawful

  names_are : map (λ (f : Feature). f.name) fs ≡ c.tracks.names
  unfolding feature_at
  names_are =
      map_both (λ (f : Feature). f.name) (feature_at c.tracks i.places) (range_with_len 0 n)
      ∙ map_from (λ k. unwrap_or (slice_get c.tracks.names k) []) c.tracks.names (λ k x e. ap (λ o. unwrap_or o []) e)

  places_are : map (λ (f : Feature). f.kept.place) fs ≡ i.places
  unfolding feature_at
  places_are =
      map_both (λ (f : Feature). f.kept.place) (feature_at c.tracks i.places) (range_with_len 0 n)
      ∙ ap (λ m. map (λ k. unwrap_or (slice_get i.places k) no_place) (range_with_len 0 m)) (sym placed)
      ∙ map_from (λ k. unwrap_or (slice_get i.places k) no_place) i.places (λ k x e. ap (λ o. unwrap_or o no_place) e)

  abbrev track_at : ℕ → Track
  track_at k = record { end = end_of (slice_get c.tracks.tracks k); legs = (unwrap_or (slice_get i.places k) no_place).legs }

  track_is : (k : ℕ) (t : Track) → slice_get c.tracks.tracks k ≡ Some t → track_at k ≡ t
  track_is k t e =
      let inside : k < n = let l = slice_get_within c.tracks.tracks k t e in let p = paired in omega (arith, l, p) in
      let at : slice_get i.places k ≡ Some (get_or i.places k no_place) = slice_get-get_or i.places k no_place (let p = placed in omega (arith, inside, p)) in
      let here : get_or c.tracks.tracks k t ≡ t = get_or_from_slice_get c.tracks.tracks k t t e in
      let counted = (of.tracks.each k t (let s = names_same c book of in omega (arith, inside, s))).count in
      let end = ap end_of e in
      let long : (unwrap_or (slice_get i.places k) no_place).legs ≡ t.legs =
      ap (λ (o : Option Place). (unwrap_or o no_place).legs) at ∙ place_counts i sound k (get_or i.places k no_place) at ∙ ap (count_by (is_of k)) legs
      ∙ counted ∙ ap (λ (x : Track). x.legs) here in
      (λ j. record { end = end j; legs = long j })

  tracks_same : map (λ (f : Feature). record { end = f.kept.end; legs = f.kept.place.legs }) fs ≡ c.tracks.tracks
  unfolding feature_at
  tracks_same =
      map_both (λ (f : Feature). record { end = f.kept.end; legs = f.kept.place.legs }) (feature_at c.tracks i.places) (range_with_len 0 n)
      ∙ ap (λ m. map track_at (range_with_len 0 m)) (sym paired)
      ∙ map_from track_at c.tracks.tracks track_is

  legs_same : sum_by (λ (f : Feature). f.kept.place.legs) fs ≡ c.tracks.legs
  legs_same =
      sym (sum_by_map (λ (p : Place). p.legs) (λ (f : Feature). f.kept.place) fs) ∙ ap (sum_by (λ (p : Place). p.legs)) places_are
      ∙ all_counted i sound ∙ ap length legs ∙ sym of.tracks.legs

  tracks_are : c.tracks ≡ tracks_of fs (length c.rows)
  tracks_are =
      let names = sym names_are in
      let tracks = sym tracks_same in
      let sum = sym legs_same in
      let rows = of.tracks.rows ∙ sym (ap length of.rows) in
      (λ j. record { names = names j; tracks = tracks j; legs = sum j; rows = rows j })

  fs_length : length fs ≡ n
  fs_length = length-map-range_with_len (feature_at c.tracks i.places) 0 n

  lawful_at : (k : ℕ) → k < n → IsLawfulFeature i.cache.count (feature_at c.tracks i.places k)
  unfolding feature_at
  lawful_at k l =
      let nowhere : Track = record { end = pos 0; legs = 0 } in
      let there : k < length book.names = let s = names_same c book of in omega (arith, l, s) in
      let track = of.tracks.each k nowhere there in
      let end : end_of (slice_get c.tracks.tracks k) ≡ (get_or c.tracks.tracks k nowhere).end =
      ap end_of (slice_get-get_or c.tracks.tracks k nowhere (let p = paired in omega (arith, l, p))) in
      let place = limits.places k no_place (let p = placed in omega (arith, l, p)) in
      let at = sym (unwrap_or-slice_get i.places k no_place) in
      record {
        name = subst IsName (sym (unwrap_or-slice_get c.tracks.names k [])) (subst (All IsName) (sym of.tracks.names) of.law.ordered.names k [] l);
        some = subst (λ (p : Place). 0 < p.legs) at (let n = place_counts i sound k (get_or i.places k no_place) (slice_get-get_or i.places k no_place (let p = placed in omega (arith, l, p))) ∙ ap (count_by (is_of k)) legs in let some = ended_some k book.legs _ track.end in omega (arith, n, some));
        end = subst IsMoment (sym end) (last_end_moment k book.legs all_legs (get_or c.tracks.tracks k nowhere).end track.end);
        first = subst (λ (p : Place). p.first < i.cache.count) at place.0;
        last = subst (λ (p : Place). p.last < i.cache.count) at place.1;
      }

  pub of_lawful : IsLawfulCatalogue i.cache.count c i.places
  of_lawful = record {
    features = fs;
    tracks_are = tracks_are;
    places_are = sym places_are;
    each = All_from (IsLawfulFeature i.cache.count) (feature_at c.tracks i.places) n lawful_at;
    apart = subst (AllPairs (λ a b. a ≢ b)) (sym (names_are ∙ of.tracks.names)) of.law.ordered.distinct;
    few_features = let l = fs_length in let s = names_same c book of in let f = of.law.ordered.few_features in omega (arith, l, s, f);
    few_legs = let l = of.tracks.legs in let f = of.law.ordered.few_legs in omega (arith, l, f);
    few_rows = let l = of.tracks.legs in let r = ap length of.rows in let f = of.law.ordered.few_rows in omega (arith, l, r, f);
    some_row = λ some. let l = of.tracks.legs in let r = ap length of.rows in let row = of.tracks.lawful.rows 0 no_leg (omega (arith, l, some)) in omega (arith, r, row);
    none = λ e. nothing fs (fs_length ∙ names_same c book of ∙ ap (λ (b : Book). length b.names) (of.law.none (sym of.head ∙ e)));
    base = dated;
  }

  pub of_within : IsWithin i.cache.count i.tree
  of_within = record { root = limits.root; leaves = limits.leaves; levels = limits.levels }

-- a marked page 0 that begins as it did
module _ (a b : Cache) (m : IsMarked a) (settled : IsSettled a) (front : KeepsFront a b) where
  was_is : front.was ≡ m.payload
  was_is = some_same front.was m.payload (sym front.before ∙ settled m.faithful 0 m.unchanged ∙ m.sealed)

  pub front_unfinished : IsUnfinished front.payload
  front_unfinished = begins_unfinished front.was front.payload front.kind front.front (subst IsUnfinished (sym was_is) m.unfinished)

  pub front_says : SaysState true (payload_of b 0)
  front_says = record { payload = front.payload; is = front.is; state = front_unfinished }

-- a saved index that is of a book
pub record IsSavedOf (c : CatalogueView) (book : Book) (i : IndexView) : Type 0 where
  pub sound : IsSoundIndex i
  pub of : IsOfBook c.limits book c
  pub legs : content i ≡ book.legs
  pub lawful : IsLawfulCatalogue i.cache.count c i.places
  pub within : IsWithin i.cache.count i.tree
  pub says : Says (payload_of i.cache) i.cache.count c i.tree i.places
  pub whole : IsWhole (contents_of c i.places)

-- a catalogue is kept beside the tree of an index
pub saved_of : (c : CatalogueView) (i : IndexView) (book : Book) (b : Cache) → IsBeside i.cache b → ((head : BookHead) → c.head ≡ Some head → IsMoment head.base) → IsSoundIndex i → IsOfBook c.limits book c → content i ≡ book.legs
    → Says (payload_of b) b.count c i.tree i.places → IsWhole (contents_of c i.places) → IsSavedOf c book (with_cache i b [])
saved_of c i book b beside dated was of was_legs says whole =
    let j = with_cache i b [] in
    let sound = beside_sound i b [] beside was in
    let legs = beside_content i b [] beside ∙ was_legs in
    record {
      sound = sound;
      of = of;
      legs = legs;
      lawful = of_lawful c j book sound of legs dated;
      within = of_within c j book sound of legs dated;
      says = says;
      whole = whole;
    }

-- a saved index that is finished is held by its store
module _ (states : StateLaw) (c : CatalogueView) (i : IndexView) (book : Book) (s : Store) (saved : IsSavedOf c book i)
    (header : Payload) (is : payload_of i.cache 0 ≡ Some header) (unfinished : IsUnfinished header)
    (f : Finishes i.cache s) (stored : IsLawful s) (faithful : s.is_faithful ≡ i.cache.store.is_faithful) where
  was_unfinished : IsUnfinished f.header
  was_unfinished = subst IsUnfinished (some_same header f.header (sym is ∙ f.was)) unfinished

  count : i.cache.count ≡ s.count
  count = saved.sound.count ∙ sym f.length

  kept : IsKept (stored_payload s) s.count c i.tree i.places
  kept = record {
    says = subst (λ n. Says (stored_payload s) n c i.tree i.places) count
        (states (payload_of i.cache) (stored_payload s) f.header 1 f.rest f.was f.first was_unfinished.kind i.cache.count c i.tree i.places saved.says);
    whole = saved.whole;
    finished = ap payload_fault f.first ∙ finished_header f.header was_unfinished;
    within = subst (λ n. IsWithin n i.tree) count saved.within;
    works = saved.sound.works;
    lawful = subst (λ n. IsLawfulCatalogue n c i.places) count saved.lawful;
  }

  at_fresh : (p : ℕ) → payload_of (fresh s 1) p ≡ stored_payload s p
  at_fresh p = fresh_payload s 1 stored (faithful ∙ saved.sound.faithful) p

  other : (p : ℕ) → 0 < p → payload_of (fresh s 1) p ≡ payload_of i.cache p
  other p h = at_fresh p ∙ f.rest p h

  beside : IsBeside i.cache (fresh s 1)
  beside = record {
    faithful = faithful;
    length = λ e. refl;
    tree = λ _. record {
      count = let n = count in omega (arith, n);
      held = λ p l e. (
        (let n = count in omega (arith, n, l)),
        ⊎_elim
            (λ (h : 0 < p). ap (option_map node_of) (sym (other p h)) ∙ e)
            (λ (h : p ≤ 0). let z : 0 ≡ p = omega (arith, h) in
            absurd (some_none (node_of (finished f.header)) (sym (ap (option_map node_of) (at_fresh 0 ∙ f.first)) ∙ ap (λ k. option_map node_of (payload_of (fresh s 1) k)) z ∙ e)))
            (cases_lt 0 p),
      );
      rest = λ p h. ap (λ o. node_in (option_map node_of o)) (other p h);
    };
  }

  pub closed_holds : HoldsBook s i.tree.shape c.limits book
  closed_holds = book_held c i book s kept beside saved.sound saved.of saved.legs
