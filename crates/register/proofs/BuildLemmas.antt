-- A catalogue that is made of what its text says.
use Rattle.std.proofs.Common.{◌||◌, inl, inr, ℕ, zero, suc, ◌≡◌, ◌≢◌, ◌+◌, ◌-◌, ◌<◌, ◌≤◌, ◌^◌, ◌++◌, ◌∷◌, [], Bool, true, false, List, min, map, length, get_or, refl, sym, ap, ◌∙◌, arith, subst, IsTrue, Option, Some, None, nat_le}
use Rattle.std.proofs.lemmas.Bool.Decides.{nat_tests}
use Rattle.std.specs.Prelude.{All, AllPairs, sum_by, slice_get, bytes_eq, unwrap_or, option_map, ◌⊎◌}
use Rattle.std.specs.List.{list_any, range_with_len}
use Rattle.std.proofs.lemmas.Int.{clamps}
use Rattle.std.proofs.lemmas.List.{length-append, length-map, map-append}
use Rattle.std.proofs.Math.ListN.{get_or-append}
use Rattle.std.proofs.Math.Seq.{get_or-append_seam}
use Rattle.std.proofs.lemmas.List.Quantifiers.{all_pairs_push}
use Rattle.std.proofs.lemmas.List.Elements.{All-append}
use Rattle.std.proofs.lemmas.List.Sums.{sum_by-append}
use Rattle.std.proofs.lemmas.Option.{slice_get-map}
use Rattle.std.proofs.lemmas.Slice.Eq.{bytes_eq-Decides}
use Rattle.legs.specs.Tracks.{TracksView}
use Rattle.legs.specs.declared.head.BookHead.{BookHead}
use Rattle.legs.specs.declared.tracks.Track.{Track}
use Rattle.tbtree.specs.declared.tree.Place.{Place}
use Rattle.register.specs.Restoring.{capped, with_track, AddsFeature, AreLawful, IsKnown, IsOf}
use Rattle.register.specs.Lasting.{tracks_of, IsLawfulFeature}
use Rattle.register.specs.Saved.{dimensions_of, head_of, CatalogueView}
use Rattle.timebase.specs.Instant.{IsMoment}
use Rattle.header.specs.declared.header_fields.Fields.{Fields}
use Rattle.register.specs.Saving.{end_of, feature_at, features_of}
use Rattle.tbtree.specs.Stands.{no_place}
use Rattle.register.specs.Text.{leg_sum, AreFew}
use Rattle.register.specs.declared.building.Known.{Known}
use Rattle.register.specs.declared.contents.Contents.{Contents}
use Rattle.register.specs.declared.contents.Feature.{Feature}

-- a list that is made of the numbers of its places
pub map_range : {V : Type 0} (f : ℕ → V) (xs : List V) (a : ℕ) → ((k : ℕ) (x : V) → slice_get xs k ≡ Some x → f (a + k) ≡ x) → map f (range_with_len a (length xs)) ≡ xs
map_range f [] a h = refl
map_range f (x ∷ xs) a h =
    let first : f a ≡ x = ap f (let e : a ≡ a + 0 = omega arith in e) ∙ h 0 x refl in
    let rest = map_range f xs (a + 1) (λ k y e. ap f (let s : a + 1 + k ≡ a + suc k = omega arith in s) ∙ h (suc k) y e) in
    (λ i. first i ∷ rest i)

-- features, from their tracks and places
module _ (fs : List Feature) (rows : ℕ) where
  pub features_back : features_of (tracks_of fs rows) (map (λ f. f.kept.place) fs) ≡ fs
  unfolding feature_at
  features_back =
      let at : (k : ℕ) (x : Feature) → slice_get fs k ≡ Some x → feature_at (tracks_of fs rows) (map (λ f. f.kept.place) fs) k ≡ x = λ k x e.
      let names : slice_get (map (λ f. f.name) fs) k ≡ Some x.name = slice_get-map (λ f. f.name) fs k ∙ ap (option_map (λ f. f.name)) e in
      let places : slice_get (map (λ f. f.kept.place) fs) k ≡ Some x.kept.place = slice_get-map (λ f. f.kept.place) fs k ∙ ap (option_map (λ f. f.kept.place)) e in
      let track : Feature → Track = λ f. record { end = f.kept.end; legs = f.kept.place.legs } in
      let tracks : slice_get (map track fs) k ≡ Some (track x) = slice_get-map track fs k ∙ ap (option_map track) e in
      (λ i. record { name = unwrap_or (names i) []; kept = record { end = end_of (tracks i); place = unwrap_or (places i) no_place } }) in
      ap (λ n. map (feature_at (tracks_of fs rows) (map (λ f. f.kept.place) fs)) (range_with_len 0 n)) (length-map fs (λ f. f.name))
      ∙ map_range (feature_at (tracks_of fs rows) (map (λ f. f.kept.place) fs)) fs 0 (λ k x e. ap (feature_at (tracks_of fs rows) (map (λ f. f.kept.place) fs)) (let z : 0 + k ≡ k = omega arith in z) ∙ at k x e)

All-one : {X : Type 0} (P : X → Type 0) (x : X) → P x → All P (x ∷ [])
All-one P x p zero d h = p
All-one P x p (suc k) d h = absurd (omega arith)

either : (b : Bool) → (b ≡ true) ⊎ (b ≡ false)
either true = inl refl
either false = inr refl

-- a name that is there is not one of others
pub there_not : (names : List (List ℕ)) (name : List ℕ) → IsTrue (list_any (bytes_eq name) names) → All (λ n. n ≢ name) names → ⊥
there_not [] name there apart = (cc)
there_not (n ∷ ns) name there apart = elim (either (bytes_eq name n)) [
  | inl same ↦ apart 0 n (omega arith) (sym ((bytes_eq-Decides name n).0 same))
  | inr other ↦ there_not ns name (subst (λ b. IsTrue (b || list_any (bytes_eq name) ns)) other there) (λ k d h. apart (suc k) d (omega (arith, h)))
]

-- a feature more
pub known_more : (count : ℕ) (xs : List Feature) (x : Feature) (old new : Known) → IsKnown count xs old → AddsFeature count x old new → IsKnown count (xs ++ x ∷ []) new
known_more count xs x old new known adds = record {
  tracks = adds.tracks ∙ ap (λ t. with_track t x.name (record { end = x.kept.end; legs = x.kept.place.legs })) known.tracks
      ∙ (let names = sym (map-append (λ (f : Feature). f.name) xs (x ∷ [])) in
      let tracks = sym (map-append (λ (f : Feature). record { end = f.kept.end; legs = f.kept.place.legs }) xs (x ∷ [])) in
      let sum = sum_by-append (λ (f : Feature). f.kept.place.legs) xs (x ∷ []) in
      let legs : min (min (sum_by (λ (f : Feature). f.kept.place.legs) xs) (2 ^ 64 - 1) + x.kept.place.legs) (2 ^ 64 - 1) ≡ min (sum_by (λ (f : Feature). f.kept.place.legs) (xs ++ x ∷ [])) (2 ^ 64 - 1) = omega (arith, clamps, sum) in
      (λ i. record { names = names i; tracks = tracks i; legs = legs i; rows = 0 }));
  places = adds.places ∙ ap (λ l. l ++ x.kept.place ∷ []) known.places ∙ sym (map-append (λ (f : Feature). f.kept.place) xs (x ∷ []));
  lawful = record {
    each = All-append (IsLawfulFeature count) xs (x ∷ []) known.lawful.each (All-one (IsLawfulFeature count) x adds.lawful);
    apart = subst (λ l. AllPairs (λ a b. a ≢ b) l) (sym (map-append (λ (f : Feature). f.name) xs (x ∷ [])))
        (all_pairs_push (λ a b. a ≢ b) (map (λ f. f.name) xs) x.name known.lawful.apart (subst (λ (t : TracksView). All (λ n. n ≢ x.name) t.names) known.tracks adds.apart));
  };
}

-- what stands before another is not it
apart_front : (f : Feature → List ℕ) (xs : List Feature) (x : Feature) (rest : List Feature) → AllPairs (λ a b. a ≢ b) (map f (xs ++ x ∷ rest)) → (k : ℕ) (d : List ℕ) → k < length xs → get_or (map f xs) k d ≢ f x
apart_front f xs x rest pairs k d h =
    let all = length-map (xs ++ x ∷ rest) f in
    let l = length-append xs (x ∷ rest) in
    let lm = length-map xs f in
    let both = pairs k (length xs) d h (omega (arith, all, l)) in
    let split = map-append f xs (x ∷ rest) in
    let first : get_or (map f (xs ++ x ∷ rest)) k d ≡ get_or (map f xs) k d = ap (λ m. get_or m k d) split ∙ get_or-append (map f xs) (f x ∷ map f rest) d k (omega (arith, lm, h)) in
    let second : get_or (map f (xs ++ x ∷ rest)) (length xs) d ≡ f x = ap (λ m. get_or m (length xs) d) split ∙ ap (λ n. get_or (map f xs ++ f x ∷ map f rest) n d) (sym lm) ∙ get_or-append_seam (map f xs) (f x) (map f rest) d in
    λ same. both (first ∙ same ∙ sym second)

-- a feature that is not lawful, or has the name of another one, is not among lawful ones
pub known_not : (count : ℕ) (xs rest : List Feature) (x : Feature) (known : Known) → IsKnown count xs known → (IsLawfulFeature count x → All (λ n. n ≢ x.name) known.tracks.names → ⊥) → AreLawful count (xs ++ x ∷ rest) → ⊥
known_not count xs rest x known is refused all =
    let here : get_or (xs ++ x ∷ rest) (length xs) x ≡ x = get_or-append_seam xs x rest x in
    let inside : length xs < length (xs ++ x ∷ rest) = let l = length-append xs (x ∷ rest) in omega (arith, l) in
    refused (subst (λ f. IsLawfulFeature count f) here (all.each (length xs) x inside))
    (subst (λ (t : TracksView). All (λ n. n ≢ x.name) t.names) (sym is.tracks) (λ k d h. apart_front (λ f. f.name) xs x rest all.apart k d (let l = length-map xs (λ (f : Feature). f.name) in omega (arith, l, h))))

pub none_some : {X : Type 0} {x : X} → None ≡ Some x → ⊥
none_some e = (cc)

some_same : {X : Type 0} {x y : X} → Some x ≡ Some y → x ≡ y
some_same e = (cc)

pub some_or_none : {X : Type 0} (o : Option X) → (o ≡ None) ⊎ ((x : X) × (o ≡ Some x))
some_or_none None = inl refl
some_or_none (Some x) = inr (x, refl)

pub too_many : (a b : ℕ) → nat_le a b ≡ false → a ≤ b → ⊥
too_many a b e h = let l : b < a = grind (arith, nat_tests, e) in absurd (omega (arith, l, h))

pub no_more : (a b : ℕ) → nat_le a b ≡ true → a ≤ b
no_more a b e = grind (arith, nat_tests, e)

-- nothing is a lawful catalogue
pub empty_is : (count : ℕ) (fields : Fields) (c : CatalogueView) (places : List Place) → c.head ≡ None → c.limits ≡ fields.limits → fields.dimension ≡ 2 → c.tracks ≡ tracks_of [] 0 → c.rows ≡ [] → places ≡ [] → IsOf count fields None c places
empty_is count fields c places head limits two tracks rows none = record {
  contents_are = ap (option_map (λ h. record { head = head_of h; lists = record { features = features_of c.tracks places; rows = c.rows } })) head;
  limits = limits;
  dimension = ap dimensions_of head ∙ sym two;
  lawful = record {
    features = [];
    tracks_are = tracks ∙ ap (λ (l : List (List (List ℕ))). tracks_of [] (length l)) (sym rows);
    places_are = none;
    each = λ k d h. absurd (omega arith);
    apart = λ i j d h l. absurd (omega arith);
    few_features = omega arith;
    few_legs = let l = ap (λ (t : TracksView). t.legs) tracks in omega (arith, l);
    few_rows = let l = ap length rows in omega (arith, l);
    some_row = λ some. absurd (let l = ap (λ (t : TracksView). t.legs) tracks in omega (arith, l, some));
    none = λ e. refl;
    base = λ h e. absurd (none_some (sym head ∙ e));
  };
}

-- what a lawful catalogue of contents has
module _ (count : ℕ) (fields : Fields) (contents : Contents) (c : CatalogueView) (places : List Place) (of : IsOf count fields (Some contents) c places) where
  pub of_features : features_of c.tracks places ≡ of.lawful.features
  of_features = (λ i. features_of (of.lawful.tracks_are i) (of.lawful.places_are i)) ∙ features_back of.lawful.features (length c.rows)

  pub of_contents : (h : BookHead) × (c.head ≡ Some h) × (record { head = head_of h; lists = record { features = of.lawful.features; rows = c.rows } } ≡ contents)
  of_contents = elim (some_or_none c.head) [
    | inl none ↦ absurd (none_some (sym (ap (option_map (λ h. record { head = head_of h; lists = record { features = features_of c.tracks places; rows = c.rows } })) none) ∙ of.contents_are))
    | inr some ↦ (
      some.0,
      some.1,
      ap (λ fs. record { head = head_of some.0; lists = record { features = fs; rows = c.rows } }) (sym of_features)
          ∙ some_same (sym (ap (option_map (λ h. record { head = head_of h; lists = record { features = features_of c.tracks places; rows = c.rows } })) some.1) ∙ of.contents_are),
    )
  ]

  pub of_lawful : AreLawful count contents.lists.features
  of_lawful = subst (λ l. AreLawful count l) (ap (λ (k : Contents). k.lists.features) of_contents.2) (record { each = of.lawful.each; apart = of.lawful.apart })

  -- the features are no more than the limits, and the rows no more than the legs
  pub of_few : (tracks : TracksView) → tracks ≡ capped (tracks_of contents.lists.features 0) → (length tracks.names ≤ fields.limits.features) × (tracks.legs ≤ fields.limits.legs)
  of_few tracks is =
      let fs = ap (λ (k : Contents). k.lists.features) of_contents.2 in
      let names = ap (λ (t : TracksView). length t.names) is ∙ length-map contents.lists.features (λ (f : Feature). f.name) ∙ ap length (sym fs) in
      let legs = ap (λ (t : TracksView). t.legs) is in
      let sum : c.tracks.legs ≡ sum_by (λ (f : Feature). f.kept.place.legs) contents.lists.features = ap (λ (t : TracksView). t.legs) of.lawful.tracks_are ∙ ap (sum_by (λ (f : Feature). f.kept.place.legs)) fs in
      let features = ap (λ l. l.features) of.limits in
      let most = ap (λ l. l.legs) of.limits in
      let few = of.lawful.few_features in
      let least = of.lawful.few_legs in
      (omega (arith, names, features, few), omega (arith, clamps, legs, sum, most, least))

  pub of_rows : (tracks : TracksView) → tracks ≡ capped (tracks_of contents.lists.features 0) → fields.limits.legs < 2 ^ 64 - 1 → length contents.lists.rows ≤ tracks.legs
  of_rows tracks is most =
      let fs = ap (λ (k : Contents). k.lists.features) of_contents.2 in
      let rows = ap (λ (k : Contents). length k.lists.rows) of_contents.2 in
      let legs = ap (λ (t : TracksView). t.legs) is in
      let sum : c.tracks.legs ≡ sum_by (λ (f : Feature). f.kept.place.legs) contents.lists.features = ap (λ (t : TracksView). t.legs) of.lawful.tracks_are ∙ ap (sum_by (λ (f : Feature). f.kept.place.legs)) fs in
      let few = of.lawful.few_rows in
      let least = of.lawful.few_legs in
      let limit = ap (λ l. l.legs) of.limits in
      omega (arith, clamps, rows, legs, sum, few, least, limit, most)

-- where there is a leg there is a row
pub of_some_row : (count : ℕ) (fields : Fields) (contents : Contents) (c : CatalogueView) (places : List Place) → IsOf count fields (Some contents) c places → (tracks : TracksView) → tracks ≡ capped (tracks_of contents.lists.features 0) → 0 < tracks.legs → 0 < length contents.lists.rows
of_some_row count fields contents c places of tracks is some =
    let same = (of_contents count fields contents c places of).2 in
    let fs = ap (λ (k : Contents). k.lists.features) same in
    let rows = ap (λ (k : Contents). length k.lists.rows) same in
    let legs = ap (λ (t : TracksView). t.legs) is in
    let sum : c.tracks.legs ≡ sum_by (λ (f : Feature). f.kept.place.legs) contents.lists.features = ap (λ (t : TracksView). t.legs) of.lawful.tracks_are ∙ ap (sum_by (λ (f : Feature). f.kept.place.legs)) fs in
    let row = of.lawful.some_row (omega (arith, clamps, legs, sum, some)) in
    omega (arith, rows, row)

-- a lawful catalogue has no more legs than the limit, and no more rows than legs, and so have the contents that it is of
pub contents_few : (count : ℕ) (fields : Fields) (contents : Option Contents) (c : CatalogueView) (places : List Place) → IsOf count fields contents c places → AreFew fields.limits.legs contents
contents_few count fields None c places of = tt
contents_few count fields (Some contents) c places of =
    let same = (of_contents count fields contents c places of).2 in
    let fs = ap (λ (k : Contents). k.lists.features) same in
    let rows = ap (λ (k : Contents). length k.lists.rows) same in
    let sum : c.tracks.legs ≡ leg_sum contents.lists.features = ap (λ (t : TracksView). t.legs) of.lawful.tracks_are ∙ ap leg_sum fs in
    let few = of.lawful.few_rows in
    let most = of.lawful.few_legs in
    let limit = ap (λ l. l.legs) of.limits in
    record { legs = omega (arith, sum, most, limit); rows = omega (arith, rows, sum, few) }

-- a lawful catalogue of contents
pub whole_is : (count : ℕ) (fields : Fields) (contents : Contents) (c : CatalogueView) (places : List Place) (known : Known) (h : BookHead)
    → IsKnown count contents.lists.features known → IsMoment h.base → head_of h ≡ contents.head → dimensions_of (Some h) ≡ fields.dimension
    → length known.tracks.names ≤ fields.limits.features → known.tracks.legs ≤ fields.limits.legs → fields.limits.legs < 2 ^ 64 - 1 → length contents.lists.rows ≤ known.tracks.legs → (0 < known.tracks.legs → 0 < length contents.lists.rows)
    → c.head ≡ Some h → c.limits ≡ fields.limits → c.tracks ≡ record known.tracks { rows = length contents.lists.rows } → c.rows ≡ contents.lists.rows → places ≡ known.places.items
    → IsOf count fields (Some contents) c places
whole_is count fields contents c places known h is base of_h dimension few_names few_legs most few_rows some_row head limits tracks rows place =
    let fs = contents.lists.features in
    let legs : known.tracks.legs ≡ sum_by (λ (f : Feature). f.kept.place.legs) fs = let l = ap (λ (t : TracksView). t.legs) is.tracks in omega (arith, clamps, l, few_legs, most) in
    let uncapped : capped (tracks_of fs 0) ≡ tracks_of fs 0 = let l = sym (ap (λ (t : TracksView). t.legs) is.tracks) ∙ legs in (λ i. record (tracks_of fs 0) { legs = l i }) in
    let all : c.tracks ≡ tracks_of fs (length c.rows) = tracks ∙ ap (λ (t : TracksView). record t { rows = length contents.lists.rows }) (is.tracks ∙ uncapped) ∙ ap (λ (l : List (List (List ℕ))). tracks_of fs (length l)) (sym rows) in
    let put = place ∙ is.places in
    let same : features_of c.tracks places ≡ fs = (λ i. features_of (all i) (put i)) ∙ features_back fs (length c.rows) in
    record {
      contents_are = ap (option_map (λ k. record { head = head_of k; lists = record { features = features_of c.tracks places; rows = c.rows } })) head
          ∙ (λ i. Some (record { head = of_h i; lists = record { features = same i; rows = rows i } }));
      limits = limits;
      dimension = ap dimensions_of head ∙ dimension;
      lawful = record {
        features = fs;
        tracks_are = all;
        places_are = put;
        each = is.lawful.each;
        apart = is.lawful.apart;
        few_features = let n = ap (λ (t : TracksView). length t.names) is.tracks ∙ length-map fs (λ (f : Feature). f.name) in let f = ap (λ l. l.features) limits in omega (arith, n, f, few_names);
        few_legs = let l = ap (λ (t : TracksView). t.legs) tracks in let f = ap (λ l. l.legs) limits in omega (arith, l, f, few_legs);
        few_rows = let l = ap (λ (t : TracksView). t.legs) tracks in let r = ap length rows in omega (arith, l, r, few_rows);
        some_row = λ some. let l = ap (λ (t : TracksView). t.legs) tracks in let r = ap length rows in let x = some_row (omega (arith, l, some)) in omega (arith, r, x);
        none = λ e. absurd (none_some (sym e ∙ head));
        base = λ k e. subst (λ (b : BookHead). IsMoment b.base) (some_same (sym head ∙ e)) base;
      };
    }
