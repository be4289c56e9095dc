-- The names of features of which a predicate holds.
use Rattle.std.proofs.Common.{[], ◌∷◌, ◌<◌, ◌≡◌, ◌∙◌, ℕ, ap, sym, refl, subst, arith, List, Bool, true, false, cond, filter, length, map}
use Rattle.std.proofs.lemmas.Bool.Decides.{nat_tests}
use Rattle.std.specs.Prelude.{All, bytes_eq}
use Rattle.std.specs.List.{range_with_len}
use Rattle.std.proofs.lemmas.List.Elements.{filter_passes}
use Rattle.std.proofs.lemmas.List.FromFn.{fill_by_all, get_or-range_with_len, length-range_with_len}
use Rattle.timebase.specs.Period.{PeriodView}
use Rattle.legs.specs.Legs.{LegView}
use Rattle.legs.specs.Boxes.{RectView}
use Rattle.legs.specs.Index.{legs_of}
use Rattle.legs.specs.Book.{Book, feature_named}
use Rattle.legs.proofs.NameLemmas.{text_same}
use Rattle.predicates.specs.declared.Predicate.{Predicate}
use Rattle.predicates.specs.Predicates.{Holds}
use Rattle.writer.specs.Entries.{NamedLegView}
use Rattle.trajdb.specs.Picks.{Picks}
use Rattle.trajdb.specs.Answers.{HoldsOfFeature, PicksFeatures, feature_name, track_of}
use Rattle.together.specs.Parts.{IsPartOf, IsTold, is_in, own_legs, own_names}
use Rattle.together.specs.Told.{all_told, bare, told}
use Rattle.together.proofs.ListLemmas.{picks-agree, picks-filter, picks-map, picks-same}
use Rattle.together.proofs.BareLemmas.{bare_holds, holds_bare}
use Rattle.together.proofs.NamedLemmas.{told_of, track_told}

-- the legs of a name in what is told
abbrev bare_of : List NamedLegView → List ℕ → List LegView
bare_of entries name = map (λ e. e.leg) (filter (λ e. bytes_eq name e.name) entries)

abbrev HoldsOfName : Predicate → RectView → PeriodView → List NamedLegView → List ℕ → Type 0
HoldsOfName predicate rect period entries name = Holds predicate (bare_of entries name) rect period

told_bare : (book : Book) (legs : List LegView) → map (λ e. e.leg) (told book legs) ≡ map bare legs
told_bare book [] = refl
told_bare book (leg ∷ legs) = ap (λ (l : List LegView). bare leg ∷ l) (told_bare book legs)

bare_is : (book : Book) (i : ℕ) → IsTold book → i < length book.names → map bare (legs_of i book.legs) ≡ bare_of (all_told book) (feature_name book i)
bare_is book i is h = sym (told_bare book (legs_of i book.legs)) ∙ ap (map (λ e. e.leg)) (told_of book i is h)

names_all : (book : Book) → book.names ≡ map (feature_name book) (range_with_len 0 (length book.names))
names_all book = fill_by_all (feature_name book) book.names (length book.names) [] refl (λ k h. refl)

pub range_within : (n : ℕ) → All (λ i. i < n) (range_with_len 0 n)
range_within n = λ k d less.
    let within : k < n = rw (length-range_with_len 0 n) at less in
    let e = get_or-range_with_len 0 n k d within in
    omega (arith, e, within)

-- what is picked of a book's features, by name
picks_named : (book : Book) (predicate : Predicate) (rect : RectView) (period : PeriodView) (picked : List ℕ) → IsTold book
    → Picks (HoldsOfFeature predicate rect period book.legs) (range_with_len 0 (length book.names)) picked → Picks (HoldsOfName predicate rect period (all_told book)) book.names (map (feature_name book) picked)
picks_named book predicate rect period picked is h =
    subst (λ (l : List (List ℕ)). Picks (HoldsOfName predicate rect period (all_told book)) l (map (feature_name book) picked)) (sym (names_all book))
    (picks-map (λ i. i < length book.names) (HoldsOfFeature predicate rect period book.legs) (HoldsOfName predicate rect period (all_told book)) (feature_name book)
    (λ i less held. subst (λ (l : List LegView). Holds predicate l rect period) (bare_is book i is less) (holds_bare predicate (legs_of i book.legs) rect period held))
    (λ i less held. bare_holds predicate (legs_of i book.legs) rect period (subst (λ (l : List LegView). Holds predicate l rect period) (sym (bare_is book i is less)) held))
    (range_with_len 0 (length book.names)) picked (range_within (length book.names)) h)

-- a name of the part has all of its legs there
pub own_of : (f : List ℕ → ℕ) (k : ℕ) (name : List ℕ) (entries : List NamedLegView) → is_in f k name ≡ true → filter (λ e. bytes_eq name e.name) (own_legs f k entries) ≡ filter (λ e. bytes_eq name e.name) entries
own_of f k name [] own = refl
own_of f k name (e ∷ entries) own = by (is_in f k e.name) (bytes_eq name e.name) refl refl (own_of f k name entries own)
  where
    by : (a b : Bool) → is_in f k e.name ≡ a → bytes_eq name e.name ≡ b → filter (λ x. bytes_eq name x.name) (own_legs f k entries) ≡ filter (λ x. bytes_eq name x.name) entries
        → filter (λ x. bytes_eq name x.name) (cond a (e ∷ own_legs f k entries) (own_legs f k entries)) ≡ cond b (e ∷ filter (λ x. bytes_eq name x.name) entries) (filter (λ x. bytes_eq name x.name) entries)
    by true true p q more =
        ap (λ c. cond c (e ∷ filter (λ x. bytes_eq name x.name) (own_legs f k entries)) (filter (λ x. bytes_eq name x.name) (own_legs f k entries))) q ∙ ap (λ (l : List NamedLegView). e ∷ l) more
    by true false p q more =
        ap (λ c. cond c (e ∷ filter (λ x. bytes_eq name x.name) (own_legs f k entries)) (filter (λ x. bytes_eq name x.name) (own_legs f k entries))) q ∙ more
    by false true p q more = absurd (let t : false ≡ true = sym p ∙ ap (is_in f k) (sym (text_same name e.name q)) ∙ own in (cc))
    by false false p q more = more

pub features_law : (f : List ℕ → ℕ) (k : ℕ) (whole part : Book) (predicate : Predicate) (rect : RectView) (period : PeriodView) (all own : List ℕ) → IsPartOf f k whole part → IsTold whole → IsTold part → PicksFeatures whole predicate rect period all → PicksFeatures part predicate rect period own
    → map (feature_name part) own ≡ own_names f k (map (feature_name whole) all)
features_law f k whole part predicate rect period all own of is own_is a b =
    let W = picks-filter (HoldsOfName predicate rect period (all_told whole)) (is_in f k) whole.names (map (feature_name whole) all) (picks_named whole predicate rect period all is a) in
    let V = picks_named part predicate rect period own own_is b in
    let same = λ (name : List ℕ) (in_part : is_in f k name ≡ true). ap (map (λ (e : NamedLegView). e.leg)) (ap (filter (λ (e : NamedLegView). bytes_eq name e.name)) of.legs ∙ own_of f k name (all_told whole) in_part) in
    let U = subst (λ (l : List (List ℕ)). Picks (HoldsOfName predicate rect period (all_told part)) l (map (feature_name part) own)) of.names V in
    let T = picks-agree (λ name. is_in f k name ≡ true) (HoldsOfName predicate rect period (all_told part)) (HoldsOfName predicate rect period (all_told whole))
    (λ name i held. subst (λ (l : List LegView). Holds predicate l rect period) (same name i) held) (λ name i held. subst (λ (l : List LegView). Holds predicate l rect period) (sym (same name i)) held)
    (own_names f k whole.names) (map (feature_name part) own) (filter_passes (is_in f k) whole.names) U in
    picks-same (HoldsOfName predicate rect period (all_told whole)) (own_names f k whole.names) (map (feature_name part) own) (own_names f k (map (feature_name whole) all)) T W

pub track_law : (f : List ℕ → ℕ) (k : ℕ) (whole part : Book) (name : List ℕ) → f name ≡ k → IsPartOf f k whole part → IsTold whole → IsTold part → told part (track_of (feature_named part.names name) part.legs) ≡ told whole (track_of (feature_named whole.names name) whole.legs)
track_law f k whole part name of_name of is own =
    let mine : is_in f k name ≡ true = grind (arith, nat_tests, of_name) in
    track_told part name own ∙ ap (filter (λ e. bytes_eq name e.name)) of.legs ∙ own_of f k name (all_told whole) mine ∙ sym (track_told whole name is)
