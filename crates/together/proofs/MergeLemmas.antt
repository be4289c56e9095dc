-- All parts of a list, one after another, have its members.
use Rattle.std.proofs.Common.{[], ◌∷◌, ◌++◌, ◌+◌, ◌<◌, ◌≤◌, ◌≡◌, ◌∙◌, ◌==◌, ℕ, zero, suc, ap, sym, refl, subst, arith, List, false, cond, filter, map, flat_map, inl, inr}
use Rattle.std.specs.Prelude.{All}
use Rattle.std.specs.List.Sorted.{IsPermutation}
use Rattle.std.specs.List.{range_with_len}
use Rattle.std.proofs.lemmas.Bool.{cases_Bool}
use Rattle.std.proofs.lemmas.Bool.Decides.{nat_tests}
use Rattle.std.proofs.lemmas.List.Elements.{All-head, All-tail}
use Rattle.std.proofs.lemmas.List.Sorted.{IsPermutation-append_right, IsPermutation-cons, IsPermutation-middle, IsPermutation-refl, IsPermutation-sym, IsPermutation-trans}
use Rattle.legs.specs.Index.{legs_in_box}
use Rattle.writer.specs.Entries.{NamedLegView}
use Rattle.trajdb.specs.Answers.{feature_name, HoldsOfLeg, PicksFeatures}
use Rattle.timebase.specs.Period.{PeriodView}
use Rattle.legs.specs.Legs.{LegView}
use Rattle.legs.specs.Boxes.{BoxView, RectView}
use Rattle.legs.specs.Book.{Book}
use Rattle.predicates.specs.declared.Predicate.{Predicate}
use Rattle.trajdb.specs.Picks.{Picks}
use Rattle.together.specs.Laws.{LegsMerge, NamesMerge}
use Rattle.together.specs.Parts.{ArePartsOf, own_legs, own_names}
use Rattle.together.specs.Told.{told}
use Rattle.together.proofs.FeatureLemmas.{features_law, range_within}
use Rattle.together.proofs.ToldLemmas.{box_law, legs_law}

-- the parts from a on, m of them
parts_from : {X : Type 0} → (X → ℕ) → ℕ → ℕ → List X → List X
parts_from g a m xs = flat_map (λ k. filter (λ x. g x == k) xs) (range_with_len a m)

-- a member of an earlier part is in none of them
not_there : {X : Type 0} (g : X → ℕ) (x : X) (xs : List X) (a m : ℕ) → g x < a → parts_from g a m (x ∷ xs) ≡ parts_from g a m xs
unfolding parts_from
not_there g x xs a zero h = refl
not_there {X} g x xs a (suc m) h =
    let e : (g x == a) ≡ false = grind (arith, nat_tests) in
    ap (λ c. cond c (x ∷ filter (λ y. g y == a) xs) (filter (λ y. g y == a) xs) ++ parts_from g (a + 1) m (x ∷ xs)) e
    ∙ ap (λ (l : List X). filter (λ y. g y == a) xs ++ l) (not_there g x xs (a + 1) m (omega arith))

-- one more member
one_more : {X : Type 0} (g : X → ℕ) (x : X) (xs : List X) (a m : ℕ) → a ≤ g x → g x < a + m → IsPermutation (x ∷ parts_from g a m xs) (parts_from g a m (x ∷ xs))
unfolding parts_from
one_more g x xs a zero h less = absurd (omega arith)
one_more {X} g x xs a (suc m) h less = elim (cases_Bool (g x == a)) [
  | inl e ↦
      let here : g x < a + 1 = grind (arith, nat_tests) in
      subst (λ (l : List X). IsPermutation (x ∷ (filter (λ y. g y == a) xs ++ parts_from g (a + 1) m xs)) l)
      (sym (ap (λ c. cond c (x ∷ filter (λ y. g y == a) xs) (filter (λ y. g y == a) xs) ++ parts_from g (a + 1) m (x ∷ xs)) e
      ∙ ap (λ (l : List X). x ∷ (filter (λ y. g y == a) xs ++ l)) (not_there g x xs (a + 1) m here)))
      (IsPermutation-refl (x ∷ (filter (λ y. g y == a) xs ++ parts_from g (a + 1) m xs)))
  | inr e ↦
      let above : a + 1 ≤ g x = grind (arith, nat_tests) in
      subst (λ (l : List X). IsPermutation (x ∷ (filter (λ y. g y == a) xs ++ parts_from g (a + 1) m xs)) l)
      (sym (ap (λ c. cond c (x ∷ filter (λ y. g y == a) xs) (filter (λ y. g y == a) xs) ++ parts_from g (a + 1) m (x ∷ xs)) e))
      (IsPermutation-trans (x ∷ (filter (λ y. g y == a) xs ++ parts_from g (a + 1) m xs)) (filter (λ y. g y == a) xs ++ (x ∷ parts_from g (a + 1) m xs)) (filter (λ y. g y == a) xs ++ parts_from g (a + 1) m (x ∷ xs))
      (IsPermutation-sym _ _ (IsPermutation-middle (filter (λ y. g y == a) xs) x (parts_from g (a + 1) m xs)))
      (IsPermutation-append_right (filter (λ y. g y == a) xs) _ _ (one_more g x xs (a + 1) m above (omega arith))))
]

none_parts : {X : Type 0} (g : X → ℕ) (ks : List ℕ) → flat_map (λ k. filter (λ x. g x == k) []) ks ≡ []
none_parts g [] = refl
none_parts g (k ∷ ks) = none_parts g ks

all_parts : {X : Type 0} (g : X → ℕ) (n : ℕ) → ((x : X) → g x < n) → (xs : List X) → IsPermutation xs (parts_from g 0 n xs)
unfolding parts_from
all_parts {X} g n within [] = subst (λ (l : List X). IsPermutation [] l) (sym (none_parts g (range_with_len 0 n))) (IsPermutation-refl [])
all_parts g n within (x ∷ xs) =
    let less = within x in
    IsPermutation-trans (x ∷ xs) (x ∷ parts_from g 0 n xs) (parts_from g 0 n (x ∷ xs)) (IsPermutation-cons x xs (parts_from g 0 n xs) (all_parts g n within xs))
    (one_more g x xs 0 n (omega arith) (omega (arith, less)))

pub legs_merge : LegsMerge
unfolding parts_from
legs_merge f n entries within = all_parts (λ (e : NamedLegView). f e.name) n (λ e. within e.name) entries

pub names_merge : NamesMerge
unfolding parts_from
names_merge f n names within = all_parts f n within names

-- parts that agree
flat-agree : {X : Type 0} (L : ℕ → Type 0) (u v : ℕ → List X) → ((k : ℕ) → L k → u k ≡ v k) → (ks : List ℕ) → All L ks → flat_map u ks ≡ flat_map v ks
flat-agree L u v same [] all = refl
flat-agree {X} L u v same (k ∷ ks) all =
    ap (λ (l : List X). l ++ flat_map u ks) (same k (All-head L k ks all)) ∙ ap (λ (l : List X). v k ++ l) (flat-agree L u v same ks (All-tail L k ks all))

pub box_merge : (f : List ℕ → ℕ) (n : ℕ) (whole : Book) (parts : ℕ → Book) (query : BoxView) → ArePartsOf f n whole parts → IsPermutation (told whole (legs_in_box query whole.legs)) (flat_map (λ k. told (parts k) (legs_in_box query (parts k).legs)) (range_with_len 0 n))
box_merge f n whole parts query are =
    let answer : List NamedLegView = told whole (legs_in_box query whole.legs) in
    subst (λ (l : List NamedLegView). IsPermutation answer l)
    (flat-agree (λ k. k < n) (λ k. own_legs f k answer) (λ k. told (parts k) (legs_in_box query (parts k).legs)) (λ k h. sym (box_law f k whole (parts k) query (are.each k h))) (range_with_len 0 n) (range_within n))
    (legs_merge f n answer are.within)

pub legs_answer_merge : (f : List ℕ → ℕ) (n : ℕ) (whole : Book) (parts : ℕ → Book) (predicate : Predicate) (rect : RectView) (period : PeriodView) (all : List LegView) (own : ℕ → List LegView) → ArePartsOf f n whole parts → Picks (HoldsOfLeg predicate rect period) whole.legs all
    → ((k : ℕ) → k < n → Picks (HoldsOfLeg predicate rect period) (parts k).legs (own k)) → IsPermutation (told whole all) (flat_map (λ k. told (parts k) (own k)) (range_with_len 0 n))
legs_answer_merge f n whole parts predicate rect period all own are a b =
    subst (λ (l : List NamedLegView). IsPermutation (told whole all) l)
    (flat-agree (λ k. k < n) (λ k. own_legs f k (told whole all)) (λ k. told (parts k) (own k)) (λ k h. sym (legs_law f k whole (parts k) predicate rect period all (own k) (are.each k h) a (b k h))) (range_with_len 0 n) (range_within n))
    (legs_merge f n (told whole all) are.within)

pub features_answer_merge : (f : List ℕ → ℕ) (n : ℕ) (whole : Book) (parts : ℕ → Book) (predicate : Predicate) (rect : RectView) (period : PeriodView) (all : List ℕ) (own : ℕ → List ℕ) → ArePartsOf f n whole parts → PicksFeatures whole predicate rect period all
    → ((k : ℕ) → k < n → PicksFeatures (parts k) predicate rect period (own k)) → IsPermutation (map (feature_name whole) all) (flat_map (λ k. map (feature_name (parts k)) (own k)) (range_with_len 0 n))
features_answer_merge f n whole parts predicate rect period all own are a b =
    let answer : List (List ℕ) = map (feature_name whole) all in
    subst (λ (l : List (List ℕ)). IsPermutation answer l)
    (flat-agree (λ k. k < n) (λ k. own_names f k answer) (λ k. map (feature_name (parts k)) (own k))
    (λ k h. sym (features_law f k whole (parts k) predicate rect period all (own k) (are.each k h) are.whole_told (are.each_told k h) a (b k h))) (range_with_len 0 n) (range_within n))
    (names_merge f n answer are.within)
