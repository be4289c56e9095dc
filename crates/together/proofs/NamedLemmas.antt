-- The legs of a name, told.
use Rattle.std.proofs.Common.{[], ◌<◌, ◌≡◌, ◌≢◌, ◌∙◌, ◌==◌, ℕ, ap, sym, refl, arith, List, Bool, true, false, filter, get_or, length, inl, inr, Option}
use Rattle.std.specs.Prelude.{AllPairs, bytes_eq}
use Rattle.std.specs.List.{list_any}
use Rattle.std.proofs.lemmas.Bool.{cases_lt}
use Rattle.std.proofs.lemmas.Bool.Decides.{nat_tests}
use Rattle.std.proofs.lemmas.List.Sums.{passes_at_first}
use Rattle.legs.specs.Index.{is_of, legs_of}
use Rattle.legs.specs.Book.{Book, feature_named, feature_number}
use Rattle.legs.specs.Law.{IsThere}
use Rattle.legs.proofs.NameLemmas.{any_is_first, feature_of-known, feature_of-new, known_or_new, text_same, text_self}
use Rattle.legs.proofs.LawLemmas.{other_at}
use Rattle.writer.specs.Entries.{NamedLegView}
use Rattle.trajdb.specs.Answers.{feature_name, track_of}
use Rattle.together.specs.Parts.{IsPartOf, IsTold, is_in, own_legs}
use Rattle.together.specs.Told.{all_told, told, told_leg}
use Rattle.together.proofs.ListLemmas.{filter-agree, filter-comm, filter-map, filter-none}

not_true : (b : Bool) → (b ≡ true → ⊥) → b ≡ false
not_true true n = absurd (n refl)
not_true false n = refl

-- names at two places are the same exactly where the places are
pub same_place : (names : List (List ℕ)) (i j : ℕ) → AllPairs (λ a b. a ≢ b) names → i < length names → j < length names → (j == i) ≡ bytes_eq (get_or names i []) (get_or names j [])
same_place names i j distinct hi hj = elim (cases_lt i j) [
  | inl lt ↦
      let e : (j == i) ≡ false = grind (arith, nat_tests) in
      e ∙ sym (not_true (bytes_eq (get_or names i []) (get_or names j [])) (λ t. distinct i j [] lt hj (text_same _ _ t)))
  | inr ge ↦ elim (cases_lt j i) [
    | inl lt ↦
        let e : (j == i) ≡ false = grind (arith, nat_tests) in
        e ∙ sym (not_true (bytes_eq (get_or names i []) (get_or names j [])) (λ t. distinct j i [] lt hi (sym (text_same _ _ t))))
    | inr le ↦
        let same : j ≡ i = omega arith in
        let e : (j == i) ≡ true = grind (arith, nat_tests) in
        e ∙ sym (ap (λ m. bytes_eq (get_or names i []) (get_or names m [])) same ∙ text_self (get_or names i []))
  ]
]

-- the legs of a feature, told, are those of its name
pub told_of : (book : Book) (i : ℕ) → IsTold book → i < length book.names → told book (legs_of i book.legs) ≡ filter (λ e. bytes_eq (feature_name book i) e.name) (all_told book)
told_of book i is h =
    ap (told book) (filter-agree (IsThere book) (is_of i) (λ leg. bytes_eq (feature_name book i) (feature_name book leg.feature)) (λ leg there. same_place book.names i leg.feature is.distinct h there.feature) book.legs is.there)
    ∙ sym (filter-map (λ e. bytes_eq (feature_name book i) e.name) (told_leg book) book.legs)

pub told_none : (book : Book) (name : List ℕ) → IsTold book → feature_number book.names name ≡ length book.names → filter (λ e. bytes_eq name e.name) (all_told book) ≡ []
told_none book name is new =
    let none : list_any (bytes_eq name) book.names ≡ false = any_is_first (bytes_eq name) book.names ∙ grind (arith, nat_tests) in
    filter-map (λ e. bytes_eq name e.name) (told_leg book) book.legs
    ∙ ap (told book) (filter-none (IsThere book) (λ leg. bytes_eq name (feature_name book leg.feature))
    (λ leg there. not_true (bytes_eq name (feature_name book leg.feature)) (λ t. other_at book.names name none leg.feature [] there.feature (sym (text_same name _ t)))) book.legs is.there)

-- what is told of a name's track
pub track_told : (book : Book) (name : List ℕ) → IsTold book → told book (track_of (feature_named book.names name) book.legs) ≡ filter (λ e. bytes_eq name e.name) (all_told book)
track_told book name is = elim (known_or_new book.names name) [
  | inl known ↦
      let n = feature_number book.names name in
      let same : name ≡ feature_name book n = text_same name _ (passes_at_first (bytes_eq name) book.names [] known) in
      ap (λ (o : Option ℕ). told book (track_of o book.legs)) (feature_of-known book.names name known)
      ∙ told_of book n is known ∙ ap (λ (m : List ℕ). filter (λ e. bytes_eq m e.name) (all_told book)) (sym same)
  | inr new ↦
      ap (λ (o : Option ℕ). told book (track_of o book.legs)) (feature_of-new book.names name (omega arith)) ∙ sym (told_none book name is new)
]

pub trajectory_law : (f : List ℕ → ℕ) (k : ℕ) (whole part : Book) (name : List ℕ) → IsPartOf f k whole part → IsTold whole → IsTold part → told part (track_of (feature_named part.names name) part.legs) ≡ own_legs f k (told whole (track_of (feature_named whole.names name) whole.legs))
trajectory_law f k whole part name of is own =
    track_told part name own ∙ ap (filter (λ e. bytes_eq name e.name)) of.legs
    ∙ filter-comm (λ (e : NamedLegView). bytes_eq name e.name) (λ e. is_in f k e.name) (all_told whole)
    ∙ ap (own_legs f k) (sym (track_told whole name is))
