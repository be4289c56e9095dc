-- The names that a file has, and what is known of each.
use Rattle.std.specs.Prelude.{ℕ, nat_le, if◌then◌else◌, List, [], ◌∷◌, ◌++◌, fold, Option, Some, None, slice_set, slice_get}
use Rattle.std.specs.Option.{option_and_then}
use Rattle.legs.specs.Book.{feature_named, names_with}
use Rattle.legs.specs.declared.draft.Latest.{Latest}

-- the names of a file in order of first appearance, and of each the number of its feature and the
-- end of its last leg
pub record NamesView : Type 0 where
  pub names : List (List ℕ)
  pub latest : List Latest

-- of these the names of the features from a number on
abbrev pub fresh_names : ℕ → List (List ℕ) → List Latest → List (List ℕ)
fresh_names base [] latest = []
fresh_names base (name ∷ names) [] = []
fresh_names base (name ∷ names) (last ∷ latest) =
    (if nat_le base last.feature then name ∷ [] else []) ++ fresh_names base names latest

-- names, with others
abbrev pub names_and : List (List ℕ) → List (List ℕ) → List (List ℕ)
names_and names others = fold names_with names others

-- what they tell of a name
abbrev pub met : NamesView → List ℕ → Option Latest
met names name = option_and_then (slice_get names.latest) (feature_named names.names name)

-- a name that has that place, or none yet, is last known so
abbrev pub with_latest : Option ℕ → NamesView → List ℕ → Latest → NamesView
with_latest (Some place) names name last = record {
  names = names.names;
  latest = slice_set names.latest place last;
}
with_latest None names name last = record {
  names = names.names ++ name ∷ [];
  latest = names.latest ++ last ∷ [];
}

-- how many names are new with a name of which that is known
abbrev pub new_count : Option Latest → ℕ
new_count None = 1
new_count (Some last) = 0

-- the number of its feature: that which is known, or the next one
abbrev pub feature_or_next : Option Latest → ℕ → ℕ
feature_or_next None features = features
feature_or_next (Some last) features = last.feature
