-- What is joined of parts of features: visits of stays, and dwells of visits.
use Rattle.std.specs.Prelude.{ℕ, Bool, cond, List, [], ◌∷◌, ◌++◌, get_or, set, fold, Option, Some, None}
use Rattle.visiting.specs.Places.{last_place}

module _ {P J : Type 0} (feature : J → ℕ) (part_feature : P → ℕ) (of : P → J) (goes_on : J → P → Bool) (with_part : J → P → J) where
  -- all with a part more, where the last one of its feature is at that place
  abbrev pub joined_at : List J → P → Option ℕ → List J
  joined_at all part None = all ++ of part ∷ []
  joined_at all part (Some place) =
      let last = get_or all place (of part) in
      cond (goes_on last part) (set all place (with_part last part)) (all ++ of part ∷ [])

  -- a part goes on with the last one of its feature, where it does; else it begins one
  abbrev pub joined_with : List J → P → List J
  joined_with all part = joined_at all part (last_place feature (part_feature part) all)

  -- what is joined of parts
  abbrev pub joined : List P → List J
  joined parts = fold joined_with [] parts
