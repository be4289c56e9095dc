-- Where the last item of a feature stands in a list of items of features.
use Rattle.std.specs.Prelude.{ℕ, suc, ◌==◌, Bool, true, false, List, [], ◌∷◌, Option, Some, None}

-- the last place, seen from one item further in front, which may be of the feature itself
abbrev pub place_behind : Option ℕ → Bool → Option ℕ
place_behind (Some place) is = Some (suc place)
place_behind None true = Some 0
place_behind None false = None

-- the place of the last item of the feature
abbrev pub last_place : {T : Type 0} → (T → ℕ) → ℕ → List T → Option ℕ
last_place feature f [] = None
last_place feature f (item ∷ items) = place_behind (last_place feature f items) (feature item == f)
