-- A list of legs, and for each feature the places of its legs in it.
use Rattle.std.specs.Prelude.{ℕ, ◌≡◌, ◌<◌, nat_lt, if◌then◌else◌, ◌++◌, ◌∷◌, slice_set, Bool, List, [], length, map, All, slice_index_or, pos}
use Rattle.legs.specs.Legs.{LegView}
use Rattle.legs.specs.Index.{legs_of, feature_count}

-- what contracts see of an index that keeps a list
pub record ListView : Type 0 where
  pub legs : List LegView
  pub spent : Bool

-- a leg that stands where there is none
abbrev pub no_leg : LegView
no_leg = record {
  ordinal = 0;
  feature = 0;
  t0 = pos 0;
  t1 = pos 0;
  x0 = pos 0;
  y0 = pos 0;
  z0 = pos 0;
  x1 = pos 0;
  y1 = pos 0;
  z1 = pos 0;
  row = 0;
}

-- the legs at these places
abbrev pub legs_at : List LegView → List ℕ → List LegView
legs_at legs places = map (λ place. slice_index_or legs place no_leg) places

-- these are the places of the legs of a feature
pub record ArePlaces (legs : List LegView) (feature : ℕ) (places : List ℕ) : Type 0 where
  pub within : All (λ place. place < length legs) places
  pub there : legs_at legs places ≡ legs_of feature legs

-- each feature has its places
pub record IsPlaced (legs : List LegView) (places : List (List ℕ)) : Type 0 where
  pub counted : length places ≡ feature_count legs
  pub each : (feature : ℕ) → feature < length places
      → ArePlaces legs feature (slice_index_or places feature [])

-- the places, with one more of a feature that is there or is the next one
abbrev pub places_with : List (List ℕ) → ℕ → ℕ → List (List ℕ)
places_with places feature place =
    if nat_lt feature (length places)
    then slice_set places feature (slice_index_or places feature [] ++ place ∷ [])
    else places ++ (place ∷ []) ∷ []
