-- Eight messages side by side: each word is a vector, with one lane for each message.
use Rattle.std.specs.Prelude.{ℕ, List, [], ◌∷◌, map, slice_index, slice_index_or}

-- lane j of vector k
abbrev pub lane_at : List (List ℕ) → ℕ → ℕ → ℕ
lane_at x k j = slice_index (slice_index_or x k []) j

-- the words of message j
abbrev pub lane : ℕ → List (List ℕ) → List ℕ
lane j x = map (λ v. slice_index v j) x

-- the eight words of message j's hash value or working variables
abbrev pub state_lane : ℕ → List (List ℕ) → List ℕ
state_lane j x =
    lane_at x 0 j ∷ lane_at x 1 j ∷ lane_at x 2 j ∷ lane_at x 3 j
    ∷ lane_at x 4 j ∷ lane_at x 5 j ∷ lane_at x 6 j ∷ lane_at x 7 j ∷ []
