-- The numbers by which an index finds its legs.
use Rattle.std.specs.Prelude.{ℕ, ◌≡◌, ◌≤◌, ◌<◌, List, []}

-- the place of a feature among the pages of an index: its first and its last leaf, the last one's number among all
-- leaves, and the number of its legs
pub record FeaturePlace : Type 0 where
  pub first : ℕ
  pub last : ℕ
  pub last_index : ℕ
  pub legs : ℕ

-- the numbers by which an index over pages finds its legs: the root's page, the levels, the leaves, how many legs, how many
-- pages there are, and the place of each feature
pub record Finding : Type 0 where
  pub root : ℕ
  pub levels : ℕ
  pub leaves : ℕ
  pub legs : ℕ
  pub pages : ℕ
  pub places : List FeaturePlace

-- an index that keeps a list needs none
abbrev pub no_finding : Finding
no_finding = record { root = 0; levels = 0; leaves = 0; legs = 0; pages = 0; places = [] }
