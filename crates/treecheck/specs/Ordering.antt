-- Helpers of private functions: what a check asks of the leaves and legs of all features together.
use Rattle.std.specs.Prelude.{ℕ, ◌≡◌, ◌<◌, List, map, slice_get, Some}
use Rattle.tbtree.specs.declared.tree.Place.{Place}
use Rattle.std.specs.List.{range_with_len}
use Rattle.std.specs.List.Sorted.{IsPermutation}
use Rattle.tbtree.specs.Turn.{IsRising}
use Rattle.treecheck.specs.declared.walking.Met.{Met}
use Rattle.treecheck.specs.declared.walking.Survey.{Survey}

-- each place has a leg
abbrev pub HaveLegs : List Place → Type 0
HaveLegs places = (f : ℕ) (place : Place) → slice_get places f ≡ Some place → 0 < place.legs

-- each place says where its last leaf is among the leaves
abbrev pub NameLast : List Place → List Met → Type 0
NameLast places leaves = (f : ℕ) (place : Place) → slice_get places f ≡ Some place
    → slice_get (map (λ (m : Met). m.page) leaves) place.last_index ≡ Some place.last

-- what the survey says of all features together is whole: each has a leg, each ordinal stands once, below the total, and
-- features are in the order of their first legs
pub record IsSurveyWhole (places : List Place) (total : ℕ) (survey : Survey) : Type 0 where
  pub some : HaveLegs places
  pub once : IsPermutation survey.ordinals.items (range_with_len 0 total)
  pub firsts : IsRising (λ n. n) survey.firsts.items
