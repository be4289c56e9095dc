-- Helpers of private functions: what the private calls on one payload say of its node.
use Rattle.std.specs.Prelude.{ℕ, ◌≡◌, ◌<◌, ◌≤◌, ◌+◌, ◌-◌, ◌==◌, ◌&&◌, nat_lt, Bool, true, List, [], ◌∷◌, length, slice_get, Option, Some, None}
use Rattle.legs.specs.Legs.{LegView}
use Rattle.legs.specs.Boxes.{BoxView}
use Rattle.legs.specs.Costs.{leg_feature}
use Rattle.legs.specs.Hull.{leg_boxes}
use Rattle.tbtree.specs.Nodes.{Node, ALeaf, AnInner, LeafView, InnerView, children, cover_of_page, with_legs}
use Rattle.tbtree.specs.Stands.{new_leaf}

-- the node is an inner page of the level, whose entry e has that child
pub record IsEntry (node : Option (Node LegView BoxView)) (level e child : ℕ) : Type 0 where
  pub page : InnerView BoxView
  pub is : node ≡ Some (AnInner page)
  pub level_is : page.level ≡ level
  pub within : e < length page.entries
  pub child_is : slice_get (children page) e ≡ Some child

-- the node is no inner page of the level with an entry e
abbrev pub HasNoEntry : Option (Node LegView BoxView) → ℕ → ℕ → Type 0
HasNoEntry node level e =
    (page : InnerView BoxView) → node ≡ Some (AnInner page) → page.level ≡ level
    → e < length page.entries → ⊥

-- the node is a leaf of the feature, and none is behind it
pub record IsLastLeaf (node : Option (Node LegView BoxView)) (feature : ℕ) : Type 0 where
  pub leaf : LeafView LegView
  pub is : node ≡ Some (ALeaf leaf)
  pub own : leaf.feature ≡ feature
  pub end : leaf.next ≡ 0

-- each leg is of the feature, and its ordinal is above that of the one before it, the first one's above a number
abbrev pub goes_on : ℕ → ℕ → List LegView → Bool
goes_on feature ordinal [] = true
goes_on feature ordinal (leg ∷ legs) =
    (leg.feature == feature) && (nat_lt ordinal leg.ordinal && goes_on feature leg.ordinal legs)

-- the legs can be the next ones of a leaf, which then has at most so many: they are of its feature, and their ordinals rise from above its last leg's
pub record TakesLegs (most : ℕ) (leaf : LeafView LegView) (legs : List LegView) : Type 0 where
  pub room : length leaf.legs + length legs ≤ most
  pub last : LegView
  pub is_last : slice_get leaf.legs (length leaf.legs - 1) ≡ Some last
  pub go_on : goes_on leaf.feature last.ordinal legs ≡ true

-- the node is a leaf that takes legs
pub record Takes (node : Option (Node LegView BoxView)) (most : ℕ)
    (legs : List LegView) : Type 0 where
  pub leaf : LeafView LegView
  pub is : node ≡ Some (ALeaf leaf)
  pub takes : TakesLegs most leaf legs

-- the leaf with legs more
abbrev pub leaf_with_legs : List LegView → LeafView LegView → Node LegView BoxView
leaf_with_legs legs leaf = ALeaf (with_legs legs leaf)

-- the legs are those of one leaf: of the first one's feature, their ordinals rising
abbrev pub are_of_one_leaf : List LegView → Bool
are_of_one_leaf [] = true
are_of_one_leaf (leg ∷ legs) = goes_on leg.feature leg.ordinal legs

-- a leaf of legs, with that leaf before it and none after it
abbrev pub leaf_of_legs : ℕ → List LegView → Node LegView BoxView
leaf_of_legs previous legs = ALeaf (new_leaf leg_feature previous legs)

-- the node is an inner page of the level with less than most entries
pub record IsRoomy (node : Option (Node LegView BoxView)) (level most : ℕ) : Type 0 where
  pub page : InnerView BoxView
  pub is : node ≡ Some (AnInner page)
  pub level_is : page.level ≡ level
  pub few : length page.entries < most

-- the least box that holds all that a node has
abbrev pub cover_of_node : Option (Node LegView BoxView) → Option BoxView
cover_of_node None = None
cover_of_node (Some node) = cover_of_page leg_boxes node
