-- A chain of leaves, walked from the last one back.
use Rattle.std.specs.Prelude.{ℕ, zero, suc, ◌≡◌, ◌≢◌, ◌+◌, ◌<◌, ◌++◌, ◌⊎◌, cond, List, [], filter, Option, Some, None, false}
use Rattle.std.specs.Int.{div_ceil}
use Rattle.timebase.specs.Period.{PeriodView}
use Rattle.legs.specs.Legs.{LegView}
use Rattle.legs.specs.Boxes.{BoxView}
use Rattle.legs.specs.Costs.{ShapeView}
use Rattle.tbtree.specs.Descent.{legs_in}
use Rattle.tbtree.specs.Nodes.{Pages, Node, ALeaf, LeafView}
use Rattle.tbtree.specs.declared.tree.Place.{Place}
use Rattle.chains.specs.Links.{IsLinked, IsUnlinked, spot_of, is_kept, is_end, link_back}
use Rattle.chains.specs.declared.leaves.Link.{Link}

-- the page of the leaf before a leaf; 0 for any other page
abbrev pub previous_of : {L B : Type 0} → Option (Option (Node L B)) → ℕ
previous_of (Some (Some (ALeaf leaf))) = leaf.previous
previous_of _ = 0

module _ (nodes : Pages LegView BoxView) (period : Option PeriodView) where
  -- of a chain of so many legs, in leaves of `most`, the link leads back along n leaves to the first one, up to a leaf
  -- that starts before the period
  abbrev pub IsChain : (most legs first n : ℕ) → Link → Type 0
  IsChain most legs first zero link = Unit {0}
  IsChain most legs first (suc n) link =
      (leaf : LeafView LegView) × IsLinked nodes link (spot_of most legs first n) leaf
      × (is_end period leaf.legs ≡ false → IsChain most legs first n (link_back link.page leaf))

  -- on the way back along n leaves of such a chain the page is met, and is not the leaf of the chain there
  abbrev pub IsOffChain : (most legs first n : ℕ) → Link → ℕ → Type 0
  IsOffChain most legs first zero link page = ⊥
  IsOffChain most legs first (suc n) link page =
      IsUnlinked nodes link (spot_of most legs first n) page
      ⊎ (leaf : LeafView LegView) × IsLinked nodes link (spot_of most legs first n) leaf
      × (is_end period leaf.legs ≡ false)
      × IsOffChain most legs first n (link_back link.page leaf) page

  -- what is kept of n leaves from page p back, up to one that starts before the period
  abbrev pub walk : ℕ → ℕ → List LegView
  walk zero p = []
  walk (suc n) p =
      cond (is_end period (legs_in (nodes.at p))) (filter (is_kept period) (legs_in (nodes.at p)))
      (walk n (previous_of (nodes.at p)) ++ filter (is_kept period) (legs_in (nodes.at p)))

  -- how many leaves are read
  abbrev pub walked : ℕ → ℕ → ℕ
  walked zero p = 0
  walked (suc n) p =
      1 + cond (is_end period (legs_in (nodes.at p))) 0 (walked n (previous_of (nodes.at p)))

-- the link to the last leaf of a feature's place
abbrev pub last_link : ℕ → Place → Link
last_link feature place = record { page = place.last; next = 0; feature = feature }

-- a place without legs names no page
abbrev pub NamesNoneIfEmpty : Place → Type 0
NamesNoneIfEmpty place = place.legs ≡ 0 → (place.first ≡ 0) × (place.last ≡ 0)

-- the pages are a chain of leaves of the feature, linked both ways, each full but the last, from the place's last leaf
-- back to its first, with as many legs as the place has; where there is a period, up to a leaf that starts before it
abbrev pub IsPlaceChain : Pages LegView BoxView → Option PeriodView → ShapeView → (feature : ℕ)
    → Place → Type 0
IsPlaceChain nodes period shape feature place =
    NamesNoneIfEmpty place
    × IsChain nodes period shape.leaf place.legs place.first (div_ceil place.legs shape.leaf)
    (last_link feature place)

-- the page is met on the way back along that chain, and is not the leaf of the chain there; or it is 0, and the place has
-- no legs and names a page
abbrev pub IsOffPlaceChain : Pages LegView BoxView → Option PeriodView → ShapeView → (feature : ℕ)
    → Place → ℕ → Type 0
IsOffPlaceChain nodes period shape feature place page =
    (page ≡ 0) × (NamesNoneIfEmpty place → ⊥)
    ⊎ IsOffChain nodes period shape.leaf place.legs place.first (div_ceil place.legs shape.leaf)
    (last_link feature place) page

-- what is kept of that chain
abbrev pub chain_legs : Pages LegView BoxView → Option PeriodView → ShapeView → Place → List LegView
chain_legs nodes period shape place = walk nodes period (div_ceil place.legs shape.leaf) place.last

-- how many leaves of the chain are read
abbrev pub chain_cost : Pages LegView BoxView → Option PeriodView → ShapeView → Place → ℕ
chain_cost nodes period shape place =
    walked nodes period (div_ceil place.legs shape.leaf) place.last

-- each page has a payload
abbrev pub AreHeld : Pages LegView BoxView → Type 0
AreHeld nodes = (p : ℕ) → p < nodes.count → nodes.at p ≢ None
