-- What is asked of a leaf on the way back along a chain, and what of its legs is kept.
use Rattle.std.specs.Prelude.{ℕ, ◌≡◌, ◌≢◌, ◌-◌, ◌*◌, ◌<◌, Bool, true, false, min, List, [], ◌∷◌, length, Option, Some, None, int_lt}
use Rattle.timebase.specs.Period.{PeriodView}
use Rattle.legs.specs.Legs.{LegView, is_live}
use Rattle.tbnode.specs.declared.views.LeafHead.{LeafHead}
use Rattle.tbtree.specs.Nodes.{LeafView, Pages, ALeaf}
use Rattle.chains.specs.declared.leaves.Link.{Link}
use Rattle.chains.specs.declared.leaves.Spot.{Spot}

-- what a chain of so many legs, in leaves of `most` from that first one on, has at the leaf with n others before it
abbrev pub spot_of : (most legs first n : ℕ) → Spot
spot_of most legs first n = record { count = min most (legs - n * most); before = n; first = first }

-- a leaf on that page, with that leaf before it, names one where one is to be; where none is, it names none and is the
-- first
pub record IsPlaced (previous page : ℕ) (spot : Spot) : Type 0 where
  pub one_before : 0 < spot.before → previous ≢ 0
  pub none_before : spot.before ≡ 0 → previous ≡ 0
  pub first_is : spot.before ≡ 0 → page ≡ spot.first

-- a leaf with that head and so many legs has the count of the spot, its next leaf is the one that was read before it, it
-- has the same feature, and it leads on to a leaf exactly where one is to be
pub record Fits (head : LeafHead) (count : ℕ) (link : Link) (spot : Spot) : Type 0 where
  pub count_is : count ≡ spot.count
  pub next_is : head.next ≡ link.next
  pub feature_is : head.feature ≡ link.feature
  pub placed : IsPlaced head.previous link.page spot

-- what a leaf says of itself
abbrev pub head_of : {L : Type 0} → LeafView L → LeafHead
head_of leaf = record { feature = leaf.feature; previous = leaf.previous; next = leaf.next }

-- a leaf is the chain's at that spot
abbrev pub FitsLeaf : {L : Type 0} → LeafView L → Link → Spot → Type 0
FitsLeaf leaf link spot = Fits (head_of leaf) (length leaf.legs) link spot

-- the page of the link is that leaf, and it is the one of the chain there
pub record IsLinked {L B : Type 0} (nodes : Pages L B) (link : Link) (spot : Spot)
    (leaf : LeafView L) : Type 0 where
  pub above : 0 < link.page
  pub is : nodes.at link.page ≡ Some (Some (ALeaf leaf))
  pub fits : FitsLeaf leaf link spot

-- the page is the one of the link, and has no such leaf
abbrev pub IsUnlinked : {L B : Type 0} → Pages L B → Link → Spot → ℕ → Type 0
IsUnlinked {L = L} nodes link spot page =
    (page ≡ link.page) × ((leaf : LeafView L) → IsLinked nodes link spot leaf → ⊥)

-- a leg that is live in the period; each leg, where none is given
abbrev pub is_kept : Option PeriodView → LegView → Bool
is_kept None leg = true
is_kept (Some period) leg = is_live period leg

-- the first of some legs starts before the period, so that no leg before them is live
abbrev pub begins_before : PeriodView → List LegView → Bool
begins_before period [] = false
begins_before period (leg ∷ legs) = int_lt leg.t0 period.start

-- nothing before these legs is kept
abbrev pub is_end : Option PeriodView → List LegView → Bool
is_end None legs = false
is_end (Some period) legs = begins_before period legs

-- the link from a leaf to the one before it
abbrev pub link_back : {L : Type 0} → ℕ → LeafView L → Link
link_back page leaf = record { page = leaf.previous; next = page; feature = leaf.feature }
