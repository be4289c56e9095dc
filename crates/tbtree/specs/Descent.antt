-- The way down from a tree's root: the pages that are met and the legs that they have, for any pages. Page 0 is none of
-- a tree's.
use Rattle.std.specs.Prelude.{ℕ, zero, suc, ◌≡◌, ◌+◌, ◌<◌, ◌≤◌, Bool, true, cond, nat_lt, List, [], ◌∷◌, map, filter, length, Option, Some, None}
use Rattle.std.specs.List.{flat_map}
use Rattle.std.specs.List.Sorted.{IsPermutation, IsNonDecreasingBy}
use Rattle.legs.specs.Legs.{LegView}
use Rattle.legs.specs.Boxes.{BoxView}
use Rattle.legs.specs.Hull.{Boxes, leg_boxes}
use Rattle.tbtree.specs.Nodes.{Pages, Node, ALeaf, AnInner, EntryView, InnerView, HasLeaf}
use Rattle.tbtree.specs.declared.tree.TbTree.{TbTree}

module _ {L B : Type 0} where
  -- the entries of a page, if it is an inner one
  abbrev pub entries_in : Option (Option (Node L B)) → List (EntryView B)
  entries_in (Some (Some (AnInner page))) = page.entries
  entries_in _ = []

  -- the legs of a page, if it is a leaf
  abbrev pub legs_in : Option (Option (Node L B)) → List L
  legs_in (Some (Some (ALeaf leaf))) = leaf.legs
  legs_in _ = []

  -- what page p says as a page of a tree
  abbrev pub node_at : Pages L B → ℕ → Option (Option (Node L B))
  node_at nodes zero = None
  node_at nodes (suc n) = nodes.at (suc n)

module _ {L B : Type 0} (meets : B → Bool) (nodes : Pages L B) where
  -- the children of a page whose boxes meet
  unfoldable pub children_met : ℕ → List ℕ
  children_met p = map (λ e. e.child) (filter (λ e. meets e.bounds) (entries_in (node_at nodes p)))

  -- the pages that are met n levels below the root
  abbrev pub pages_met : ℕ → ℕ → List ℕ
  pages_met root zero = root ∷ []
  pages_met root (suc n) = flat_map children_met (pages_met root n)

  -- how many are met on the first n levels
  abbrev pub met_count : ℕ → ℕ → ℕ
  met_count root zero = 0
  met_count root (suc n) = met_count root n + length (pages_met root n)

module _ {L B : Type 0} (s : Boxes L B) (meets : B → Bool) (nodes : Pages L B) where
  -- the legs of a page whose boxes meet
  abbrev pub hits : ℕ → List L
  hits p = filter (λ leg. meets (s.of leg)) (legs_in (node_at nodes p))

  -- those of the pages that are met on the last level
  abbrev pub legs_met : ℕ → ℕ → List L
  legs_met root zero = []
  legs_met root (suc n) = flat_map hits (pages_met meets nodes root n)

-- the legs in the order of their ordinals
pub record IsInOrder (found sorted : List LegView) : Type 0 where
  pub same : IsPermutation found sorted
  pub rises : IsNonDecreasingBy (λ leg. leg.ordinal) sorted

-- a leg put among legs, before the first one of a higher ordinal
abbrev pub insert_by_ordinal : LegView → List LegView → List LegView
insert_by_ordinal leg [] = leg ∷ []
insert_by_ordinal leg (other ∷ legs) =
    cond (nat_lt leg.ordinal other.ordinal) (leg ∷ other ∷ legs)
    (other ∷ insert_by_ordinal leg legs)

-- legs in the order of their ordinals
abbrev pub sort_by_ordinal : List LegView → List LegView
sort_by_ordinal [] = []
sort_by_ordinal (leg ∷ legs) = insert_by_ordinal leg (sort_by_ordinal legs)

-- the legs that the way down from a tree's root by a test of boxes finds, whatever its pages hold, in the order of their
-- ordinals
unfoldable pub found_legs : (BoxView → Bool) → Pages LegView BoxView → TbTree → List LegView
found_legs meets nodes tree = sort_by_ordinal (legs_met leg_boxes meets nodes tree.root tree.levels)

-- the content of a tree, whatever its pages hold: the legs of all leaves that are as many levels below the root as the
-- tree has, in the order of their ordinals
abbrev pub content_of : Pages LegView BoxView → TbTree → List LegView
content_of nodes tree = found_legs (λ _. true) nodes tree

-- what a page says as one of a tree, if anything
abbrev pub node_in : {N : Type 0} → Option (Option N) → Option N
node_in (Some node) = node
node_in None = None

-- all pages but page 0 say the same of a tree, if anything; there may be more, and each that is there has a payload,
-- but for those that had none
pub record IsSameTree (old new : Pages LegView BoxView) : Type 0 where
  pub count : old.count ≤ new.count
  pub held : (p : ℕ) → p < new.count → new.at p ≡ None → (p < old.count) × (old.at p ≡ None)
  pub rest : (p : ℕ) → 0 < p → node_in (new.at p) ≡ node_in (old.at p)

-- the page p is an inner page of the level
pub record HasInner {L B : Type 0} (nodes : Pages L B) (p level : ℕ) : Type 0 where
  pub above : 0 < p
  pub page : InnerView B
  pub is : nodes.at p ≡ Some (Some (AnInner page))
  pub level_is : page.level ≡ level

-- the page is one of the level: a leaf on level 0, else an inner page
abbrev pub IsOnLevel : Pages LegView BoxView → ℕ → ℕ → Type 0
IsOnLevel nodes zero p = HasLeaf nodes p
IsOnLevel nodes (suc k) p = HasInner nodes p (suc k)
