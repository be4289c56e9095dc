-- What a check finds in the pages of a tree: the leaves along the chain of each feature, and the levels above them.
use Rattle.std.specs.Prelude.{ℕ, suc, ◌≡◌, ◌≢◌, ◌-◌, ◌<◌, ◌≤◌, min, List, [], ◌∷◌, map, length, slice_get, Option, Some, None}
use Rattle.std.specs.List.{flat_map, range_with_len}
use Rattle.std.specs.List.Sorted.{IsPermutation}
use Rattle.legs.specs.Blocks.{joined, level}
use Rattle.legs.specs.Boxes.{BoxView}
use Rattle.legs.specs.Hull.{leg_boxes}
use Rattle.legs.specs.Index.{feature_count, legs_of}
use Rattle.legs.specs.Legs.{LegView}
use Rattle.legs.specs.Tracks.{IsTrack}
use Rattle.legs.specs.declared.tracks.Track.{Track}
use Rattle.tbtree.specs.Descent.{legs_in}
use Rattle.tbtree.specs.Insert.{IsPlace, Stands}
use Rattle.tbtree.specs.Nodes.{Pages, Node, LeafView, ALeaf, AnInner}
use Rattle.tbtree.specs.Stands.{last_or, page_at, LevelStands}
use Rattle.tbtree.specs.Turn.{last_leg, first_ordinal, ComeInTurn, IsRising}
use Rattle.tbtree.specs.declared.tree.Place.{Place}
use Rattle.tbtree.specs.declared.tree.TbTree.{TbTree}

-- the page of the leaf after a leaf
abbrev pub next_in : {L B : Type 0} → Option (Option (Node L B)) → ℕ
next_in (Some (Some (ALeaf leaf))) = leaf.next
next_in (Some (Some (AnInner page))) = 0
next_in (Some None) = 0
next_in None = 0

module _ (nodes : Pages LegView BoxView) where
  -- the legs of some pages, one page after another
  abbrev pub legs_on : List ℕ → List LegView
  legs_on pages = flat_map (λ p. legs_in (nodes.at p)) pages

  -- the ordinal of the first leg of a page
  abbrev pub first_on : ℕ → ℕ
  first_on p = first_ordinal (legs_in (nodes.at p))

  -- the page is a leaf of the feature, which comes after `previous`, and has as many of so many legs as a leaf takes
  pub record IsLeafOf (most feature previous left page : ℕ) : Type 0 where
    pub leaf : LeafView LegView
    pub some : 0 < left
    pub above : 0 < page
    pub within : page < nodes.count
    pub is : nodes.at page ≡ Some (Some (ALeaf leaf))
    pub feature_is : leaf.feature ≡ feature
    pub previous_is : leaf.previous ≡ previous
    pub count_is : length leaf.legs ≡ min most left

  -- from a page on, the first one after `previous`, the leaves of the feature have so many legs
  abbrev pub AreLeavesFrom : (most feature previous page left : ℕ) → List ℕ → Type 0
  AreLeavesFrom most feature previous page left [] = (left ≡ 0) × (page ≡ 0)
  AreLeavesFrom most feature previous page left (p ∷ ps) =
      (page ≡ p) × IsLeafOf most feature previous left p
      × AreLeavesFrom most feature p (next_in (nodes.at p)) (left - most) ps

  -- the pages are all leaves of the feature, as its place and its track say them
  pub record AreLeavesOf (most rows feature : ℕ) (place : Place) (track : Track)
      (pages : List ℕ) : Type 0 where
    pub leaves : AreLeavesFrom most feature 0 place.first place.legs pages
    pub last : last_or 0 pages ≡ place.last
    pub in_turn : ComeInTurn feature rows None (legs_on pages)
    pub end : (leg : LegView) → last_leg None (legs_on pages) ≡ Some leg → leg.t1 ≡ track.end
    pub legs : track.legs ≡ place.legs

  -- each feature from that one on has its leaves
  abbrev pub AreChains : (most rows feature : ℕ) → List Place → List Track → List (List ℕ) → Type 0
  AreChains most rows feature [] [] [] = Unit {0}
  AreChains most rows feature [] [] (pages ∷ chains) = ⊥
  AreChains most rows feature [] (track ∷ tracks) chains = ⊥
  AreChains most rows feature (place ∷ places) [] chains = ⊥
  AreChains most rows feature (place ∷ places) (track ∷ tracks) [] = ⊥
  AreChains most rows feature (place ∷ places) (track ∷ tracks) (pages ∷ chains) =
      AreLeavesOf most rows feature place track pages
      × AreChains most rows (suc feature) places tracks chains

-- the pages of each level of a tree over leaves in that order
pub record IsTreeOver (nodes : Pages LegView BoxView) (tree : TbTree) (order : List ℕ)
    (pages : ℕ → List ℕ) : Type 0 where
  pub leaves_are : tree.leaves ≡ length order
  pub base : 0 < tree.levels → pages 0 ≡ order
  pub one_each : (k : ℕ) → k < tree.levels
      → length (pages k) ≡ length (level tree.shape.inner k order)
  pub no_more : (k : ℕ) → tree.levels ≤ k → pages k ≡ []
  pub below_top : (k : ℕ) → suc k < tree.levels → 1 < length (level tree.shape.inner k order)
  pub top : (k : ℕ) → suc k ≡ tree.levels
      → (length (level tree.shape.inner k order) ≡ 1) × (page_at pages k 0 ≡ Some tree.root)
  pub empty : tree.levels ≡ 0 → (order ≡ []) × (tree.root ≡ 0)
  pub within : (k j p : ℕ) → page_at pages k j ≡ Some p → (0 < p) × (p < nodes.count)
  pub inners : (k : ℕ)
      → LevelStands leg_boxes nodes tree.shape.inner (map (λ p. legs_in (nodes.at p)) order) pages k

-- all that a check asks of pages: each has a payload; each feature has its leaves, some, which together have each ordinal
-- once, below the total; features are numbered in the order of their first legs; over the leaves, in the order of their first legs, stands
-- the tree; and the place of each feature says where its last leaf is among them
pub record IsChecked (nodes : Pages LegView BoxView) (tree : TbTree) (rows total : ℕ)
    (places : List Place) (tracks : List Track) : Type 0 where
  pub page_0 : 0 < nodes.count
  pub held : (p : ℕ) → p < nodes.count → nodes.at p ≢ None
  pub chains : List (List ℕ)
  pub are_chains : AreChains nodes tree.shape.leaf rows 0 places tracks chains
  pub some : (f : ℕ) (place : Place) → slice_get places f ≡ Some place → 0 < place.legs
  pub once : IsPermutation (map (λ leg. leg.ordinal) (legs_on nodes (joined chains)))
      (range_with_len 0 total)
  pub firsts : IsRising (λ pages. first_ordinal (legs_on nodes pages)) chains
  pub order : List ℕ
  pub ordered : IsPermutation (joined chains) order
  pub rises : IsRising (first_on nodes) order
  pub pages : ℕ → List ℕ
  pub over : IsTreeOver nodes tree order pages
  pub last_index : (f : ℕ) (place : Place) → slice_get places f ≡ Some place
      → slice_get order place.last_index ≡ Some place.last

-- the chains of the features, whatever stands above them, hold a list of so many legs: each feature has its leaves, some;
-- the legs of all leaves, in the order of their ordinals, which are their places, are the list; and features are numbered
-- in the order of their first legs
pub record HoldChains (nodes : Pages LegView BoxView) (most rows total : ℕ) (places : List Place)
    (tracks : List Track) (legs : List LegView) : Type 0 where
  pub chains : List (List ℕ)
  pub are_chains : AreChains nodes most rows 0 places tracks chains
  pub some : (f : ℕ) (place : Place) → slice_get places f ≡ Some place → 0 < place.legs
  pub moved : IsPermutation (legs_on nodes (joined chains)) legs
  pub numbered : map (λ leg. leg.ordinal) legs ≡ range_with_len 0 total
  pub firsts : IsRising (λ pages. first_ordinal (legs_on nodes pages)) chains

-- pages that hold a list of so many legs, with the places and the tracks of its features
pub record HoldLegs (nodes : Pages LegView BoxView) (tree : TbTree) (rows total : ℕ)
    (places : List Place) (tracks : List Track) : Type 0 where
  pub legs : List LegView
  pub counted : length legs ≡ total
  pub pages : ℕ → List ℕ
  pub stands : Stands nodes tree legs pages
  pub features : length places ≡ feature_count legs
  pub placed : (f : ℕ) (place : Place) → slice_get places f ≡ Some place
      → IsPlace tree legs pages f place
  pub paired : length tracks ≡ length places
  pub tracked : (f : ℕ) (track : Track) → slice_get tracks f ≡ Some track → IsTrack track legs f
  pub led : (f : ℕ) → f < length places → legs_of f legs ≢ []
  pub in_rows : (i : ℕ) (leg : LegView) → slice_get legs i ≡ Some leg → leg.row < rows
