-- Helpers of private functions: the levels of a tree over its leaves, from the root down.
use Rattle.std.specs.Prelude.{ℕ, zero, suc, ◌≡◌, ◌+◌, ◌^◌, ◌<◌, ◌≤◌, List, [], ◌∷◌, map, slice_get, Option, Some}
use Rattle.legs.specs.Blocks.{block, groups}
use Rattle.legs.specs.Boxes.{BoxView}
use Rattle.legs.specs.Hull.{leg_boxes}
use Rattle.legs.specs.Legs.{LegView}
use Rattle.std.specs.List.{All, flat_map}
use Rattle.tbtree.specs.Descent.{entries_in}
use Rattle.treecheck.specs.Check.{IsTreeOver}
use Rattle.tbtree.specs.Nodes.{Pages, AnInner, InnerView, boxes, children, cover_all}
use Rattle.tbtree.specs.declared.tree.TbTree.{TbTree}
use Rattle.treecheck.specs.Walking.{IsMet}
use Rattle.treecheck.specs.declared.walking.Met.{Met}

-- so many levels of pages with so many entries each are needed over so many leaves
pub record IsHeight (inner leaves height : ℕ) : Type 0 where
  pub some : 0 < leaves
  pub fewer : (k : ℕ) → k < height → inner ^ k < leaves
  pub enough : leaves ≤ inner ^ height

-- the pages that page p names
abbrev pub named_by : Pages LegView BoxView → ℕ → List ℕ
named_by nodes p = map (λ e. e.child) (entries_in (nodes.at p))

-- the pages so many levels below the root
abbrev pub named_below : Pages LegView BoxView → (root : ℕ) → ℕ → List ℕ
named_below nodes root zero = root ∷ []
named_below nodes root (suc n) = flat_map (named_by nodes) (named_below nodes root n)

-- the pages of leaves
abbrev pub pages_of_leaves : List Met → List ℕ
pages_of_leaves leaves = map (λ m. m.page) leaves

-- the least box that holds leaves
abbrev pub cover_of_leaves : List Met → Option BoxView
cover_of_leaves leaves = cover_all leg_boxes (map (λ m. m.bounds) leaves)

-- leaves are as they were met
abbrev pub AreMet : Pages LegView BoxView → List Met → Type 0
AreMet nodes leaves = All (λ (m : Met). IsMet (nodes.at m.page) m) leaves

-- leaves are on pages of the tree
abbrev pub AreInside : Pages LegView BoxView → List Met → Type 0
AreInside nodes leaves = All (λ p. (0 < p) × (p < nodes.count)) (pages_of_leaves leaves)

-- above a level of blocks of so many leaves: entry i of the page is for group i of the leaves, and holds no more; the entries
-- of level 1 are for the leaves themselves
pub record IsAbove (height width : ℕ) (leaves : List Met) (page : InnerView BoxView) : Type 0 where
  pub height_is : page.level ≡ height
  pub boxes_are : map Some (boxes page) ≡ map cover_of_leaves (groups width leaves)
  pub leaves_are : height ≡ 1 → children page ≡ pages_of_leaves leaves

-- the page p is such a page
pub record StandsAbove (nodes : Pages LegView BoxView) (height width : ℕ) (leaves : List Met)
    (p : ℕ) : Type 0 where
  pub above : 0 < p
  pub within : p < nodes.count
  pub page : InnerView BoxView
  pub is : nodes.at p ≡ Some (Some (AnInner page))
  pub is_above : IsAbove height width leaves page

-- page j is such a page for block j of the leaves, of so many each
abbrev pub AllStandAbove : Pages LegView BoxView → (height width span : ℕ) → List Met → List ℕ
    → Type 0
AllStandAbove nodes height width span leaves pages =
    (j p : ℕ) → slice_get pages j ≡ Some p → StandsAbove nodes height width (block span j leaves) p

-- the pages of each level above the leaves are such pages
abbrev pub LevelsStandAbove : Pages LegView BoxView → (inner height root : ℕ) → List Met → Type 0
LevelsStandAbove nodes inner height root leaves =
    (k n : ℕ) → n + suc k ≡ height
    → AllStandAbove nodes (suc k) (inner ^ k) (inner ^ suc k) leaves (named_below nodes root n)

-- a tree stands over leaves in that order
pub record StandsOver (nodes : Pages LegView BoxView) (tree : TbTree)
    (order : List ℕ) : Type 0 where
  pub pages : ℕ → List ℕ
  pub is_over : IsTreeOver nodes tree order pages
