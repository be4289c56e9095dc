-- What the pages of a tree stand for. `pages k` has the numbers of the pages of level k, in order.
use Rattle.std.specs.Prelude.{ℕ, suc, ◌≡◌, ◌<◌, ◌≤◌, ◌==◌, false, cond, List, [], ◌∷◌, map, take, drop, length, slice_get, Option, Some, None, ◌≢◌}
use Rattle.std.specs.List.{zip, count_by}
use Rattle.legs.specs.Blocks.{block, level}
use Rattle.legs.specs.Costs.{ShapeView}
use Rattle.legs.specs.Finding.{FeaturePlace}
use Rattle.legs.specs.Hull.{Boxes, hull_of}
pub use Rattle.legs.specs.Nodes.{new_leaf, owner}
use Rattle.tbtree.specs.declared.tree.Place.{Place}
use Rattle.tbtree.specs.declared.tree.TbTree.{TbTree}
use Rattle.tbtree.specs.Nodes.{Pages, ALeaf, AnInner, LeafView, InnerView, children, boxes}

-- the first number of a list, 0 for none
abbrev pub head_or_zero : List ℕ → ℕ
head_or_zero [] = 0
head_or_zero (x ∷ xs) = x

-- the last number of a list, or another one for none
abbrev pub last_or : ℕ → List ℕ → ℕ
last_or d [] = d
last_or d (x ∷ xs) = last_or x xs

-- the pages of one feature, from features and pages
abbrev pub pages_of : ℕ → List (ℕ × ℕ) → List ℕ
pages_of f [] = []
pages_of f (m ∷ ms) = cond (m.0 == f) (m.1 ∷ pages_of f ms) (pages_of f ms)

-- page j of level k
abbrev pub page_at : (ℕ → List ℕ) → ℕ → ℕ → Option ℕ
page_at pages k j = slice_get (pages k) j

-- each leaf's feature and page
abbrev pub marks : {L : Type 0} → (L → ℕ) → List (List L) → List ℕ → List (ℕ × ℕ)
marks feature runs pages = zip (map (owner feature) runs) pages

-- the leaf i of those marked: linked with the pages of its feature before and after it
abbrev pub leaf_of : {L : Type 0} → ℕ → List (ℕ × ℕ) → ℕ → List L → LeafView L
leaf_of f ms i legs = record {
  feature = f;
  previous = last_or 0 (pages_of f (take i ms));
  next = head_or_zero (pages_of f (drop (suc i) ms));
  legs = legs;
}

-- each block of each level has a page of its own, of those from 1 on and below count
pub record NumbersStand {L : Type 0} (inner levels root count : ℕ) (runs : List (List L))
    (pages : ℕ → List ℕ) : Type 0 where
  pub page_0 : 0 < count
  pub one_each : (k : ℕ) → k < levels → length (pages k) ≡ length (level inner k runs)
  pub no_more : (k : ℕ) → levels ≤ k → pages k ≡ []
  pub below_top : (k : ℕ) → suc k < levels → 1 < length (level inner k runs)
  pub top : (k : ℕ) → suc k ≡ levels
      → (length (level inner k runs) ≡ 1) × (page_at pages k 0 ≡ Some root)
  pub empty : levels ≡ 0 → (runs ≡ []) × (root ≡ 0)
  pub within : (k j p : ℕ) → page_at pages k j ≡ Some p → (0 < p) × (p < count)
  pub apart : (k j k' j' p : ℕ) → page_at pages k j ≡ Some p → page_at pages k' j' ≡ Some p
      → (k ≡ k') × (j ≡ j')

-- each leaf has its page, linked with the others of its feature
abbrev pub LeavesStand : {L B : Type 0} → Pages L B → (L → ℕ) → List (List L) → List ℕ → Type 0
LeavesStand {L = L} nodes feature runs pages =
    (i p : ℕ) (r : List L) → slice_get pages i ≡ Some p → slice_get runs i ≡ Some r
    → nodes.at p
    ≡ Some (Some (ALeaf (leaf_of (owner feature r) (marks feature runs pages) i r)))

module _ {L B : Type 0} (s : Boxes L B) (nodes : Pages L B) where
  -- the page p, of the height, has an entry for each of the blocks: its page, and the least box of its legs
  pub record InnerStands (p height : ℕ) (below : List ℕ)
      (blocks : List (List (List L))) : Type 0 where
    pub page : InnerView B
    pub is : nodes.at p ≡ Some (Some (AnInner page))
    pub height_is : page.level ≡ height
    pub children_are : children page ≡ below
    pub boxes_are : map Some (boxes page) ≡ map (hull_of s) blocks

  -- each page of level k + 1 has an entry for each block of its group of level k
  abbrev pub LevelStands : ℕ → List (List L) → (ℕ → List ℕ) → ℕ → Type 0
  LevelStands inner runs pages k =
      (j p : ℕ) → page_at pages (suc k) j ≡ Some p
      → InnerStands p (suc k) (block inner j (pages k)) (block inner j (level inner k runs))

-- the nodes stand for the runs
pub record TreeStands {L B : Type 0} (s : Boxes L B) (feature : L → ℕ) (inner levels root : ℕ)
    (nodes : Pages L B) (runs : List (List L)) (pages : ℕ → List ℕ) : Type 0 where
  pub held : (p : ℕ) → p < nodes.count → nodes.at p ≢ None
  pub numbers : NumbersStand inner levels root nodes.count runs pages
  pub leaves : LeavesStand nodes feature runs (pages 0)
  pub inners : (k : ℕ) → LevelStands s nodes inner runs pages k

-- a feature's place: its first and last page, the last one's number among all leaves, and the number of its legs; all zero where it has none
pub record PlaceStands {L : Type 0} (feature : L → ℕ) (legs : List L) (ms : List (ℕ × ℕ)) (f : ℕ)
    (place : Place) : Type 0 where
  pub first : place.first ≡ head_or_zero (pages_of f ms)
  pub last : place.last ≡ last_or 0 (pages_of f ms)
  pub legs_are : place.legs ≡ count_by (λ l. feature l == f) legs
  pub last_index : 0 < place.legs
      → (slice_get ms place.last_index ≡ Some (f, place.last))
      × (pages_of f (drop (suc place.last_index) ms) ≡ [])
  pub none : place.legs ≡ 0 → (place.first ≡ 0) × (place.last ≡ 0) × (place.last_index ≡ 0)

-- the place of a feature without legs
abbrev pub no_place : Place
no_place = record { first = 0; last = 0; last_index = 0; legs = 0 }

-- the tree without legs
abbrev pub empty_tree : ShapeView → TbTree
empty_tree shape = record { root = 0; levels = 0; leaves = 0; shape = shape; spent = false }

-- where a feature's legs are
abbrev pub place_of : Place → FeaturePlace
place_of p = record { first = p.first; last = p.last; last_index = p.last_index; legs = p.legs }
