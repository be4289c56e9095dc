-- Helpers of private functions: the way from the root to a block, and a block that is hung on it.
use Rattle.std.specs.Prelude.{ℕ, suc, ◌≡◌, ◌≢◌, ◌+◌, ◌/◌, ◌%◌, ◌^◌, ◌<◌, ◌≤◌, List, [], ◌∷◌, ◌++◌, set, length, slice_get, Some, Result, None}
use Rattle.legs.specs.Blocks.{groups}
use Rattle.tbtree.specs.Faults.{GivesWrite}
use Rattle.legs.specs.Hull.{Boxes, both, hull, hull_of}
use Rattle.tbtree.specs.Nodes.{Pages}
use Rattle.tbtree.specs.declared.fault.TreeFault.{TreeFault}
use Rattle.tbtree.specs.declared.tree.Top.{Top}
use Rattle.tbtree.specs.Stands.{page_at, NumbersStand, LeavesStand, InnerStands, LevelStands, TreeStands}

-- among the groups of m, the one of number j holds box more, and no other has changed
pub record Wider {L B : Type 0} (s : Boxes L B) (m : ℕ) (runs after : List (List L)) (j : ℕ)
    (box : B) : Type 0 where
  pub was : List (List L)
  pub is : List (List L)
  pub found : slice_get (groups m runs) j ≡ Some was
  pub becomes : groups m after ≡ set (groups m runs) j is
  pub holds : hull_of s is ≡ both s (hull_of s was) (Some box)

-- no page has changed but those of levels above K
pub record Kept {L B : Type 0} (old new : Pages L B) (pages : ℕ → List ℕ) (K : ℕ) : Type 0 where
  pub as_many : new.count ≡ old.count
  pub held : (p : ℕ) → new.at p ≡ None → old.at p ≡ None
  pub same : (p : ℕ) → ((k j : ℕ) → page_at pages (suc k) j ≡ Some p → k < K) → new.at p ≡ old.at p

module _ {L B : Type 0} (s : Boxes L B) (inner : ℕ) where
  -- p is the page of block j of level K, and the levels above stand for the runs after
  pub record IsWidened (old new : Pages L B) (after : List (List L)) (pages : ℕ → List ℕ)
      (K j p : ℕ) : Type 0 where
    pub found : page_at pages K j ≡ Some p
    pub kept : Kept old new pages K
    pub above : (k : ℕ) → K ≤ k → LevelStands s new inner after pages k

  -- the levels from K on stand for the runs. Block j of level K has leaf i, and after them it has box more, as the blocks above it
  pub record Going (levels root : ℕ) (nodes : Pages L B) (K j : ℕ) (box : B)
      (runs after : List (List L)) (pages : ℕ → List ℕ) (count i : ℕ) : Type 0 where
    pub block : j ≡ i / inner ^ K
    pub wider : (k : ℕ) → K ≤ k → Wider s (inner ^ k) runs after (i / inner ^ k) box
    pub numbers : NumbersStand inner levels root count runs pages
    pub above : (k : ℕ) → K ≤ k → LevelStands s nodes inner runs pages k

  -- the block's page is found, and the levels above it are widened
  abbrev pub IsOnWay : (levels root : ℕ) (old new : Pages L B) (K j : ℕ) (box : B)
      (result : Result ℕ TreeFault) → Type 0
  IsOnWay levels root old new K j box result =
      (runs after : List (List L)) (pages : ℕ → List ℕ) (count i : ℕ)
      → Going levels root old K j box runs after pages count i
      → GivesWrite result (λ p. IsWidened old new after pages K j p)

module _ {L B : Type 0} (s : Boxes L B) (feature : L → ℕ) (inner : ℕ) where
  -- ys are a new leaf, and with it a block of each level up to K is new. Their pages are count,
  -- count + 1 and so on, each the only child of the next. The last is not hung yet, and all else is
  -- as it was
  pub record Hanging (levels root : ℕ) (nodes : Pages L B) (runs : List (List L)) (ys : List L)
      (pages : ℕ → List ℕ) (count K : ℕ) : Type 0 where
    pub numbers : NumbersStand inner levels root count runs pages
    pub as_many : nodes.count ≡ count + suc K
    pub held : (p : ℕ) → p < nodes.count → nodes.at p ≢ None
    pub full : length runs % inner ^ K ≡ 0
    pub filled : (i : ℕ) → slice_get runs i ≢ Some []
    pub leaves : LeavesStand nodes feature (runs ++ ys ∷ []) (pages 0 ++ count ∷ [])
    pub begun : (k : ℕ) → k < K
        → InnerStands s nodes (count + suc k) (suc k) ((count + k) ∷ []) ((ys ∷ []) ∷ [])
    pub inners : (k : ℕ) → LevelStands s nodes inner runs pages k

  -- the nodes stand for the runs with ys in a leaf of their own, whose page is count
  pub record Hung (levels root : ℕ) (nodes : Pages L B) (runs : List (List L)) (ys : List L)
      (leaves : List ℕ) (count : ℕ) : Type 0 where
    pub pages : ℕ → List ℕ
    pub leaves_are : pages 0 ≡ leaves ++ count ∷ []
    pub tree : TreeStands s feature inner levels root nodes (runs ++ ys ∷ []) pages

  -- the page p of block j of level K is hung
  abbrev pub Hangs : (levels root : ℕ) (old new : Pages L B) (K j p : ℕ) (box : B)
      (result : Result Top TreeFault) → Type 0
  Hangs levels root old new K j p box result =
      (runs : List (List L)) (ys : List L) (pages : ℕ → List ℕ) (count : ℕ)
      → hull s ys ≡ Some box
      → p ≡ count + K
      → j ≡ length runs / inner ^ K
      → Hanging levels root old runs ys pages count K
      → GivesWrite result (λ top. Hung top.levels top.root new runs ys (pages 0) count)
