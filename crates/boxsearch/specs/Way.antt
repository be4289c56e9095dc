-- Which pages are as a search expects them, on its way down from the root.
use Rattle.std.specs.Prelude.{ℕ, suc, false, ◌≡◌, ◌+◌, ◌≤◌, ◌++◌, Bool, List, length, Some, slice_get, Result, IsTrue, IfErr, IfOk, OnOk}
use Rattle.std.specs.List.{All, flat_map}
use Rattle.legs.specs.Legs.{LegView}
use Rattle.legs.specs.Boxes.{BoxView, boxes_meet}
use Rattle.legs.specs.Costs.{RisesBy}
use Rattle.legs.specs.Hull.{leg_boxes}
use Rattle.pagecache.specs.Cache.{Cache, AsksOnce}
pub use Rattle.tbtree.specs.Descent.{IsOnLevel}
use Rattle.tbtree.specs.Descent.{legs_met, pages_met, met_count, IsInOrder}
use Rattle.tbtree.specs.Faults.{IfNamed, RefusesRead}
use Rattle.tbtree.specs.Nodes.{Pages, pages_of_cache}
use Rattle.tbtree.specs.declared.fault.TreeFault.{TreeFault}
use Rattle.tbtree.specs.declared.tree.TbTree.{TbTree}
use Rattle.chains.specs.Reads.{OnlyReads, Reads}
use Rattle.chains.specs.Taking.{IsNodeFault}

-- the test of a search
abbrev pub meets : BoxView → BoxView → Bool
meets query bounds = boxes_meet bounds query

-- of some pages, p is one of which P does not hold
abbrev pub IsOneNot : (P : ℕ → Type 0) → List ℕ → ℕ → Type 0
IsOneNot P pages p = (place : ℕ) × (slice_get pages place ≡ Some p) × (P p → ⊥)

module _ (query : BoxView) (nodes : Pages LegView BoxView) (root levels : ℕ) where
  -- each page that is met is one of its level, and no more are met than there are
  pub record IsWay : Type 0 where
    pub fit : (n k : ℕ) → n + suc k ≡ levels
        → All (λ p. IsOnLevel nodes k p) (pages_met (meets query) nodes root n)
    pub few : (n : ℕ) → n ≤ levels → met_count (meets query) nodes root n ≤ nodes.count

  -- page p is met n levels below the root, and is not one of its level; or with that level more are met than there are
  pub record IsOffWay (p : ℕ) : Type 0 where
    pub n : ℕ
    pub k : ℕ
    pub level_is : n + suc k ≡ levels
    pub off : IsOneNot
        (λ q. IsOnLevel nodes k q × (met_count (meets query) nodes root (suc n) ≤ nodes.count))
        (pages_met (meets query) nodes root n) p

-- what a search does, over any pages
pub record Searches {T : Type 0} (query : BoxView) (tree : TbTree) (old new : Cache)
    (items : T → List LegView) (result : Result T TreeFault) : Type 0 where
  -- the legs of the pages that are met are found, in order
  pub met : IsTrue old.store.is_faithful
      → IfOk result (λ found. IsInOrder
      (legs_met leg_boxes (meets query) (pages_of_cache old) tree.root tree.levels) (items found))
  -- it succeeds only if every page that it meets is what the tree expects there
  pub way : IsTrue old.store.is_faithful
      → OnOk result (IsWay query (pages_of_cache old) tree.root tree.levels)
  -- a page that is named is met and is not what the tree expects, or met with more than there are
  pub named : IsTrue old.store.is_faithful
      → IfErr result (IfNamed (IsOffWay query (pages_of_cache old) tree.root tree.levels))
  -- it asks once for each page that it meets
  pub asked : IsTrue old.store.is_faithful
      → OnOk result (RisesBy old.asked new.asked
      (met_count (meets query) (pages_of_cache old) tree.root tree.levels))
  -- it asks for no more pages than there are
  pub most : new.asked ≤ old.asked + old.count
  -- no payload changes, and no page more is changed or written
  pub reads : OnlyReads old new
  -- `Store` is returned only if the store failed, and a page that is called damaged has no payload
  pub caused : tree.spent ≡ false → IfErr result (RefusesRead old new)

-- a payload that is fit gives a piece of what is found, and any other one is refused
pub record Pushes {X : Type 0} (fit : Type 0) (piece : List X) (page : ℕ) (before after : List X)
    (result : Result (Unit {0}) TreeFault) : Type 0 where
  pub pushed : OnOk result (after ≡ before ++ piece)
  pub way : OnOk result fit
  pub refused : IfErr result (IsNodeFault (fit → ⊥) page)

module _ {X : Type 0} (is : Pages LegView BoxView → ℕ → Type 0)
    (gives : Pages LegView BoxView → ℕ → List X) where
  -- a page that is as expected gives what it says, and any other one is named
  pub record PageCall (page : ℕ) (old new : Cache) (before after : List X)
      (result : Result (Unit {0}) TreeFault) : Type 0 where
    pub pushed : IsTrue old.store.is_faithful
        → OnOk result (after ≡ before ++ gives (pages_of_cache old) page)
    pub way : IsTrue old.store.is_faithful → OnOk result (is (pages_of_cache old) page)
    pub named : IsTrue old.store.is_faithful
        → IfErr result (IfNamed (λ n. (n ≡ page) × (is (pages_of_cache old) page → ⊥)))
    pub reads : Reads old new result
    pub asked : OnOk result (AsksOnce old new)
    pub most : new.asked ≤ old.asked + 1

  -- pages that are each as expected give what they say, one after another, and one that is not is named
  pub record LevelCall {T : Type 0} (pages : List ℕ) (old new : Cache) (items : T → List X)
      (result : Result T TreeFault) : Type 0 where
    pub found : IsTrue old.store.is_faithful
        → IfOk result (λ found. items found ≡ flat_map (gives (pages_of_cache old)) pages)
    pub way : IsTrue old.store.is_faithful → OnOk result (All (is (pages_of_cache old)) pages)
    pub named : IsTrue old.store.is_faithful
        → IfErr result (IfNamed (IsOneNot (is (pages_of_cache old)) pages))
    pub reads : Reads old new result
    pub asked : OnOk result (RisesBy old.asked new.asked (length pages))
    pub most : new.asked ≤ old.asked + length pages
