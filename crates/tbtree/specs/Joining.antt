-- More legs in a tree, whatever the order in which the legs before it came.
use Rattle.std.specs.Prelude.{ℕ, ◌≡◌, ◌≢◌, ◌<◌, ◌≤◌, true, false, List, [], ◌∷◌, ◌++◌, length, All, Result, Err, IfErr, IsTrue, OnErr, OnOk}
use Rattle.legs.specs.Legs.{LegView}
use Rattle.legs.specs.Boxes.{BoxView}
use Rattle.legs.specs.Costs.{leg_feature, leaves_of}
use Rattle.legs.specs.Hull.{leg_boxes}
use Rattle.legs.specs.Index.{feature_count}
use Rattle.pagecache.specs.Cache.{Cache}
use Rattle.tbtree.specs.Faults.{GivesWrite, RefusesWrite}
use Rattle.tbtree.specs.Nodes.{Pages, pages_of_cache}
use Rattle.tbtree.specs.Passes.{KeepsLength, Passes, Touches}
use Rattle.tbtree.specs.Stands.{TreeStands}
use Rattle.tbtree.specs.Insert.{IsPlace}
use Rattle.tbtree.specs.declared.tree.Place.{Place}
use Rattle.tbtree.specs.declared.tree.TbTree.{TbTree}
use Rattle.tbtree.specs.declared.fault.TreeFault.{TreeFault}
use Rattle.tbtree.specs.declared.fault.TreeFault.TheVariants.{Spent}

-- the pages and the tree's value stand for the leaves of the legs, which may have come in any order
pub record Holds (nodes : Pages LegView BoxView) (tree : TbTree) (legs : List LegView)
    (pages : ℕ → List ℕ) : Type 0 where
  pub tree_stands : TreeStands leg_boxes leg_feature tree.shape.inner tree.levels tree.root nodes
      (leaves_of tree.shape legs) pages
  pub leaves_are : tree.leaves ≡ length (leaves_of tree.shape legs)

-- a leg may join legs: its ordinal is above those of its feature's legs
abbrev pub CanJoin : List LegView → LegView → Type 0
CanJoin legs y = All (λ l. l.feature ≡ y.feature → l.ordinal < y.ordinal) legs

-- legs of one feature may join legs, one after another
abbrev pub CanJoinInTurn : List LegView → List LegView → Type 0
CanJoinInTurn legs [] = Unit {0}
CanJoinInTurn legs (y ∷ ys) = CanJoin legs y × CanJoinInTurn (legs ++ y ∷ []) ys

-- they hold the legs with ys, of the feature f, at the end, and each feature has its place
pub record AllJoined (nodes : Pages LegView BoxView) (old tree : TbTree) (legs : List LegView)
    (old_pages : ℕ → List ℕ) (f : ℕ) (ys : List LegView) (place : Place) : Type 0 where
  pub pages : ℕ → List ℕ
  pub stands : Holds nodes tree (legs ++ ys) pages
  pub placed : IsPlace tree (legs ++ ys) pages f place
  pub others : (g : ℕ) (other : Place) → g ≢ f → IsPlace old legs old_pages g other
      → IsPlace tree (legs ++ ys) pages g other

-- pages that hold legs hold them with more legs of one feature that may join in turn, or a refusal
-- that good pages allow
abbrev pub JoinsAll : (old new : Pages LegView BoxView) (tree tree' : TbTree) (place place' : Place)
    (ys : List LegView) (result : Result (Unit {0}) TreeFault) → Type 0
JoinsAll old new tree tree' place place' ys result =
    (f : ℕ) (legs : List LegView) (pages : ℕ → List ℕ)
    → Holds old tree legs pages
    → IsPlace tree legs pages f place
    → All (λ y. y.feature ≡ f) ys
    → CanJoinInTurn legs ys
    → GivesWrite result (λ _. AllJoined new tree tree' legs pages f ys place')

-- what putting legs of one feature in does to a tree that is not spent, to the feature's place and to the cache
pub record Fills (old new : Cache) (tree tree' : TbTree) (place place' : Place) (ys : List LegView)
    (result : Result (Unit {0}) TreeFault) : Type 0 where
  pub joins : IsTrue old.store.is_faithful
      → JoinsAll (pages_of_cache old) (pages_of_cache new) tree tree' place place' ys result
  pub spent : tree'.spent ≡ tree.spent
  pub shape : tree'.shape ≡ tree.shape
  pub touches : Touches old new result

-- what an insertion of legs of one feature does
pub record InsertCall (old new : Cache) (tree tree' : TbTree) (place place' : Place)
    (ys : List LegView) (result : Result (Unit {0}) TreeFault) : Type 0 where
  -- pages that hold legs in any order hold them with these, each of which has an ordinal above those of its feature's
  -- legs before it
  pub joins : tree.spent ≡ false → IsTrue old.store.is_faithful
      → JoinsAll (pages_of_cache old) (pages_of_cache new) tree tree' place place' ys result
  -- the tree keeps its shape
  pub shape : tree'.shape ≡ tree.shape
  -- page 0 is kept, and nothing goes, over any pages
  pub passes : Passes old new
  -- after `Ok` the cache counts all pages of the store, if it did before
  pub length : OnOk result (KeepsLength old new)
  -- the store failed or is full only if it did or is, and a page that is said to be damaged has no payload
  pub caused : tree.spent ≡ false → IfErr result (RefusesWrite old new)
  -- after `Ok` the tree is not spent, and after an error it is
  pub works : OnOk result (tree'.spent ≡ false)
  pub spent : OnErr result (tree'.spent ≡ true)
  -- a spent tree refuses, and nothing changes
  pub was_spent : tree.spent ≡ true → (result ≡ Err Spent)
      × (tree' ≡ tree) × (place' ≡ place) × (new ≡ old)

-- a leg may be put into the index of some legs: it may join them, and its feature is there, or is the next one
pub record CanTake (legs : List LegView) (leg : LegView) : Type 0 where
  pub joins : CanJoin legs leg
  pub feature : leg.feature ≤ feature_count legs

-- these legs may, one after another
abbrev pub CanTakeInTurn : List LegView → List LegView → Type 0
CanTakeInTurn legs [] = Unit {0}
CanTakeInTurn legs (leg ∷ others) = CanTake legs leg × CanTakeInTurn (legs ++ leg ∷ []) others
