-- A tree stands for a list of legs, and a leg more in it.
use Rattle.std.specs.Prelude.{ℕ, ◌≡◌, ◌<◌, List, [], ◌∷◌, ◌++◌, set, true, length, slice_get, Some, Result}
use Rattle.legs.specs.Legs.{LegView}
use Rattle.legs.specs.Boxes.{BoxView}
use Rattle.legs.specs.Costs.{leg_feature, leaves_of}
use Rattle.legs.specs.Hull.{Boxes, leg_boxes}
use Rattle.legs.specs.Index.{CanFollowInTurn}
use Rattle.tbtree.specs.Faults.{GivesWrite}
use Rattle.tbtree.specs.Nodes.{Pages, LeafView, ALeaf, Adds, HasLastLeaf, Links}
use Rattle.tbtree.specs.Payloads.{are_of_one_leaf}
use Rattle.tbtree.specs.Stands.{marks, new_leaf, owner, page_at, PlaceStands, TreeStands}
use Rattle.tbtree.specs.declared.tree.Place.{Place}
use Rattle.tbtree.specs.declared.tree.TbTree.{TbTree}
use Rattle.tbtree.specs.declared.fault.TreeFault.{TreeFault}

-- pages that stood for runs stand for them with ys at the end of run i, whose page is last, and which may take them
abbrev pub Grows : {L B : Type 0} (s : Boxes L B) (feature : L → ℕ) (inner levels root : ℕ)
    (old new : Pages L B) (i last : ℕ) (ys : List L) (can : LeafView L → Type 0)
    (result : Result (Unit {0}) TreeFault) → Type 0
Grows {L = L} s feature inner levels root old new i last ys can result =
    (runs : List (List L)) (pages : ℕ → List ℕ) (x : L) (xs : List L)
    → slice_get runs i ≡ Some (x ∷ xs)
    → page_at pages 0 i ≡ Some last
    → ((l : LeafView L) → l.feature ≡ feature x → l.legs ≡ x ∷ xs → can l)
    → TreeStands s feature inner levels root old runs pages
    → GivesWrite result
    (λ _. TreeStands s feature inner levels root new (set runs i ((x ∷ xs) ++ ys)) pages)

-- a leaf of ys has been made, whose page is p, and the leaf last, where there is one, has it as its
-- next
pub record Begins {L B : Type 0} (feature : L → ℕ) (old : Pages L B) (last : ℕ) (ys : List L)
    (new : Pages L B) (p : ℕ) : Type 0 where
  pub mid : Pages L B
  pub adds : Adds old (ALeaf (new_leaf feature last ys)) mid p
  pub alone : last ≡ 0 → new ≡ mid
  pub links : 0 < last → Links mid last p new

-- the pages and the tree's value stand for the legs
pub record Stands (nodes : Pages LegView BoxView) (tree : TbTree) (legs : List LegView)
    (pages : ℕ → List ℕ) : Type 0 where
  pub in_turn : CanFollowInTurn [] legs
  pub tree_stands : TreeStands leg_boxes leg_feature tree.shape.inner tree.levels tree.root nodes
      (leaves_of tree.shape legs) pages
  pub leaves_are : tree.leaves ≡ length (leaves_of tree.shape legs)

-- the place of the feature f
abbrev pub IsPlace : TbTree → List LegView → (ℕ → List ℕ) → ℕ → Place → Type 0
IsPlace tree legs pages f place =
    PlaceStands leg_feature legs (marks leg_feature (leaves_of tree.shape legs) (pages 0)) f place

-- a leaf of ys may be begun behind the leaf last, where there is one
pub record CanBegin (nodes : Pages LegView BoxView) (last : ℕ) (ys : List LegView) : Type 0 where
  pub there : last < nodes.count
  pub end : 0 < last → HasLastLeaf nodes last (owner leg_feature ys)
  pub one : are_of_one_leaf ys ≡ true

-- a place that has legs names their last leaf, and one that has none names none
abbrev pub NamesLast : Place → Type 0
NamesLast place = (place.legs ≡ 0 → place.last ≡ 0) × (place.last ≡ 0 → place.legs ≡ 0)
