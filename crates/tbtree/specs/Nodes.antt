-- The pages of a tree.
use Rattle.std.specs.Prelude.{ℕ, ◌≡◌, ◌≢◌, ◌+◌, ◌<◌, length, List, map, slice_get, Option, Some, option_map}
use Rattle.legs.specs.Legs.{LegView}
use Rattle.legs.specs.Boxes.{BoxView}
use Rattle.legs.specs.Hull.{Boxes}
use Rattle.pagecache.specs.Cache.{Cache, payload_of}
use Rattle.tbnode.specs.Form.{node_of}
pub use Rattle.legs.specs.Nodes.{
  LeafView,
  EntryView,
  InnerView,
  Node,
  ALeaf,
  AnInner,
  cover_all,
  cover_of_page,
  with_legs,
  with_next,
  with_entry,
  with_wider,
  widened,
}

-- the pages below an inner page
abbrev pub children : {B : Type 0} → InnerView B → List ℕ
children page = map (λ e. e.child) page.entries

-- the boxes of the entries of an inner page
abbrev pub boxes : {B : Type 0} → InnerView B → List B
boxes page = map (λ e. e.bounds) page.entries

-- pages by their numbers: which have a payload, and what each says as a page of a tree, if anything; and how many
-- there are
pub record Pages (L B : Type 0) : Type 0 where
  pub at : ℕ → Option (Option (Node L B))
  pub count : ℕ

-- the pages of a cache
abbrev pub pages_of_cache : Cache → Pages LegView BoxView
pages_of_cache c = record { at = λ p. option_map node_of (payload_of c p); count = c.count }

-- the page p is now the node, and no other has changed
pub record Becomes {L B : Type 0} (old : Pages L B) (p : ℕ) (node : Node L B)
    (new : Pages L B) : Type 0 where
  pub now : new.at p ≡ Some (Some node)
  pub rest : (q : ℕ) → q ≢ p → new.at q ≡ old.at q

module _ {L B : Type 0} (s : Boxes L B) where
  -- the page p, of the height, has entry e widened to hold y; c is that entry's child
  pub record Widens (old : Pages L B) (p height e : ℕ) (y : B) (new : Pages L B)
      (c : ℕ) : Type 0 where
    pub page : InnerView B
    pub was : old.at p ≡ Some (Some (AnInner page))
    pub height_is : page.level ≡ height
    pub child : slice_get (children page) e ≡ Some c
    pub becomes : Becomes old p (AnInner (with_wider s.cover e y page)) new
    pub counted : new.count ≡ old.count

  -- y is the least box that holds all that the page p has
  pub record Covers (old : Pages L B) (p : ℕ) (y : B) (new : Pages L B) : Type 0 where
    pub node : Node L B
    pub is : old.at p ≡ Some (Some node)
    pub cover : cover_of_page s node ≡ Some y
    pub rest : (q : ℕ) → new.at q ≡ old.at q
    pub counted : new.count ≡ old.count

-- the leaf p has ys at its end
pub record Pushes {L B : Type 0} (old : Pages L B) (p : ℕ) (ys : List L)
    (new : Pages L B) : Type 0 where
  pub leaf : LeafView L
  pub was : old.at p ≡ Some (Some (ALeaf leaf))
  pub becomes : Becomes old p (ALeaf (with_legs ys leaf)) new
  pub counted : new.count ≡ old.count

-- the leaf p has q as its next
pub record Links {L B : Type 0} (old : Pages L B) (p q : ℕ) (new : Pages L B) : Type 0 where
  pub leaf : LeafView L
  pub was : old.at p ≡ Some (Some (ALeaf leaf))
  pub becomes : Becomes old p (ALeaf (with_next q leaf)) new
  pub counted : new.count ≡ old.count

-- the inner page p, of the height, has one more entry at its end
pub record Attaches {L B : Type 0} (old : Pages L B) (p height c : ℕ) (y : B)
    (new : Pages L B) : Type 0 where
  pub page : InnerView B
  pub was : old.at p ≡ Some (Some (AnInner page))
  pub height_is : page.level ≡ height
  pub becomes : Becomes old p (AnInner (with_entry (record { child = c; bounds = y }) page)) new
  pub counted : new.count ≡ old.count

-- a node at the end, whose number is p
pub record Adds {L B : Type 0} (old : Pages L B) (node : Node L B) (new : Pages L B)
    (p : ℕ) : Type 0 where
  pub number : p ≡ old.count
  pub becomes : Becomes old p node new
  pub counted : new.count ≡ old.count + 1

-- the page p is an inner page of the height and has an entry e
pub record HasEntry {L B : Type 0} (nodes : Pages L B) (p height e : ℕ) : Type 0 where
  pub above : 0 < p
  pub page : InnerView B
  pub is : nodes.at p ≡ Some (Some (AnInner page))
  pub height_is : page.level ≡ height
  pub within : e < length page.entries

-- the page p is an inner page of the height with less than most entries
pub record HasRoom {L B : Type 0} (nodes : Pages L B) (p height most : ℕ) : Type 0 where
  pub above : 0 < p
  pub page : InnerView B
  pub is : nodes.at p ≡ Some (Some (AnInner page))
  pub height_is : page.level ≡ height
  pub few : length page.entries < most

-- the page p is a leaf
pub record HasLeaf {L B : Type 0} (nodes : Pages L B) (p : ℕ) : Type 0 where
  pub above : 0 < p
  pub leaf : LeafView L
  pub is : nodes.at p ≡ Some (Some (ALeaf leaf))

-- the page p is a leaf of the feature, and none is behind it
pub record HasLastLeaf {L B : Type 0} (nodes : Pages L B) (p feature : ℕ) : Type 0 where
  pub above : 0 < p
  pub leaf : LeafView L
  pub is : nodes.at p ≡ Some (Some (ALeaf leaf))
  pub own : leaf.feature ≡ feature
  pub end : leaf.next ≡ 0

-- the page p is a leaf that may take what it is to take
pub record HasLeafRoom {L B : Type 0} (nodes : Pages L B) (p : ℕ)
    (can : LeafView L → Type 0) : Type 0 where
  pub above : 0 < p
  pub leaf : LeafView L
  pub is : nodes.at p ≡ Some (Some (ALeaf leaf))
  pub takes : can leaf

-- the page p has something
pub record HasCover {L B : Type 0} (s : Boxes L B) (nodes : Pages L B) (p : ℕ) : Type 0 where
  pub node : Node L B
  pub is : nodes.at p ≡ Some (Some node)
  pub box : B
  pub cover : cover_of_page s node ≡ Some box
