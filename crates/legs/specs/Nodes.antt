-- What a page of a tree says: a leaf of legs, or an inner page of entries.
use Rattle.std.specs.Prelude.{ℕ, zero, suc, List, [], ◌∷◌, ◌++◌, map, Option, Some, None}
use Rattle.legs.specs.Hull.{Boxes, both, hull}

-- legs of one feature, in the order of their ordinals, with the pages of the feature's leaves before and after (0 for none)
pub record LeafView (L : Type 0) : Type 0 where
  pub feature : ℕ
  pub previous : ℕ
  pub next : ℕ
  pub legs : List L

-- a page below, and a box: the least one that holds its legs, in a tree that stands for legs
pub record EntryView (B : Type 0) : Type 0 where
  pub child : ℕ
  pub bounds : B

-- entries, on a level above the leaves
pub record InnerView (B : Type 0) : Type 0 where
  pub level : ℕ
  pub entries : List (EntryView B)

-- a node of a tree: a leaf of legs or an inner page of entries
pub data Node (L B : Type 0) : Type 0 where
  ALeaf : LeafView L → Node L B
  AnInner : InnerView B → Node L B

-- the leaf, where the node is one
abbrev pub as_leaf : {L B : Type 0} → Option (Node L B) → Option (LeafView L)
as_leaf (Some (ALeaf leaf)) = Some leaf
as_leaf _ = None

-- the inner page, where the node is one
abbrev pub as_inner : {L B : Type 0} → Option (Node L B) → Option (InnerView B)
as_inner (Some (AnInner page)) = Some page
as_inner _ = None

-- a leaf with a leg more at its end
abbrev pub with_leg : {L : Type 0} → L → LeafView L → LeafView L
with_leg leg leaf = record leaf { legs = leaf.legs ++ leg ∷ [] }

-- a leaf with another next leaf
abbrev pub with_next : {L : Type 0} → ℕ → LeafView L → LeafView L
with_next page leaf = record leaf { next = page }

-- an inner page with an entry more at its end
abbrev pub with_entry : {B : Type 0} → EntryView B → InnerView B → InnerView B
with_entry entry page = record page { entries = page.entries ++ entry ∷ [] }

-- the entries, with the bounds of entry i covering a box as well
abbrev pub widened : {B : Type 0} → (B → B → B) → ℕ → B → List (EntryView B) → List (EntryView B)
widened cover i box [] = []
widened cover zero box (e ∷ es) = record e { bounds = cover e.bounds box } ∷ es
widened cover (suc i) box (e ∷ es) = e ∷ widened cover i box es

-- an inner page with one entry widened
abbrev pub with_wider : {B : Type 0} → (B → B → B) → ℕ → B → InnerView B → InnerView B
with_wider cover i box page = record page { entries = widened cover i box page.entries }

-- a leaf with legs more at its end
abbrev pub with_legs : {L : Type 0} → List L → LeafView L → LeafView L
with_legs legs leaf = record leaf { legs = leaf.legs ++ legs }

-- the feature of some legs
abbrev pub owner : {L : Type 0} → (L → ℕ) → List L → ℕ
owner feature [] = 0
owner feature (l ∷ ls) = feature l

-- a leaf of legs, with that leaf before it and none after it
abbrev pub new_leaf : {L : Type 0} → (L → ℕ) → ℕ → List L → LeafView L
new_leaf feature previous legs =
    record { feature = owner feature legs; previous = previous; next = 0; legs = legs }

module _ {L B : Type 0} (s : Boxes L B) where
  -- the least box that holds some boxes, and all that a page has
  abbrev pub cover_all : List B → Option B
  cover_all [] = None
  cover_all (b ∷ bs) = both s (Some b) (cover_all bs)

  -- the least box of a node's legs or entries; none if it has none
  abbrev pub cover_of_page : Node L B → Option B
  cover_of_page (ALeaf l) = hull s l.legs
  cover_of_page (AnInner x) = cover_all (map (λ e. e.bounds) x.entries)
