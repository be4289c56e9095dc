-- The node that a payload says.
use Rattle.std.specs.Prelude.{ℕ, ◌≡◌, ◌+◌, ◌-◌, ◌*◌, ◌==◌, nat_lt, nat_le, Bool, ◌&&◌, ◌||◌, if◌then◌else◌, List, drop, map, Option, Some, None}
use Rattle.std.specs.List.{range_with_len}
use Rattle.legs.specs.Legs.{LegView}
use Rattle.legs.specs.Boxes.{BoxView}
use Rattle.pages.specs.declared.payload.Kind.{Kind}
use Rattle.pages.specs.declared.payload.Kind.TheVariants.{Header, Leaf, Inner, Catalogue}
use Rattle.pages.specs.declared.payload.Payload.{Payload}
use Rattle.tbnode.specs.Nodes.{LeafView, EntryView, InnerView, Node, ALeaf, AnInner}
use Rattle.tbnode.specs.Parts.{number_at, slot, all_below}
use Rattle.tbnode.specs.Layout.{leg_from_bytes, is_leg, entry_from_bytes, is_entry}

-- the numbers of a leaf's head
abbrev pub leaf_feature : List ℕ → ℕ
leaf_feature bytes = number_at 4 0 bytes

-- how many legs a leaf's head counts
abbrev pub leaf_leg_count : List ℕ → ℕ
leaf_leg_count bytes = number_at 2 12 bytes

-- leg i of a leaf
abbrev pub leaf_leg : List ℕ → ℕ → LegView
leaf_leg bytes i = leg_from_bytes (leaf_feature bytes) (slot 80 i bytes)

-- what a leaf's bytes say
unfoldable pub leaf_from_bytes : List ℕ → LeafView LegView
leaf_from_bytes bytes = record {
  feature = leaf_feature bytes;
  previous = number_at 4 4 bytes;
  next = number_at 4 8 bytes;
  legs = map (leaf_leg bytes) (range_with_len 0 (leaf_leg_count bytes));
}

-- leg i is lawful, and its ordinal is above that of the leg before it
unfoldable pub is_leg_at : List ℕ → ℕ → Bool
is_leg_at bytes i =
    is_leg (slot 80 i bytes)
    && ((i == 0) || nat_lt (leaf_leg bytes (i - 1)).ordinal (leaf_leg bytes i).ordinal)

-- the form of a leaf: 1 to 50 legs, lawful, their ordinals rising
unfoldable pub is_leaf : List ℕ → Bool
is_leaf bytes =
    nat_le 1 (leaf_leg_count bytes) && nat_le (leaf_leg_count bytes) 50 && (number_at 2 14 bytes == 0)
    && all_below (is_leg_at bytes) (leaf_leg_count bytes)

-- the numbers of an inner page's head
abbrev pub level_of : List ℕ → ℕ
level_of bytes = number_at 2 0 bytes

-- how many entries an inner page's head counts
abbrev pub entry_count : List ℕ → ℕ
entry_count bytes = number_at 2 2 bytes

-- entry i of an inner page
abbrev pub entry_at : List ℕ → ℕ → EntryView BoxView
entry_at bytes i = entry_from_bytes (slot 56 i bytes)

-- what an inner page's bytes say
unfoldable pub inner_of : List ℕ → InnerView BoxView
inner_of bytes =
    record {
      level = level_of bytes;
      entries = map (entry_at bytes) (range_with_len 0 (entry_count bytes));
    }

-- entry i is lawful
abbrev pub is_entry_at : List ℕ → ℕ → Bool
is_entry_at bytes i = is_entry (slot 56 i bytes)

-- the form of an inner page: a level from 1 on, 1 to 72 entries, their bounds in order
unfoldable pub is_inner : List ℕ → Bool
is_inner bytes =
    nat_le 1 (level_of bytes) && nat_le 1 (entry_count bytes) && nat_le (entry_count bytes) 72
    && ((number_at 8 4 bytes == 0) && (number_at 4 12 bytes == 0))
    && all_below (is_entry_at bytes) (entry_count bytes)

-- the node that bytes of a kind say
abbrev pub node_by : Kind → List ℕ → Option (Node LegView BoxView)
node_by Header bytes = None
node_by Leaf bytes = if is_leaf bytes then Some (ALeaf (leaf_from_bytes bytes)) else None
node_by Inner bytes = if is_inner bytes then Some (AnInner (inner_of bytes)) else None
node_by Catalogue bytes = None

-- the node that a payload says; none where no form is met
unfoldable pub node_of : Payload → Option (Node LegView BoxView)
node_of payload = node_by payload.kind payload.bytes

-- P of the leaf that a payload says, where it says one
abbrev pub OfLeaf : Payload → (LeafView LegView → Type 0) → Type 0
OfLeaf payload P = (leaf : LeafView LegView) → node_of payload ≡ Some (ALeaf leaf) → P leaf

-- the head counts from 1 to 50 legs
unfoldable pub is_counted : List ℕ → Bool
is_counted bytes = nat_le 1 (leaf_leg_count bytes) && nat_le (leaf_leg_count bytes) 50

-- the bytes behind those that a head counts
abbrev pub rest_by : Kind → List ℕ → List ℕ
rest_by Header bytes = bytes
rest_by Leaf bytes = drop (16 + 80 * leaf_leg_count bytes) bytes
rest_by Inner bytes = drop (16 + 56 * entry_count bytes) bytes
rest_by Catalogue bytes = bytes

-- the bytes of a payload behind those that its head counts
unfoldable pub slack_of : Payload → List ℕ
slack_of payload = rest_by payload.kind payload.bytes
