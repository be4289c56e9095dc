-- The node that a payload of a store of version 1 says. Its leaves are laid out otherwise: a leg has no heights and
-- 64 bytes, and at most 63 fit. Its inner pages are those of the present version.
use Rattle.std.specs.Prelude.{ℕ, ◌-◌, ◌==◌, nat_lt, nat_le, Bool, ◌&&◌, ◌||◌, if◌then◌else◌, List, map, pos, Option, Some, None}
use Rattle.std.specs.List.{range_with_len}
use Rattle.legs.specs.Legs.{LegView}
use Rattle.legs.specs.Boxes.{BoxView}
use Rattle.pages.specs.declared.payload.Kind.{Kind}
use Rattle.pages.specs.declared.payload.Kind.TheVariants.{Header, Leaf, Inner, Catalogue}
use Rattle.pages.specs.declared.payload.Payload.{Payload}
use Rattle.tbnode.specs.Nodes.{LeafView, Node, ALeaf}
use Rattle.tbnode.specs.Parts.{number_at, signed_at, slot, all_below}
use Rattle.tbnode.specs.Layout.{has_moments, has_start, has_end}
use Rattle.tbnode.specs.Form.{leaf_feature, leaf_leg_count, node_by}

-- the leg of a feature that 64 bytes say; its heights are 0
unfoldable pub old_leg_of : ℕ → List ℕ → LegView
old_leg_of feature bytes = record {
  ordinal = number_at 8 0 bytes;
  feature = feature;
  t0 = signed_at 8 bytes;
  t1 = signed_at 16 bytes;
  x0 = signed_at 24 bytes;
  y0 = signed_at 32 bytes;
  z0 = pos 0;
  x1 = signed_at 40 bytes;
  y1 = signed_at 48 bytes;
  z1 = pos 0;
  row = number_at 4 56 bytes;
}

-- the 64 bytes say a lawful leg, and the last four are zero
unfoldable pub is_old_leg : List ℕ → Bool
is_old_leg bytes =
    let leg = old_leg_of 0 bytes in
    has_moments leg && has_start leg && has_end leg && (number_at 4 60 bytes == 0)

-- leg i of a leaf
abbrev pub old_leg_at : List ℕ → ℕ → LegView
old_leg_at bytes i = old_leg_of (leaf_feature bytes) (slot 64 i bytes)

-- what a leaf's bytes say
unfoldable pub old_leaf_of : List ℕ → LeafView LegView
old_leaf_of bytes = record {
  feature = leaf_feature bytes;
  previous = number_at 4 4 bytes;
  next = number_at 4 8 bytes;
  legs = map (old_leg_at bytes) (range_with_len 0 (leaf_leg_count bytes));
}

-- leg i is lawful, and its ordinal is above that of the leg before it
unfoldable pub is_old_leg_at : List ℕ → ℕ → Bool
is_old_leg_at bytes i =
    is_old_leg (slot 64 i bytes)
    && ((i == 0) || nat_lt (old_leg_at bytes (i - 1)).ordinal (old_leg_at bytes i).ordinal)

-- the form of a leaf: 1 to 63 legs, lawful, their ordinals rising
unfoldable pub is_old_leaf : List ℕ → Bool
is_old_leaf bytes =
    nat_le 1 (leaf_leg_count bytes) && nat_le (leaf_leg_count bytes) 63 && (number_at 2 14 bytes == 0)
    && all_below (is_old_leg_at bytes) (leaf_leg_count bytes)

-- the node that bytes of a kind say
abbrev pub old_node_by : Kind → List ℕ → Option (Node LegView BoxView)
old_node_by Header bytes = None
old_node_by Leaf bytes = if is_old_leaf bytes then Some (ALeaf (old_leaf_of bytes)) else None
old_node_by Inner bytes = node_by Inner bytes
old_node_by Catalogue bytes = None

-- the node that a payload says; none where no form is met
unfoldable pub old_node_of : Payload → Option (Node LegView BoxView)
old_node_of payload = old_node_by payload.kind payload.bytes
