-- How a leg and an entry lie in bytes, and how bytes are read as them.
use Rattle.std.specs.Prelude.{ℕ, ◌==◌, Bool, ◌&&◌, List, ◌++◌, replicate, int_le, int_lt}
use Rattle.std.specs.Option.{is_some}
use Rattle.byteorder.specs.Endian.{big_bytes}
use Rattle.fixedpoint.specs.Number.{units_within}
use Rattle.timebase.specs.Instant.{some_moment}
use Rattle.legs.specs.Legs.{LegView}
use Rattle.legs.specs.Boxes.{BoxView}
use Rattle.tbnode.specs.Nodes.{EntryView}
use Rattle.tbnode.specs.Parts.{number_at, signed_at, signed_bytes}

-- the 80 bytes of a leg; its feature is the leaf's
unfoldable pub leg_bytes : LegView → List ℕ
leg_bytes leg =
    big_bytes 8 leg.ordinal
    ++ (signed_bytes leg.t0
    ++ (signed_bytes leg.t1
    ++ (signed_bytes leg.x0
    ++ (signed_bytes leg.y0
    ++ (signed_bytes leg.z0
    ++ (signed_bytes leg.x1
    ++ (signed_bytes leg.y1
    ++ (signed_bytes leg.z1
    ++ (big_bytes 4 leg.row
    ++ replicate 4 0)))))))))

-- the leg of a feature that 80 bytes say
unfoldable pub leg_from_bytes : ℕ → List ℕ → LegView
leg_from_bytes feature bytes = record {
  ordinal = number_at 8 0 bytes;
  feature = feature;
  t0 = signed_at 8 bytes;
  t1 = signed_at 16 bytes;
  x0 = signed_at 24 bytes;
  y0 = signed_at 32 bytes;
  z0 = signed_at 40 bytes;
  x1 = signed_at 48 bytes;
  y1 = signed_at 56 bytes;
  z1 = signed_at 64 bytes;
  row = number_at 4 72 bytes;
}

-- the moments rise, and both are in range
unfoldable pub has_moments : LegView → Bool
has_moments leg =
    int_lt leg.t0 leg.t1 && is_some (some_moment leg.t0) && is_some (some_moment leg.t1)

-- the coordinates of its start are in range
unfoldable pub has_start : LegView → Bool
has_start leg =
    is_some (units_within leg.x0) && is_some (units_within leg.y0) && is_some (units_within leg.z0)

-- the coordinates of its end are in range
unfoldable pub has_end : LegView → Bool
has_end leg =
    is_some (units_within leg.x1) && is_some (units_within leg.y1) && is_some (units_within leg.z1)

-- the 80 bytes say a lawful leg, and the last four are zero
unfoldable pub is_leg : List ℕ → Bool
is_leg bytes =
    let leg = leg_from_bytes 0 bytes in
    has_moments leg && has_start leg && has_end leg && (number_at 4 76 bytes == 0)

-- the 56 bytes of an entry
unfoldable pub entry_bytes : EntryView BoxView → List ℕ
entry_bytes entry =
    big_bytes 4 entry.child
    ++ (replicate 4 0
    ++ (signed_bytes entry.bounds.x_min
    ++ (signed_bytes entry.bounds.y_min
    ++ (signed_bytes entry.bounds.t_min
    ++ (signed_bytes entry.bounds.x_max
    ++ (signed_bytes entry.bounds.y_max
    ++ signed_bytes entry.bounds.t_max))))))

-- the box that 56 bytes say
unfoldable pub bounds_from_bytes : List ℕ → BoxView
bounds_from_bytes bytes = record {
  x_min = signed_at 8 bytes;
  y_min = signed_at 16 bytes;
  t_min = signed_at 24 bytes;
  x_max = signed_at 32 bytes;
  y_max = signed_at 40 bytes;
  t_max = signed_at 48 bytes;
}

-- the entry that 56 bytes say
abbrev pub entry_from_bytes : List ℕ → EntryView BoxView
entry_from_bytes bytes = record { child = number_at 4 0 bytes; bounds = bounds_from_bytes bytes }

-- no least bound is above its greatest
abbrev pub is_box : BoxView → Bool
is_box b = int_le b.x_min b.x_max && int_le b.y_min b.y_max && int_le b.t_min b.t_max

-- the 56 bytes say an entry whose bounds are in order, and the four bytes after the child are zero
unfoldable pub is_entry : List ℕ → Bool
is_entry bytes = is_box (bounds_from_bytes bytes) && (number_at 4 4 bytes == 0)
