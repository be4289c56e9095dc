-- Helpers of private functions: what the private steps of a change say of bytes. No public contract names these words.
use Rattle.std.specs.Prelude.{ℕ, ◌≡◌, ◌+◌, ◌*◌, true, List}
use Rattle.byteorder.specs.Endian.{big_bytes}
use Rattle.legs.specs.Legs.{LegView}
use Rattle.legs.specs.Boxes.{BoxView}
use Rattle.tbnode.specs.Nodes.{EntryView}
use Rattle.tbnode.specs.Parts.{put, number_at}
use Rattle.tbnode.specs.Layout.{leg_bytes, leg_from_bytes, is_leg, entry_bytes, entry_from_bytes, is_entry}

-- the bytes of a leg say that leg, and it is lawful
pub record LegReadsBack (leg : LegView) : Type 0 where
  pub lawful : is_leg (leg_bytes leg) ≡ true
  pub same : leg_from_bytes leg.feature (leg_bytes leg) ≡ leg

-- the bytes of an entry say that entry, and its bounds are in order
pub record EntryReadsBack (entry : EntryView BoxView) : Type 0 where
  pub lawful : is_entry (entry_bytes entry) ≡ true
  pub same : entry_from_bytes (entry_bytes entry) ≡ entry

-- with m bytes more behind those that are counted at a place of the head, and the count one higher
abbrev pub pushed : ℕ → ℕ → List ℕ → List ℕ → List ℕ
pushed m place new bytes =
    let n = number_at 2 place bytes in
    put place (big_bytes 2 (n + 1)) (put (16 + m * n) new bytes)
