use Rattle.std.proofs.Common.{◌≡◌, All, map, length}
use Rattle.std.specs.List.{range_with_len}
use Rattle.mfcsv.specs.Unread.{IsBetweenRows, bytes_left}
use Rattle.parts.specs.Part.{whole_part}
use Rattle.parts.specs.Raw.{raw_left}
use Rattle.parts.proofs.ManyLemmas.{IsClean, with_rows}
use Rattle.parts.proofs.cutting.whole_parts.Given as goal

-- what was written of each part, and what stands in the place of the records that are left, is its text
abbrev pub invariant-rows : goal.invariant-rows
invariant-rows l = record {
  between : IsBetweenRows l.reader;
  clean : All IsClean l.texts.items;
  whole : map (with_rows l.n (raw_left l.reader)) l.texts.items ≡ map (λ k. whole_part k l.n l.bytes) (range_with_len l.first l.count);
}

abbrev pub decreases-rows : goal.decreases-rows
decreases-rows l = length (bytes_left l.reader)
