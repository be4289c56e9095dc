use Rattle.std.proofs.Common.{length}
use Rattle.mfcsv.specs.Rows.{words}
use Rattle.mfcsv.proofs.PositionLemmas.{IsReading}
use Rattle.mfcsv.proofs.data_record.read_positions.Given as goal
use denote.Shadow.{shadow}
use denote.Text.{Utf8}

abbrev pub invariant-loop-word : goal.invariant-loop-word
invariant-loop-word l = IsReading l.dimension (words l.text) l.positions.items l.waiting (words l.rest) × shadow (Utf8 l.rest)

abbrev pub decreases-loop-word : goal.decreases-loop-word
decreases-loop-word l = length l.rest
