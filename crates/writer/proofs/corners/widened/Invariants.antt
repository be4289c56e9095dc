use Rattle.std.proofs.Common.{◌≡◌, take, fold}
use Rattle.writer.specs.Steps.{corners_with}
use Rattle.writer.proofs.corners.widened.Given as goal

abbrev pub invariant-loop-entry : goal.invariant-loop-entry
invariant-loop-entry l = l.corners ≡ fold corners_with l.initial.corners (take l.entry-index l.entries)
