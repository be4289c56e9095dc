use Rattle.std.proofs.Common.{◌≡◌, take}
use Rattle.writer.specs.File.{end_from}
use Rattle.writer.proofs.corners.end_from.Given as goal

abbrev pub invariant-loop-entry : goal.invariant-loop-entry
invariant-loop-entry l = l.end ≡ end_from l.fn.base (take l.entry-index l.entries)
