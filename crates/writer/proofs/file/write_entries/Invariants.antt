use Rattle.std.proofs.Common.{◌≡◌, ◌++◌, take}
use Rattle.writer.specs.File.{entries_text}
use Rattle.writer.specs.Written.{written}
use Rattle.writer.proofs.file.write_entries.Given as goal

-- the legs so far
abbrev pub invariant-loop-entry : goal.invariant-loop-entry
invariant-loop-entry l = l.records ≡ written (l.initial.records.text ++ entries_text l.fn.frame (take l.entry-index l.entries))
