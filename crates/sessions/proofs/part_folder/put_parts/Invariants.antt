use Rattle.std.proofs.Common.{◌≡◌, ◌≤◌, ◌-◌}
use Rattle.sessions.specs.Parts.{parts_from, with_puts}
use Rattle.sessions.proofs.part_folder.put_parts.Given as goal

-- the first parts were put
abbrev pub invariant-loop-done : goal.invariant-loop-done
invariant-loop-done g l = record {
  within : l.done ≤ l.count;
  puts : g.F.PartFolder.seen l.folder ≡ with_puts (g.F.PartFolder.seen l.initial.folder) (parts_from l.first l.done l.n l.bytes);
}

abbrev pub decreases-loop-done : goal.decreases-loop-done
decreases-loop-done g l = l.count - l.done
