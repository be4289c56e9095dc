use Rattle.std.proofs.Common.{take, length}
use Rattle.legs.specs.Counting.{AddsNames}
use Rattle.legs.specs.Names.{fresh_names}
use Rattle.legs.proofs.tracks.Tracks.push_names.Given as goal

abbrev pub invariant-loop-place : goal.invariant-loop-place
invariant-loop-place l = AddsNames l.initial.self l.self (fresh_names (length l.initial.self.names) (take l.place l.names.names) (take l.place l.names.latest))
