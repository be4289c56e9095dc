use Rattle.std.proofs.Common.{◌≡◌}
use Rattle.boxsearch.proofs.parts.note_lasts.Given as goal

abbrev pub invariant-loop-place : goal.invariant-loop-place
invariant-loop-place g l = record { same : l.cache ≡ l.initial.cache }
