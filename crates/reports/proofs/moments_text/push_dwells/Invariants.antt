use Rattle.std.proofs.Common.{◌≡◌, ◌++◌, ◌<◌, All, flat_map, length, take}
use Rattle.visiting.specs.declared.dwells.Dwell.{Dwell}
use Rattle.reports.specs.StayTexts.{dwell_text}
use Rattle.reports.proofs.moments_text.push_dwells.Given as goal

-- the features so far are in the book, and their records are appended
abbrev pub invariant-loop-dwell : goal.invariant-loop-dwell
invariant-loop-dwell g l = record {
  there : All (λ (dwell : Dwell). dwell.feature < length l.database.book.names) (take l.dwell-index l.dwells);
  text : l.text.items ≡ l.initial.text.items ++ flat_map (dwell_text l.database.book l.label) (take l.dwell-index l.dwells);
}
