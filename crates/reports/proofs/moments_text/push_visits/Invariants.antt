use Rattle.std.proofs.Common.{◌≡◌, ◌++◌, ◌<◌, All, flat_map, length, take}
use Rattle.moments.specs.declared.visits.Visit.{Visit}
use Rattle.reports.specs.StayTexts.{visit_text}
use Rattle.reports.proofs.moments_text.push_visits.Given as goal

-- the features so far are in the book, and their records are appended
abbrev pub invariant-loop-visit : goal.invariant-loop-visit
invariant-loop-visit g l = record {
  there : All (λ (visit : Visit). visit.feature < length l.database.book.names) (take l.visit-index l.visits);
  text : l.text.items ≡ l.initial.text.items ++ flat_map (visit_text l.database.book l.frame) (take l.visit-index l.visits);
}
