use Rattle.std.proofs.Common.{◌≡◌, ◌++◌, ◌<◌, All, flat_map, length, take}
use Rattle.moments.specs.declared.stay.Stay.{Stay}
use Rattle.reports.specs.StayTexts.{stay_text}
use Rattle.reports.proofs.moments_text.push_stays.Given as goal

-- the features so far are in the book, and their records are appended
abbrev pub invariant-loop-stay : goal.invariant-loop-stay
invariant-loop-stay g l = record {
  there : All (λ (stay : Stay). stay.leg.feature < length l.database.book.names) (take l.stay-index l.stays);
  text : l.text.items ≡ l.initial.text.items ++ flat_map (stay_text l.database.book l.frame) (take l.stay-index l.stays);
}
