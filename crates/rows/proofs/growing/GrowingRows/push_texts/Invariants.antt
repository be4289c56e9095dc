use Rattle.std.proofs.Common.{◌≡◌, ◌++◌, take}
use Rattle.rows.proofs.growing.GrowingRows.push_texts.Given as goal

-- the values so far are put
abbrev pub invariant-loop-text : goal.invariant-loop-text
invariant-loop-text l = l.self ≡ record { rows = l.initial.self.rows; row = l.initial.self.row ++ take l.text-index l.texts }
