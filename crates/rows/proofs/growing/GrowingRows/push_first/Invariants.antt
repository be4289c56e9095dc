use Rattle.std.proofs.Common.{◌≡◌, ◌++◌, take}
use Rattle.rows.proofs.growing.GrowingRows.push_first.Given as goal

-- the values so far are put
abbrev pub invariant-loop-i : goal.invariant-loop-i
invariant-loop-i l = l.self ≡ record { rows = l.initial.self.rows; row = l.initial.self.row ++ take l.i l.row }
