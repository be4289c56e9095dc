use Rattle.std.proofs.Common.{◌≡◌, ◌++◌, take}
use Rattle.rows.proofs.rows.Rows.push_rows.Given as goal

-- those that were put so far
abbrev pub invariant-loop-i : goal.invariant-loop-i
invariant-loop-i l = l.self ≡ l.initial.self ++ take l.i l.others
