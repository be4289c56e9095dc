use Rattle.std.proofs.Common.{◌≡◌, All, length, take}
use Rattle.rows.proofs.rows.Rows.have.Given as goal

-- the rows so far have so many
abbrev pub invariant-loop-i : goal.invariant-loop-i
invariant-loop-i l = All (λ row. length row ≡ l.count) (take l.i l.self)
