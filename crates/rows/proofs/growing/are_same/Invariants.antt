use Rattle.std.proofs.Common.{◌≡◌, take, drop}
use Rattle.csv.specs.Records.{fields_of}
use Rattle.rows.proofs.growing.are_same.Given as goal

-- the values so far are the same
abbrev pub invariant-loop-i : goal.invariant-loop-i
invariant-loop-i l = take l.i (drop l.one (fields_of l.values)) ≡ take l.i (drop l.other (fields_of l.values))
