use Rattle.std.proofs.Common.{length}
use Rattle.trajdb.specs.Calls.{HasLoad}
use Rattle.trajdb.specs.Script.{lines_of}
use Rattle.trajdb.proofs.script.has_load.Given as goal

-- a `load` is among the lines that are left, or there is none
abbrev pub invariant-loop-rest : goal.invariant-loop-rest
invariant-loop-rest l = record {
  behind : HasLoad (lines_of l.script) → HasLoad (lines_of l.rest);
  within : HasLoad (lines_of l.rest) → HasLoad (lines_of l.script);
}

abbrev pub decreases-loop-rest : goal.decreases-loop-rest
decreases-loop-rest l = length l.rest
