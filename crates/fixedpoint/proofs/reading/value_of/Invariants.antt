use Rattle.std.proofs.Common.{◌≡◌, take}
use Rattle.std.specs.Str.Parse.{digits_value}
use Rattle.fixedpoint.proofs.reading.value_of.Given as goal

-- the digits so far are read
abbrev pub invariant-loop-byte : goal.invariant-loop-byte
invariant-loop-byte l = (l.value ≡ digits_value 10 (take l.byte-index l.digits))
