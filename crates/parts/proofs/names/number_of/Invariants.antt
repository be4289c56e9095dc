use Rattle.std.proofs.Common.{◌≡◌, ◌<◌, take}
use Rattle.parts.specs.Names.{number_of}
use Rattle.parts.proofs.names.number_of.Given as goal

-- the number of the bytes so far
abbrev pub invariant-loop-byte : goal.invariant-loop-byte
invariant-loop-byte l = record {
  value : l.number ≡ number_of (take l.byte-index l.name);
  small : l.number < 4294967291;
}
