use Rattle.std.proofs.Common.{take}
use Rattle.legs.specs.Book.{Book}
use Rattle.legs.specs.Tracks.{StandsFor}
use Rattle.legs.specs.Joining.{IsJoining}
use Rattle.legs.proofs.joining.join.Given as goal

abbrev pub invariant-loop-record : goal.invariant-loop-record
invariant-loop-record l = (book : Book) → StandsFor l.tracks book → IsJoining l.limits l.joiner book (take l.record-index l.records)
