-- The moment of a time field, by the unit in which it is written.
use Rattle.std.specs.Prelude.{ℕ, List, Result, Ok, Err, ℤ}
use Rattle.fixedpoint.specs.Number.{offset_of, minutes_of}
use Rattle.fixedpoint.specs.declared.NumberFault.{NumberFault}
use Rattle.fixedpoint.specs.declared.NumberFault.TheVariants.{Shape, Range}
use Rattle.timebase.specs.Instant.{moment_of, moment_at}
use Rattle.timebase.specs.declared.TimeFault.{TimeFault}
use Rattle.timebase.specs.declared.TimeFault.TheVariants.{Unreadable, OutOfRange}
use Rattle.timebase.specs.declared.Unit.{Unit}
use Rattle.timebase.specs.declared.Unit.TheVariants.{Sec, Minute, Absolute}

-- the moment an offset after a start, as far as the offset was read
abbrev pub moment_after : ℤ → Result ℤ NumberFault → Result ℤ TimeFault
moment_after start (Ok offset) = moment_at start offset
moment_after start (Err Shape) = Err Unreadable
moment_after start (Err Range) = Err OutOfRange

-- the moment of a time field: so many seconds or minutes after the start, or an instant of its own
unfoldable pub time_of : Unit → ℤ → List ℕ → Result ℤ TimeFault
time_of Sec start text = moment_after start (offset_of text)
time_of Minute start text = moment_after start (minutes_of text)
time_of Absolute start text = moment_of text
