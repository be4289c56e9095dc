-- Moments: whole milliseconds since 1970-01-01T00:00:00Z.
use Rattle.std.specs.Prelude.{ℕ, ◌&&◌, Bool, if◌then◌else◌, List, Result, Ok, Err, Option, Some, None, ℤ, pos, neg_ℤ, ◌+ℤ◌, ◌≤ℤ◌, int_le}
use Rattle.std.specs.Int.{int_div_euclid}
use Rattle.jiff.specs.Words.{parse_timestamp, Error}
use Rattle.timebase.specs.declared.TimeFault.{TimeFault}
use Rattle.timebase.specs.declared.TimeFault.TheVariants.{Unreadable, OutOfRange}

-- 0001-01-01T00:00:00.000Z
abbrev pub least_moment : ℤ
least_moment = neg_ℤ (pos 62135596800000)

-- 9998-12-31T23:59:59.999Z
abbrev pub greatest_moment : ℤ
greatest_moment = pos 253370764799999

-- a number of milliseconds from the first moment to the last
abbrev pub IsMoment : ℤ → Type 0
IsMoment z = (least_moment ≤ℤ z) × (z ≤ℤ greatest_moment)

-- the same as a test
abbrev pub is_moment : ℤ → Bool
is_moment z = int_le least_moment z && int_le z greatest_moment

-- the moment of that many milliseconds, if there is one
abbrev pub some_moment : ℤ → Option ℤ
some_moment z = if is_moment z then Some z else None

-- the moment, or that it is out of range
abbrev pub moment_within : ℤ → Result ℤ TimeFault
moment_within z = if is_moment z then Ok z else Err OutOfRange

-- the whole milliseconds of the nanoseconds that jiff read, rounded down
abbrev pub moment_from : Result ℤ Error → Result ℤ TimeFault
moment_from (Ok nanoseconds) = moment_within (int_div_euclid nanoseconds (pos 1000000))
moment_from (Err e) = Err Unreadable

-- the moment of an instant text: what jiff reads as a timestamp, rounded down to the millisecond
unfoldable pub moment_of : List ℕ → Result ℤ TimeFault
moment_of text = moment_from (parse_timestamp text)

-- the moment an offset after a base, both in milliseconds
abbrev pub moment_at : ℤ → ℤ → Result ℤ TimeFault
moment_at base offset = moment_within (base +ℤ offset)
