-- Fractions n / d of a millisecond, whole numbers with d above 0.
use Rattle.std.specs.Prelude.{ℕ, ◌≡◌, ℤ, pos, ◌*ℤ◌, ◌≤ℤ◌, unsigned_abs}
use Rattle.std.specs.Int.{IsGcd}
use Rattle.timebase.specs.Instant.{least_moment, greatest_moment}

-- n / d is in lowest terms: no number but 1 divides both
abbrev pub IsLowest : ℤ → ℕ → Type 0
IsLowest n d = IsGcd (unsigned_abs n) d 1

-- n / d lies between the first and the last whole millisecond that there is
abbrev pub IsInTime : ℤ → ℕ → Type 0
IsInTime n d = ((least_moment *ℤ pos d) ≤ℤ n) × (n ≤ℤ (greatest_moment *ℤ pos d))

-- two fractions are the same number
abbrev pub IsSame : ℤ → ℕ → ℤ → ℕ → Type 0
IsSame n d m e = n *ℤ pos e ≡ m *ℤ pos d
