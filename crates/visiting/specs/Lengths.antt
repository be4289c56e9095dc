-- How long it is from one moment to another, in whole microseconds. A moment is a fraction n / d of milliseconds.
use Rattle.std.specs.Prelude.{ℕ, ◌+◌, ◌≤◌, ℤ, pos, negsuc, ◌-ℤ◌, ◌*ℤ◌, ◌≤ℤ◌}
use Rattle.std.specs.Int.{int_div_euclid}

-- the moment in microseconds, rounded down
abbrev pub micros_down : ℤ → ℕ → ℤ
micros_down n d = int_div_euclid (n *ℤ pos 1000) (pos d)

-- and rounded up
abbrev pub micros_up : ℤ → ℕ → ℤ
micros_up n d = pos 0 -ℤ int_div_euclid ((pos 0 -ℤ n) *ℤ pos 1000) (pos d)

-- a number, or 0 in the place of one below 0
abbrev pub not_below_0 : ℤ → ℕ
not_below_0 (pos n) = n
not_below_0 (negsuc n) = 0

-- from the first whole microsecond at or after n / d to the last at or before m / e
abbrev pub least_between : ℤ → ℕ → ℤ → ℕ → ℕ
least_between n d m e = not_below_0 (micros_down m e -ℤ micros_up n d)

-- the length with both moments rounded outwards
abbrev pub most_between : ℤ → ℕ → ℤ → ℕ → ℕ
most_between n d m e = not_below_0 (micros_up m e -ℤ micros_down n d)

-- n / d is no later than m / e
abbrev pub IsNoLater : ℤ → ℕ → ℤ → ℕ → Type 0
IsNoLater n d m e = (n *ℤ pos e) ≤ℤ (m *ℤ pos d)

-- what goes by from n / d to m / e, times both denominators, in microseconds
abbrev pub scaled_length : ℤ → ℕ → ℤ → ℕ → ℤ
scaled_length n d m e = (m *ℤ pos d -ℤ n *ℤ pos e) *ℤ pos 1000

-- that is at least so many microseconds and at most so many, which are 2 apart at most
pub record IsBetween (n : ℤ) (d : ℕ) (m : ℤ) (e : ℕ) (least most : ℕ) : Type 0 where
  pub least_is : (pos least *ℤ (pos d *ℤ pos e)) ≤ℤ scaled_length n d m e
  pub most_is : scaled_length n d m e ≤ℤ (pos most *ℤ (pos d *ℤ pos e))
  pub near : most ≤ (least + 2)
