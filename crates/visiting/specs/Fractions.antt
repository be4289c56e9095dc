-- Whole numbers next to fractions n / d, with d above 0.
use Rattle.std.specs.Prelude.{ℕ, ℤ, pos, ◌+ℤ◌, ◌*ℤ◌, ◌≤ℤ◌, ◌<ℤ◌}

-- m is the greatest whole number of parts of which p make one that is at most n / d
abbrev pub IsFloor : ℤ → ℤ → ℕ → ℤ → Type 0
IsFloor p n d m = ((m *ℤ pos d) ≤ℤ (n *ℤ p)) × ((n *ℤ p) <ℤ ((m +ℤ pos 1) *ℤ pos d))

-- m is the least such number that is at least n / d
abbrev pub IsCeiling : ℤ → ℤ → ℕ → ℤ → Type 0
IsCeiling p n d m = ((n *ℤ p) ≤ℤ (m *ℤ pos d)) × (((m *ℤ pos d)) <ℤ (n *ℤ p +ℤ pos d))
