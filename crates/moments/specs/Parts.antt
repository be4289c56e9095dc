-- Helpers of private functions: moments and positions at a fraction of a leg's duration.
use Rattle.std.specs.Prelude.{ℕ, ◌≡◌, ℤ, pos, ◌+ℤ◌, ◌-ℤ◌, ◌*ℤ◌, ◌≤ℤ◌, ◌<ℤ◌}
use Rattle.legs.specs.Legs.{LegView}
use Rattle.clipping.specs.Inside.{duration}
use Rattle.clipping.specs.declared.line.Frac.{Frac}

-- the part lies from the start to the end
abbrev pub IsPart : Frac → Type 0
IsPart part = (pos 0 ≤ℤ part.num) × (part.num ≤ℤ part.den)

-- n / d is the moment at that part of the leg's duration
pub record IsAt (leg : LegView) (part : Frac) (n : ℤ) (d : ℕ) : Type 0 where
  pub at : (n -ℤ leg.t0 *ℤ pos d) *ℤ part.den ≡ (duration leg *ℤ part.num) *ℤ pos d

-- u is the greatest whole number that is at most what goes evenly from a to b, at that part of the way
pub record IsWhole (part : Frac) (a b u : ℤ) : Type 0 where
  pub most : (u *ℤ part.den) ≤ℤ (a *ℤ part.den +ℤ (b -ℤ a) *ℤ part.num)
  pub next : (a *ℤ part.den +ℤ (b -ℤ a) *ℤ part.num) <ℤ ((u +ℤ pos 1) *ℤ part.den)
