-- What the clipping of a leg answers.
use Rattle.std.specs.Prelude.{ℕ, ◌≤◌, Option, MatchOption, ◌↔◌, ℤ, pos, ◌-ℤ◌, ◌*ℤ◌}
use Rattle.timebase.specs.Period.{PeriodView}
use Rattle.legs.specs.Legs.{LegView}
use Rattle.legs.specs.Boxes.{RectView}
use Rattle.clipping.specs.Inside.{IsMomentInside, HasMomentInside, duration}
use Rattle.clipping.specs.Line.{IsWithin}
use Rattle.clipping.specs.declared.line.Cut.{Cut}

-- the moments of the leg in the period at which it is inside are exactly those between the cut's fractions of its duration
abbrev pub IsClip : LegView → RectView → PeriodView → Cut → Type 0
IsClip leg rect period cut =
    (n : ℤ) (d : ℕ) → 1 ≤ d
    → IsMomentInside leg rect period n d
    ↔ IsWithin cut (n -ℤ leg.t0 *ℤ pos d) (pos d *ℤ duration leg)

-- the cut, and that there is such a moment; or that there is none
unfoldable pub Clips : LegView → RectView → PeriodView → Option Cut → Type 0
Clips leg rect period answer =
    MatchOption answer
    (HasMomentInside leg rect period → ⊥)
    (λ cut. IsClip leg rect period cut × HasMomentInside leg rect period)
