-- When a leg is inside a rectangle: at fractions n / d of a millisecond, whole numbers with d above 0.
use Rattle.std.specs.Prelude.{ℕ, if◌then◌else◌, Option, Some, None, ℤ, pos, ◌+ℤ◌, ◌-ℤ◌, ◌*ℤ◌, ◌≤ℤ◌}
use Rattle.timebase.specs.Period.{PeriodView}
use Rattle.legs.specs.Legs.{LegView, IsMomentOf, first_moment, is_live, last_moment}
use Rattle.legs.specs.Boxes.{RectView}

-- the duration of a leg
abbrev pub duration : LegView → ℤ
duration leg = leg.t1 -ℤ leg.t0

-- what goes evenly from a to b in a leg's duration, at the moment n / d, times d and the duration
abbrev pub scaled_at : LegView → ℤ → ℤ → ℤ → ℕ → ℤ
scaled_at leg a b n d = a *ℤ (pos d *ℤ duration leg) +ℤ (b -ℤ a) *ℤ (n -ℤ leg.t0 *ℤ pos d)

-- at the moment n / d the leg is inside the rectangle, edges included
pub record IsInside (leg : LegView) (rect : RectView) (n : ℤ) (d : ℕ) : Type 0 where
  pub left : (rect.x_min *ℤ (pos d *ℤ duration leg)) ≤ℤ scaled_at leg leg.x0 leg.x1 n d
  pub right : scaled_at leg leg.x0 leg.x1 n d ≤ℤ (rect.x_max *ℤ (pos d *ℤ duration leg))
  pub below : (rect.y_min *ℤ (pos d *ℤ duration leg)) ≤ℤ scaled_at leg leg.y0 leg.y1 n d
  pub above : scaled_at leg leg.y0 leg.y1 n d ≤ℤ (rect.y_max *ℤ (pos d *ℤ duration leg))

-- What a leg can be inside of is told by `Inside leg n d`: at the moment n / d the leg is inside.
-- n / d is a moment of the leg in the period, and the leg is inside at it
pub record IsMomentIn (Inside : LegView → ℤ → ℕ → Type 0) (leg : LegView) (period : PeriodView)
    (n : ℤ) (d : ℕ) : Type 0 where
  pub moment : IsMomentOf leg period n d
  pub inside : Inside leg n d

-- the leg has a moment in the period at which it is inside
abbrev pub HasMomentIn : (LegView → ℤ → ℕ → Type 0) → LegView → PeriodView → Type 0
HasMomentIn Inside leg period = (n : ℤ) × (d : ℕ) × IsMomentIn Inside leg period n d

-- inside the rectangle
abbrev pub InRect : RectView → LegView → ℤ → ℕ → Type 0
InRect rect leg n d = IsInside leg rect n d

-- n / d is a moment of the leg in the period, and the leg is inside the rectangle at it
abbrev pub IsMomentInside : LegView → RectView → PeriodView → ℤ → ℕ → Type 0
IsMomentInside leg rect period n d = IsMomentIn (InRect rect) leg period n d

-- the leg has a moment in the period at which it is inside the rectangle
abbrev pub HasMomentInside : LegView → RectView → PeriodView → Type 0
HasMomentInside leg rect period = HasMomentIn (InRect rect) leg period

-- the least and the greatest moment of a leg in a period, where it has one
abbrev pub live_ends : LegView → PeriodView → Option (ℤ × ℤ)
live_ends leg period =
    if is_live period leg then Some (first_moment leg period, last_moment leg period) else None
