-- Stays of legs in a rectangle: fractions n / d of a millisecond, whole numbers with d above 0.
use Rattle.std.specs.Prelude.{ℕ, ◌≡◌, ◌≤◌, ◌⊎◌, List, [], ◌∷◌, ℤ, pos, ◌+ℤ◌, ◌*ℤ◌, ◌≤ℤ◌, ◌<ℤ◌}
use Rattle.timebase.specs.Period.{PeriodView}
use Rattle.mfcsv.specs.declared.Position.{Position}
use Rattle.legs.specs.Legs.{LegView}
use Rattle.legs.specs.Boxes.{RectView}
use Rattle.clipping.specs.Inside.{HasMomentInside, IsMomentInside, duration, scaled_at}
use Rattle.moments.specs.Ends.{IsEndBy}
use Rattle.moments.specs.declared.stay.Stay.{Stay}

module _ (leg : LegView) (rect : RectView) (period : PeriodView) where
  -- n / d is the first moment in the period at which the leg is inside the rectangle: it is one, and none is before it
  pub record IsFirst (n : ℤ) (d : ℕ) : Type 0 where
    pub inside : IsMomentInside leg rect period n d
    pub least : (m : ℤ) (e : ℕ) → IsMomentInside leg rect period m e → (n *ℤ pos e) ≤ℤ (m *ℤ pos d)

  -- the last: none is after it
  pub record IsLast (n : ℤ) (d : ℕ) : Type 0 where
    pub inside : IsMomentInside leg rect period n d
    pub greatest : (m : ℤ) (e : ℕ) → IsMomentInside leg rect period m e
        → (m *ℤ pos d) ≤ℤ (n *ℤ pos e)

  -- it is inside at each moment from n / d to m / e
  abbrev pub IsInsideFrom : (n m : ℤ) (d e : ℕ) → Type 0
  IsInsideFrom n m d e =
      (j : ℤ) (q : ℕ) → 1 ≤ q → (n *ℤ pos q) ≤ℤ (j *ℤ pos d) → (j *ℤ pos e) ≤ℤ (m *ℤ pos q)
      → IsMomentInside leg rect period j q

-- u is the greatest whole number that is at most what goes evenly from a to b in a leg's duration, at the moment n / d
pub record IsCoordAt (leg : LegView) (a b n : ℤ) (d : ℕ) (u : ℤ) : Type 0 where
  pub most : (u *ℤ (pos d *ℤ duration leg)) ≤ℤ scaled_at leg a b n d
  pub next : scaled_at leg a b n d <ℤ ((u +ℤ pos 1) *ℤ (pos d *ℤ duration leg))

-- the position is that of the leg at the moment n / d, each coordinate rounded down
pub record IsPositionAt (leg : LegView) (n : ℤ) (d : ℕ) (position : Position) : Type 0 where
  pub x : IsCoordAt leg leg.x0 leg.x1 n d position.x
  pub y : IsCoordAt leg leg.y0 leg.y1 n d position.y
  pub z : IsCoordAt leg leg.z0 leg.z1 n d position.z

-- the stay is of the leg, from the first moment at which it is inside to the last, and at each between; it has the leg's
-- positions at both, and says what both are: the leg's own end, or else the period's, or else neither
pub record IsStay (rect : RectView) (period : PeriodView) (leg : LegView)
    (stay : Stay) : Type 0 where
  pub same : stay.leg ≡ leg
  pub first : IsFirst leg rect period stay.enters.num stay.enters.den
  pub last : IsLast leg rect period stay.leaves.num stay.leaves.den
  pub between : IsInsideFrom leg rect period stay.enters.num stay.leaves.num stay.enters.den
      stay.leaves.den
  pub entry : IsPositionAt leg stay.enters.num stay.enters.den stay.entry
  pub exit : IsPositionAt leg stay.leaves.num stay.leaves.den stay.exit
  pub begun : IsEndBy stay.enters leg.t0 period.start stay.enters_by
  pub ended : IsEndBy stay.leaves leg.t1 period.end stay.leaves_by

-- the stays are, in the order of the legs, one of each leg that is inside at some moment in the period, and no others
abbrev pub AreStays : RectView → PeriodView → List LegView → List Stay → Type 0
AreStays rect period [] stays = stays ≡ []
AreStays rect period (leg ∷ legs) stays =
    ((stay : Stay) × (others : List Stay) × (stays ≡ stay ∷ others) × IsStay rect period leg stay
    × AreStays rect period legs others)
    ⊎ ((HasMomentInside leg rect period → ⊥) × AreStays rect period legs stays)
