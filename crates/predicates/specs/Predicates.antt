-- What holds for the legs of a feature and a period, of anything that legs can be inside of, as a rectangle.
-- All moments are fractions n / d of a millisecond.
use Rattle.std.specs.Prelude.{ℕ, List, All, Any, IsSomeAnd, ℤ}
use Rattle.timebase.specs.Period.{PeriodView}
use Rattle.legs.specs.Legs.{LegView, IsMomentOf, HasMoment, first_moment, last_moment}
use Rattle.legs.specs.Boxes.{RectView}
use Rattle.legs.specs.Sieves.{first_live, last_live}
use Rattle.clipping.specs.Inside.{HasMomentIn, InRect}
use Rattle.predicates.specs.declared.Predicate.{Predicate}
use Rattle.predicates.specs.declared.Predicate.TheVariants.{Ever, Always, Enters, Leaves, Crosses, Bypasses}

-- there is a moment
unfoldable pub HasAMoment : List LegView → PeriodView → Type 0
HasAMoment legs period = Any (λ leg. HasMoment leg period) legs

-- `Inside leg n d`: at the moment n / d the leg is inside
module _ (Inside : LegView → ℤ → ℕ → Type 0) where
  -- at some moment of some leg that leg is inside
  unfoldable pub IsEverIn : List LegView → PeriodView → Type 0
  IsEverIn legs period = Any (λ leg. HasMomentIn Inside leg period) legs

  -- at all of its moments the leg is inside
  abbrev pub IsThroughoutIn : LegView → PeriodView → Type 0
  IsThroughoutIn leg period = (n : ℤ) (d : ℕ) → IsMomentOf leg period n d → Inside leg n d

  -- at all moments of all legs that leg is inside
  unfoldable pub IsAllIn : List LegView → PeriodView → Type 0
  IsAllIn legs period = All (λ leg. IsThroughoutIn leg period) legs

  -- inside at the first moment: the first live leg is, at its least moment
  unfoldable pub IsFirstIn : List LegView → PeriodView → Type 0
  IsFirstIn legs period = IsSomeAnd (first_live period legs) (λ leg. Inside leg (first_moment leg period) 1)

  -- inside at the last moment: the last live leg is, at its greatest moment
  unfoldable pub IsLastIn : List LegView → PeriodView → Type 0
  IsLastIn legs period = IsSomeAnd (last_live period legs) (λ leg. Inside leg (last_moment leg period) 1)

  -- the predicate holds
  unfoldable pub HoldsIn : Predicate → List LegView → PeriodView → Type 0
  HoldsIn Ever legs period = IsEverIn legs period
  HoldsIn Always legs period = HasAMoment legs period × IsAllIn legs period
  HoldsIn Enters legs period =
      HasAMoment legs period × (IsFirstIn legs period → ⊥) × IsLastIn legs period
  HoldsIn Leaves legs period =
      HasAMoment legs period × IsFirstIn legs period × (IsLastIn legs period → ⊥)
  HoldsIn Crosses legs period =
      HasAMoment legs period × (IsFirstIn legs period → ⊥) × (IsLastIn legs period → ⊥)
      × IsEverIn legs period
  HoldsIn Bypasses legs period = HasAMoment legs period × (IsEverIn legs period → ⊥)

-- the predicate holds with a rectangle
abbrev pub Holds : Predicate → List LegView → RectView → PeriodView → Type 0
Holds predicate legs rect period = HoldsIn (InRect rect) predicate legs period
