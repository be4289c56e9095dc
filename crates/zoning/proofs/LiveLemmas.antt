-- The first and the last moment of a leg in a period are moments of the leg.
use Rattle.std.proofs.Common.{true, ◌≡◌, ℤ, ◌≤ℤ◌, arith}
use Rattle.std.specs.Prelude.{int_le}
use Rattle.std.proofs.lemmas.Int.{clamps, ints}
use Rattle.timebase.specs.Period.{PeriodView}
use Rattle.legs.specs.Legs.{LegView, first_moment, is_live, last_moment}

le_of : (x y : ℤ) → int_le x y ≡ true → x ≤ℤ y
le_of x y h = grind (arith, ints)

pub first_from : (leg : LegView) (period : PeriodView) (z : ℤ) → z ≡ first_moment leg period → leg.t0 ≤ℤ z
first_from leg period z e = omega (arith, ints, clamps, e)

pub last_to : (leg : LegView) (period : PeriodView) (z : ℤ) → z ≡ last_moment leg period → z ≤ℤ leg.t1
last_to leg period z e = omega (arith, ints, clamps, e)

pub first_to : (leg : LegView) (period : PeriodView) (z : ℤ) → is_live period leg ≡ true → z ≡ first_moment leg period → z ≤ℤ leg.t1
first_to leg period z live e = let h = le_of (first_moment leg period) (last_moment leg period) live in omega (arith, ints, clamps, e, h)

pub last_from : (leg : LegView) (period : PeriodView) (z : ℤ) → is_live period leg ≡ true → z ≡ last_moment leg period → leg.t0 ≤ℤ z
last_from leg period z live e = let h = le_of (first_moment leg period) (last_moment leg period) live in omega (arith, ints, clamps, e, h)
