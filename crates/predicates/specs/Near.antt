-- Where the legs are of which a predicate holds, and which of them it looks at.
use Rattle.std.specs.Prelude.{ℤ, pos, neg_ℤ}
use Rattle.fixedpoint.specs.Number.{most as most_units}
use Rattle.timebase.specs.Period.{PeriodView}
use Rattle.legs.specs.Boxes.{RectView, BoxView, box_over}
use Rattle.legs.specs.declared.sieve.Sieve.{Sieve}
use Rattle.legs.specs.declared.sieve.Sieve.TheVariants as sieve
use Rattle.predicates.specs.declared.Predicate.{Predicate}
use Rattle.predicates.specs.declared.Predicate.TheVariants.{Ever, Always, Enters, Leaves, Crosses, Bypasses}

-- the greatest coordinate
abbrev pub greatest_coordinate : ℤ
greatest_coordinate = pos most_units

-- the box over a period, of all x and y
abbrev pub plane_over : PeriodView → BoxView
plane_over period =
    record {
      x_min = neg_ℤ greatest_coordinate;
      y_min = neg_ℤ greatest_coordinate;
      t_min = period.start;
      x_max = greatest_coordinate;
      y_max = greatest_coordinate;
      t_max = period.end;
    }

-- over the rectangle and the period, but for `bypasses`, which holds of legs that are far from the rectangle
abbrev pub box_near : Predicate → RectView → PeriodView → BoxView
box_near Ever rect period = box_over rect period
box_near Always rect period = box_over rect period
box_near Enters rect period = box_over rect period
box_near Leaves rect period = box_over rect period
box_near Crosses rect period = box_over rect period
box_near Bypasses rect period = plane_over period

-- what is kept of legs for a predicate: the first and the last, and those near the rectangle, but for
-- `always`, which looks at all, and for `enters` and `leaves`, which look at no other
abbrev pub sieve_of : Predicate → RectView → Sieve
sieve_of Ever rect = sieve.Near rect
sieve_of Always rect = sieve.All
sieve_of Enters rect = sieve.Ends
sieve_of Leaves rect = sieve.Ends
sieve_of Crosses rect = sieve.Near rect
sieve_of Bypasses rect = sieve.Near rect
