-- Visits: stays of a feature that go on over several legs. Dwells are made of them.
use Rattle.std.specs.Prelude.{◌+◌, ◌-◌, ◌^◌, ◌==◌, min, Bool, ◌&&◌, List}
use Rattle.std.specs.Ordering.{int_eq}
use Rattle.visiting.specs.Joining.{joined}
use Rattle.visiting.specs.Dwells as dwells
use Rattle.visiting.specs.declared.dwells.Dwell.{Dwell}
use Rattle.zoning.specs.Lengths.{least_of, most_of}
use Rattle.zoning.specs.declared.stay.Stay.{Stay}
use Rattle.zoning.specs.declared.visits.Visit.{Visit}

-- the visit of one stay
abbrev pub visit_of : Stay → Visit
visit_of stay =
    record {
      feature = stay.leg.feature;
      enters = stay.enters;
      leaves = stay.leaves;
      entry = stay.entry;
      exit = stay.exit;
      enters_by = stay.enters_by;
      leaves_by = stay.leaves_by;
      from = stay.from;
      to = stay.to;
      legs = 1;
    }

-- whether the stay begins at the moment at which the visit ends; both are in lowest terms
abbrev pub goes_on : Visit → Stay → Bool
goes_on visit stay =
    int_eq visit.leaves.whole stay.enters.whole && (visit.leaves.rest == stay.enters.rest)
    && (visit.leaves.den == stay.enters.den)

-- the visit with a stay more at its end
abbrev pub visit_with : Visit → Stay → Visit
visit_with visit stay =
    record visit {
      leaves = stay.leaves;
      exit = stay.exit;
      leaves_by = stay.leaves_by;
      to = stay.to;
      legs = min (visit.legs + 1) (2 ^ 64 - 1);
    }

-- the visits of stays: the last visit of a stay's feature goes on with it, where the stay begins as that ends; else the
-- stay begins a visit
abbrev pub visits_of : List Stay → List Visit
visits_of = joined (λ visit. visit.feature) (λ stay. stay.leg.feature) visit_of goes_on visit_with

-- the dwells of visits, in the order of the features' first visits
abbrev pub dwells_of : List Visit → List Dwell
dwells_of = dwells.dwells_of (λ visit. visit.feature) least_of most_of
