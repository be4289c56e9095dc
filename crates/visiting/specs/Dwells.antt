-- How long features stay in all, and how many visits they pay.
use Rattle.std.specs.Prelude.{ℕ, ◌+◌, ◌-◌, ◌^◌, min, true, List}
use Rattle.visiting.specs.Joining.{joined}
use Rattle.visiting.specs.declared.dwells.Dwell.{Dwell}

-- a feature's dwell before any visit
abbrev pub dwell_of : ℕ → Dwell
dwell_of feature = record { feature = feature; visits = 0; least = 0; most = 0 }

-- a sum, or the greatest number that there is
abbrev pub sum_of : ℕ → ℕ → ℕ
sum_of a b = min (a + b) (2 ^ 64 - 1)

-- with a visit more, that lasts so long
abbrev pub dwell_with : Dwell → ℕ → ℕ → Dwell
dwell_with dwell least most =
    record dwell {
      visits = sum_of dwell.visits 1;
      least = sum_of dwell.least least;
      most = sum_of dwell.most most;
    }

module _ {V : Type 0} (feature least most : V → ℕ) where
  -- the dwell of one visit
  abbrev pub first_dwell : V → Dwell
  first_dwell visit = dwell_with (dwell_of (feature visit)) (least visit) (most visit)

  -- each visit counts for its feature, which has one dwell; the dwells are in the order of the features' first visits
  abbrev pub dwells_of : List V → List Dwell
  dwells_of visits =
      joined (λ dwell. dwell.feature) feature first_dwell (λ dwell visit. true)
      (λ dwell visit. dwell_with dwell (least visit) (most visit)) visits
