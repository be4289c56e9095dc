use Rattle.std.proofs.Common.{ℕ, ◌≡◌, true, take, All}
use Rattle.std.specs.BTreeMap.{get}
use Rattle.std.specs.Ordering.{nat_cmp}
use Rattle.timebase.specs.Period.{PeriodView}
use Rattle.legs.specs.Legs.{is_live}
use Rattle.legs.specs.Index.{legs_of}
use Rattle.zoning.specs.Holding.{IsCounted, IsTallied}
use Rattle.zoning.proofs.holding.Tallies.of.Given as goal

-- the tallies are those of the legs so far
abbrev pub invariant-loop-leg : goal.invariant-loop-leg
invariant-loop-leg l = record {
  counted : (f : ℕ) → IsCounted (get nat_cmp l.by_feature f) (legs_of f (take l.leg-index l.legs));
  tallied : (period : PeriodView) → All (λ leg. is_live period leg ≡ true) l.legs → (f : ℕ) → IsTallied period (get nat_cmp l.by_feature f) (legs_of f (take l.leg-index l.legs));
}
