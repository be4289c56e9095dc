use Rattle.std.proofs.Common.{ℕ, ◌≡◌, true, take, All}
use Rattle.std.specs.BTreeMap.{get}
use Rattle.std.specs.Ordering.{nat_cmp}
use Rattle.legs.specs.Legs.{is_live}
use Rattle.legs.specs.Index.{legs_of}
use Rattle.zoning.specs.Holding.{IsNear}
use Rattle.zoning.specs.Stays.{IsInZone}
use Rattle.zoning.proofs.TallyLemmas.{IsNearCounted}
use Rattle.zoning.proofs.holding.Courses.of.Given as goal

-- the tallies and courses are those of the legs so far
abbrev pub invariant-loop-leg : goal.invariant-loop-leg
invariant-loop-leg l = record {
  counted : (f : ℕ) → IsNearCounted (get nat_cmp l.by_feature f) (legs_of f (take l.leg-index l.legs));
  told : All (λ leg. is_live l.period leg ≡ true) l.legs → (f : ℕ) → IsNear (IsInZone l.site) l.period (get nat_cmp l.by_feature f) (legs_of f (take l.leg-index l.legs));
}
