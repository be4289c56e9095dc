use Rattle.std.proofs.Common.{◌≡◌, ◌++◌}
use Rattle.std.specs.BTreeMap.{get}
use Rattle.std.specs.Ordering.{nat_cmp}
use Rattle.zoning.specs.Holding.{held}
use Rattle.zoning.proofs.holding.features_of.Given as goal

-- the features so far and those of what is left are those of all
abbrev pub invariant-loop-feature : goal.invariant-loop-feature
invariant-loop-feature l =
    l.features.items ++ held l.predicate (λ f. get nat_cmp l.courses.by_feature f) l.feature-iterator
    ≡ held l.predicate (λ f. get nat_cmp l.courses.by_feature f) l.tallies.by_feature.entries
