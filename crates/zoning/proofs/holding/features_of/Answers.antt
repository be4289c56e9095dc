use Rattle.std.proofs.Common.{ℕ, rules, ◌≡◌, ◌∙◌, ◌++◌, [], ap, subst, sym, List}
use Rattle.std.proofs.lemmas.List.{append-nil}
use Rattle.std.specs.BTreeMap.{get}
use Rattle.std.specs.Ordering.{nat_cmp}
use Rattle.predicates.specs.declared.Predicate.{Predicate}
use Rattle.zoning.specs.Holding.{AreHolding, IsOutside, held}
use Rattle.zoning.specs.Stays.{IsInZone}
use Rattle.zoning.specs.declared.holding.Tally.{Tally}
use Rattle.zoning.proofs.FeatureLemmas.{are_holding, ever_holding}
use Rattle.zoning.proofs.holding.features_of.Goals as goal
use Rattle.legs.proofs.SieveLaws.{leaves_none}

pub returns : goal.returns
returns c =
    let found = λ (f : ℕ). get nat_cmp c.args.courses.now.by_feature f in
    let over : c.loop-feature.feature-iterator ≡ [] = search rules in
    let all : c.loop-feature.features.items ≡ held c.args.predicate found c.args.tallies.now.by_feature.entries =
    sym (append-nil c.loop-feature.features.items)
    ∙ sym (ap (λ (l : List (ℕ × Tally)). c.loop-feature.features.items ++ held c.args.predicate found l) over)
    ∙ c.loop-feature.invariant in
    record {
      exact = λ rings period legs near told_all out told_near.
          are_holding c.args.predicate rings period legs near c.args.tallies.now c.args.courses.now c.loop-feature.features.items told_all out told_near c.into_iter-feature-iterator.ensures.into_iter_gives.5 all;
      ever = λ rings period legs near is told_all out told_near.
          ever_holding rings period legs near c.loop-feature.features.items out
          (subst (λ (predicate : Predicate). AreHolding predicate rings near period c.loop-feature.features.items) is
          (are_holding c.args.predicate rings period near near c.args.tallies.now c.args.courses.now c.loop-feature.features.items told_all (leaves_none (IsOutside (IsInZone rings) period) near) told_near c.into_iter-feature-iterator.ensures.into_iter_gives.5 all));
    }
