use Rattle.std.proofs.Common.{ℕ, rules, length, refl, ◌≡◌, ◌∙◌, sym, ap, subst, Some, Option, List, true, take, cond}
use Rattle.std.specs.BTreeMap.{get, is_at}
use Rattle.std.specs.Ordering.{nat_cmp}
use Rattle.legs.specs.Legs.{LegView, is_live}
use Rattle.legs.specs.Index.{legs_of}
use Rattle.zoning.specs.Holding.{IsNear, near_with}
use Rattle.zoning.specs.Stays.{IsInZone}
use Rattle.zoning.specs.declared.holding.Near.{Near}
use Rattle.zoning.proofs.TallyLemmas.{IsNearCounted, at_one_more, few_near, maps_more, near_counted_with, near_is_with}
use Rattle.zoning.proofs.holding.Courses.of.Goals as goal

pub near_with-near-requires : goal.near_with-near-requires
near_with-near-requires c =
    few_near (get nat_cmp c.loop-leg.by_feature c.leg-item.result.feature) c.copied-found.result c.leg-item.result.feature c.loop-leg.leg-index (length c.args.legs.now) c.args.legs.now c.loop-leg-test.true refl
    (c.loop-leg.invariant.counted c.leg-item.result.feature) (search rules)

pub loop-leg-preserved : goal.loop-leg-preserved
loop-leg-preserved c =
    let legs : List LegView = c.args.legs.now in
    let period = c.args.period.now in
    let rings = c.args.site.now in
    let course = c.in_ok-course.course in
    let i = c.loop-leg.leg-index in
    let leg : LegView = c.leg-item.result in
    let before : ℕ → Option Near = λ f. get nat_cmp c.loop-leg.by_feature f in
    let after : ℕ → Option Near = λ f. get nat_cmp c.insert.new.self f in
    let near : c.near_with-near.result ≡ near_with (before leg.feature) leg course = search rules in
    let put : (f : ℕ) → after f ≡ cond (is_at (nat_cmp leg.feature) f) (Some (near_with (before leg.feature) leg course)) (before f) =
    λ f. c.in_ok-insert.ensures.updates.0 f ∙ ap (λ (k : ℕ). cond (is_at (nat_cmp k) f) (Some c.near_with-near.result) (before f)) (ap (λ (l : LegView). l.feature) c.leg.view_is) ∙ ap (λ (t : Near). cond (is_at (nat_cmp leg.feature) f) (Some t) (before f)) near in
    record {
      counted = at_one_more (λ f l. IsNearCounted (after f) l) legs i leg c.loop-leg-test.true c.leg-item.is
          (maps_more IsNearCounted before after (take i legs) leg (near_with (before leg.feature) leg course) c.loop-leg.invariant.counted put
          (near_counted_with (before leg.feature) (legs_of leg.feature (take i legs)) leg course (c.loop-leg.invariant.counted leg.feature)));
      told = λ live.
          at_one_more (λ f l. IsNear (IsInZone rings) period (after f) l) legs i leg c.loop-leg-test.true c.leg-item.is
          (maps_more (IsNear (IsInZone rings) period) before after (take i legs) leg (near_with (before leg.feature) leg course) (c.loop-leg.invariant.told live) put
          (near_is_with period (IsInZone rings) (before leg.feature) (legs_of leg.feature (take i legs)) leg course (subst (λ (l : LegView). is_live period l ≡ true) (sym c.leg-item.is) (live i leg c.loop-leg-test.true))
          c.in_ok-course.ensures (c.loop-leg.invariant.told live leg.feature)));
    }
