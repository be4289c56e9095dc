use Rattle.std.proofs.Common.{ℕ, rules, length, refl, ◌≡◌, ◌∙◌, sym, ap, subst, Some, Option, List, true, take, cond}
use Rattle.std.specs.BTreeMap.{get, is_at}
use Rattle.std.specs.Ordering.{nat_cmp}
use Rattle.legs.specs.Legs.{LegView, is_live}
use Rattle.legs.specs.Index.{legs_of}
use Rattle.zoning.specs.Holding.{IsCounted, IsTallied, tally_with}
use Rattle.zoning.specs.declared.holding.Tally.{Tally}
use Rattle.zoning.proofs.TallyLemmas.{at_one_more, counted_with, few_legs, maps_more, tallied_with}
use Rattle.zoning.proofs.holding.Tallies.of.Goals as goal

pub tally_with-tally-requires : goal.tally_with-tally-requires
tally_with-tally-requires c =
    few_legs (get nat_cmp c.loop-leg.by_feature c.leg-item.result.feature) c.copied-found.result c.leg-item.result.feature c.loop-leg.leg-index (length c.args.legs.now) c.args.legs.now c.loop-leg-test.true refl
    (c.loop-leg.invariant.counted c.leg-item.result.feature) (search rules)

pub loop-leg-preserved : goal.loop-leg-preserved
loop-leg-preserved c =
    let legs : List LegView = c.args.legs.now in
    let i = c.loop-leg.leg-index in
    let leg : LegView = c.leg-item.result in
    let before : ℕ → Option Tally = λ f. get nat_cmp c.loop-leg.by_feature f in
    let after : ℕ → Option Tally = λ f. get nat_cmp c.insert.new.self f in
    let found : c.copied-found.result ≡ before leg.feature = search rules in
    let tally : c.tally_with-tally.result ≡ tally_with (before leg.feature) leg = search rules in
    let put : (f : ℕ) → after f ≡ cond (is_at (nat_cmp leg.feature) f) (Some (tally_with (before leg.feature) leg)) (before f) =
    λ f. c.in_ok-insert.ensures.updates.0 f ∙ ap (λ (k : ℕ). cond (is_at (nat_cmp k) f) (Some c.tally_with-tally.result) (before f)) (ap (λ (l : LegView). l.feature) c.leg.view_is) ∙ ap (λ (t : Tally). cond (is_at (nat_cmp leg.feature) f) (Some t) (before f)) tally in
    record {
      counted = at_one_more (λ f l. IsCounted (after f) l) legs i leg c.loop-leg-test.true c.leg-item.is
          (maps_more IsCounted before after (take i legs) leg (tally_with (before leg.feature) leg) c.loop-leg.invariant.counted put
          (counted_with (before leg.feature) (legs_of leg.feature (take i legs)) leg (c.loop-leg.invariant.counted leg.feature)));
      tallied = λ period live.
          at_one_more (λ f l. IsTallied period (after f) l) legs i leg c.loop-leg-test.true c.leg-item.is
          (maps_more (IsTallied period) before after (take i legs) leg (tally_with (before leg.feature) leg) (c.loop-leg.invariant.tallied period live) put
          (tallied_with period (before leg.feature) (legs_of leg.feature (take i legs)) leg (subst (λ (l : LegView). is_live period l ≡ true) (sym c.leg-item.is) (live i leg c.loop-leg-test.true)) (c.loop-leg.invariant.tallied period live leg.feature)));
    }
