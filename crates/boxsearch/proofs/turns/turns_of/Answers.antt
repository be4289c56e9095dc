use Rattle.std.proofs.Common.{◌≡◌, ◌∙◌, ◌++◌, drop, ◌<◌, ◌≤◌, ◌+◌, ap, rules, sym, subst, refl, arith, length}
use Rattle.std.specs.List.Sorted.{IsPermutation}
use Rattle.std.proofs.lemmas.List.Sorted.{IsNonDecreasingBy-from_sort_by_key}
use Rattle.std.proofs.lemmas.Result.{err_from_is_err_and}
use Rattle.legs.specs.Index.{SkipNone}
use Rattle.legs.specs.Legs.{LegView}
use Rattle.boxsearch.specs.Turns.{turn_number, turns_from}
use Rattle.boxsearch.proofs.TurnSteps.{fit_next, fit_step, opened_length, turn_skips, turns_all, turns_step}
use Rattle.boxsearch.proofs.turns.turns_of.Goals as goal

pub loop-place-init : goal.loop-place-init
loop-place-init c =
    let places = c.args.places.now in
    let legs = c.args.legs.now in
    let e = c.in_ok-ends.ensures in record {
      turns = ap (λ ts. ts ++ turns_from c.args.most c.in_ok-ends.ends.items (length places) 0 legs) c.in_ok-turns.ensures.items ∙ ap (λ l. turns_from c.args.most l (length places) 0 legs) e;
      fit = λ f. subst (λ n. SkipNone n legs) (sym (ap length e ∙ opened_length c.args.most 0 places)) f;
    }

pub returns-in_err-leaf-clause-refused : goal.returns-in_err-leaf-clause-refused
returns-in_err-leaf-clause-refused c =
    let legs = c.args.legs.now in
    let k = c.loop-place.place in
    let l : k < length legs = let t = c.loop-place-test.true in omega (arith, t) in
    let f : c.leg.inside.feature ≡ c.index-legs-place.result.feature = ap (λ (l : LegView). l.feature) c.leg.view_is in
    let p = err_from_is_err_and c.from_residual-in_err-leaf.result c.from_residual-in_err-leaf.ensures.1 in
    rw (p.1, p.2) (turn_skips _ _ c.in_err-leaf.field-0.0 (λ low fits. low (let on = fit_next _ k legs c.index-legs-place.result l c.index-legs-place.is (c.loop-place.invariant.fit fits) in let at = on.0 in omega (arith, f, at))) c.in_err-leaf.ensures.refused)

pub loop-place-preserved : goal.loop-place-preserved
loop-place-preserved c =
    let legs = c.args.legs.now in
    let places = c.args.places.now in
    let k = c.loop-place.place in
    let leg = c.index-legs-place.result in
    let l : k < length legs = let t = c.loop-place-test.true in omega (arith, t) in
    let f : c.leg.inside.feature ≡ leg.feature = ap (λ (l : LegView). l.feature) c.leg.view_is in
    record {
      turns = ap (λ ts. ts ++ turns_from c.args.most c.take.new.ends.items (length places) (k + 1) (drop (k + 1) legs)) c.in_ok-push.ensures.items
          ∙ turns_step c.args.most (length places) k c.loop-place.ends.items c.take.new.ends.items legs c.loop-place.turns.items _ leg c.in_ok-leaf.leaf c.leg.inside.feature (length places + k) l c.index-legs-place.is f refl c.in_ok-leaf.ensures.leaf c.in_ok-leaf.ensures.after c.loop-place.invariant.turns;
      fit = λ fits. fit_step c.args.most k c.loop-place.ends.items c.take.new.ends.items legs leg c.leg.inside.feature _ l c.index-legs-place.is f c.in_ok-leaf.ensures.after (c.loop-place.invariant.fit fits);
    }

pub returns-clause-permutation : goal.returns-clause-permutation
returns-clause-permutation c =
    let legs = c.args.legs.now in
    let past : length legs ≤ c.loop-place.place = let t = c.loop-place-test.false in omega (arith, t) in
    subst (λ ts. IsPermutation ts c.sort_unstable_by_key.new.self.items) (turns_all c.args.most (length c.args.places.now) c.loop-place.place c.loop-place.ends.items legs c.loop-place.turns.items _ past c.loop-place.invariant.turns)
    c.sort_unstable_by_key.ensures.permutation

pub returns-clause-rises : goal.returns-clause-rises
returns-clause-rises c = IsNonDecreasingBy-from_sort_by_key turn_number _ c.sort_unstable_by_key.ensures.sorted (λ a r q k. search rules)
