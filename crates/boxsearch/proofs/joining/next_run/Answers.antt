use Rattle.std.proofs.Common.{◌≡◌, ◌∙◌, ◌+◌, ◌++◌, ◌∷◌, [], List, All, drop, length, subst, ap, arith, sym}
use Rattle.std.proofs.lemmas.List.{length_push}
use Rattle.std.proofs.lemmas.List.Elements.{All-nil, All-push}
use Rattle.legs.specs.Legs.{LegView}
use Rattle.boxsearch.specs.Taking.{taken}
use Rattle.boxsearch.specs.declared.turns.Turn.{Turn}
use Rattle.boxsearch.proofs.TakingTurns.{taken_more, taken_next}
use Rattle.boxsearch.proofs.joining.next_run.Goals as goal

pub turns-init : goal.turns-init
turns-init c =
    let turn : Turn = record { leaf = 0; place = 0 } in
    let legs = c.args.legs.now in
    let turns = c.args.turns.now in
    let leg = c.index-legs-turns.result in
    let feature = ap (λ (l : LegView). l.feature) c.first.view_is in
    let items = c.in_ok-push.ensures.items ∙ ap (λ (l : List LegView). l ++ leg ∷ []) c.clear.ensures.items in
    record {
      some = omega arith;
      within = c.requires.some;
      many = ap length items;
      taken = taken_next legs turns 0 turn leg c.requires.some c.requires.within c.index-legs-turns.is ∙ ap (λ (l : List LegView). l ++ taken legs (drop 1 turns)) (sym items);
      one = subst (λ (l : List LegView). All (λ leg. leg.feature ≡ c.first.inside.feature) l) (sym items) (All-push (λ (leg : LegView). leg.feature ≡ c.first.inside.feature) [] leg (All-nil (λ (leg : LegView). leg.feature ≡ c.first.inside.feature)) (sym feature));
    }

pub turns-preserved : goal.turns-preserved
turns-preserved c =
    let turn : Turn = record { leaf = 0; place = 0 } in
    let legs = c.args.legs.now in
    let turns = c.args.turns.now in
    let k = c.turns.n in
    let leg = c.index-legs-turns-in-turns.result in
    let feature = ap (λ (l : LegView). l.feature) c.leg.view_is in
    let items = c.in_ok-push-2.ensures.items in
    let own : leg.feature ≡ c.first.inside.feature = sym feature ∙ c.if-leg-feature.false in
    record {
      some = omega arith;
      within = (let l = c.turns-test.true in omega (arith, l));
      many = ap length items ∙ length_push c.turns.run.items leg ∙ ap (λ n. n + 1) c.turns.invariant.many;
      taken = taken_more legs turns k turn leg c.turns.run.items c.turns-test.true c.requires.within c.index-legs-turns-in-turns.is c.turns.invariant.taken ∙ ap (λ (l : List LegView). l ++ taken legs (drop (k + 1) turns)) (sym items);
      one = subst (λ (l : List LegView). All (λ leg. leg.feature ≡ c.first.inside.feature) l) (sym items) (All-push (λ (leg : LegView). leg.feature ≡ c.first.inside.feature) c.turns.run.items leg c.turns.invariant.one own);
    }
