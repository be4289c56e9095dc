use Rattle.std.proofs.Common.{◌≡◌, ◌∙◌, pos, true, arith, ap, sym, SFits, to_z-of_z}
use mir.Syntax.{w128}
use Rattle.std.proofs.lemmas.Int.{ints}
use Rattle.zones.specs.Turns.{sign, at, is_opposite}
use Rattle.zones.proofs.EdgeLemmas.{int_cmp_equal}
use Rattle.zones.proofs.TurnLemmas.{slope_is, root_after, root_before, opposite_equal}
use Rattle.zones.proofs.turns.turn.Goals as goal

pub returns-then-not-is_opposite-clause-calm : goal.returns-then-not-is_opposite-clause-calm
returns-then-not-is_opposite-clause-calm c =
    let f : SFits w128 c.args.c0 = c.ranges.c0 in
    let g : SFits w128 c.args.c1 = c.ranges.c1 in
    let x = c.args in
    let s1 : c.sign_on.result ≡ sign (at x.c0 x.c1 x.from.num x.from.den) = simp to_z-of_z at c.sign_on.ensures in
    let s2 : c.sign_on-2.result ≡ sign (at x.c0 x.c1 x.to.num x.to.den) = simp to_z-of_z at c.sign_on-2.ensures in
    (λ i. is_opposite (sym s1 i) (sym s2 i)) ∙ sym c.is_opposite.ensures ∙ c.if-not-is_opposite.true

pub root-requires-clause-slope : goal.root-requires-clause-slope
root-requires-clause-slope c =
    let f : SFits w128 c.args.c0 = c.ranges.c0 in
    let g : SFits w128 c.args.c1 = c.ranges.c1 in
    let x = c.args in
    let s1 : c.sign_on.result ≡ sign (at x.c0 x.c1 x.from.num x.from.den) = simp to_z-of_z at c.sign_on.ensures in
    let s2 : c.sign_on-2.result ≡ sign (at x.c0 x.c1 x.to.num x.to.den) = simp to_z-of_z at c.sign_on-2.ensures in
    let turns : is_opposite (sign (at x.c0 x.c1 x.from.num x.from.den)) (sign (at x.c0 x.c1 x.to.num x.to.den)) ≡ true = (λ i. is_opposite (sym s1 i) (sym s2 i)) ∙ sym c.is_opposite.ensures ∙ c.if-not-is_opposite.false in
    λ e. slope_is x.c0 x.c1 x.from.num x.from.den x.to.num x.to.den x.from.positive x.to.positive c.requires.order turns (omega (arith, ints, e))

pub returns : goal.returns
returns c =
    let f : SFits w128 c.args.c0 = c.ranges.c0 in
    let g : SFits w128 c.args.c1 = c.ranges.c1 in
    let x = c.args in
    let s1 : c.sign_on.result ≡ sign (at x.c0 x.c1 x.from.num x.from.den) = simp to_z-of_z at c.sign_on.ensures in
    let s2 : c.sign_on-2.result ≡ sign (at x.c0 x.c1 x.to.num x.to.den) = simp to_z-of_z at c.sign_on-2.ensures in
    let r = c.root.result in
    let turns : is_opposite (sign (at x.c0 x.c1 x.from.num x.from.den)) (sign (at x.c0 x.c1 x.to.num x.to.den)) ≡ true = (λ i. is_opposite (sym s1 i) (sym s2 i)) ∙ sym c.is_opposite.ensures ∙ c.if-not-is_opposite.false in
    let zero : at x.c0 x.c1 r.num r.den ≡ pos 0 = simp to_z-of_z at c.root.ensures in
    record {
      after = root_after x.c0 x.c1 x.from.num x.from.den x.to.num x.to.den x.from.positive x.to.positive c.requires.order turns r.num r.den r.positive zero;
      up_to = let b = root_before x.c0 x.c1 x.from.num x.from.den x.to.num x.to.den x.from.positive x.to.positive c.requires.order turns r.num r.den r.positive zero in omega (arith, ints, b);
      calm = ap (is_opposite (sign (at x.c0 x.c1 x.from.num x.from.den))) (int_cmp_equal (at x.c0 x.c1 r.num r.den) (pos 0) zero) ∙ opposite_equal (sign (at x.c0 x.c1 x.from.num x.from.den));
    }
