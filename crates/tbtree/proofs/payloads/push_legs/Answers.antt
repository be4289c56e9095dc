use Rattle.std.proofs.Common.{◌+◌, ◌≡◌, ◌∷◌, ◌∙◌, ap, arith, drop, subst, suc, sym, Some, option_map, slice_get}
use Rattle.std.proofs.lemmas.Option.{slice_get-get_or}
use Rattle.tbnode.specs.Form.{node_of}
use Rattle.tbnode.specs.Nodes.{as_leaf}
use Rattle.tbtree.specs.Payloads.{Takes, leaf_with_legs}
use Rattle.tbtree.proofs.CoverLemmas.{drop_at}
use Rattle.tbtree.proofs.TakeLemmas.{takes_first, takes_rest, makes_rest}
use Rattle.tbtree.proofs.payloads.push_legs.Goals as goal

pub push_leg-requires-clause-takes : goal.push_leg-requires-clause-takes
push_leg-requires-clause-takes c leaf at =
    let legs = c.args.legs.now in
    let k = c.loop-leg.leg-index in
    let leg = c.leg-item.result in
    let here : slice_get legs k ≡ Some leg = slice_get-get_or legs k leg c.loop-leg-test.true ∙ ap (λ l. Some l) (sym c.leg-item.is) in
    let left : drop k legs ≡ leg ∷ drop (k + 1) legs = drop_at legs k leg here ∙ ap (λ n. leg ∷ drop n legs) (let e : suc k ≡ k + 1 = omega arith in e) in
    let takes = subst (λ ls. Takes (node_of c.loop-leg.payload) 50 ls) left c.loop-leg.invariant.takes in
    takes_first (node_of c.loop-leg.payload) leg (drop (k + 1) legs) takes leaf at

pub loop-leg-preserved : goal.loop-leg-preserved
loop-leg-preserved c =
    let legs = c.args.legs.now in
    let k = c.loop-leg.leg-index in
    let leg = c.leg-item.result in
    let old = node_of c.loop-leg.payload in
    let new = node_of c.push_leg.new.payload in
    let here : slice_get legs k ≡ Some leg = slice_get-get_or legs k leg c.loop-leg-test.true ∙ ap (λ l. Some l) (sym c.leg-item.is) in
    let left : drop k legs ≡ leg ∷ drop (k + 1) legs = drop_at legs k leg here ∙ ap (λ n. leg ∷ drop n legs) (let e : suc k ≡ k + 1 = omega arith in e) in
    let takes = subst (λ ls. Takes old 50 ls) left c.loop-leg.invariant.takes in
    record {
      takes = takes_rest old leg (drop (k + 1) legs) takes new c.push_leg.ensures.node;
      makes = makes_rest old leg (drop (k + 1) legs) takes new c.push_leg.ensures.node ∙ ap (λ ls. option_map (leaf_with_legs ls) (as_leaf old)) (sym left) ∙ c.loop-leg.invariant.makes;
    }
