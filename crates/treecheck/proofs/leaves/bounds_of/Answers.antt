use Rattle.std.proofs.Common.{suc, ◌≡◌, ◌-◌, ◌∙◌, ap, arith, drop, Some, sym}
use Rattle.legs.specs.Boxes.{cover_of}
use Rattle.legs.specs.Hull.{hull, leg_boxes}
use Rattle.treecheck.proofs.WalkLemmas.{hull_at_end, hull_before}
use Rattle.treecheck.proofs.leaves.bounds_of.Goals as goal

pub legs-init : goal.legs-init
legs-init g c = record {
  within = omega (arith, c.len-i.ensures.value, c.len-i.ensures.least);
  held = hull_at_end (g.L.AnyLeaf.says c.args.leaf.now).legs (c.len-i.result - 1) c.leg.result (omega (arith, c.len-i.ensures.value, c.len-i.ensures.least)) c.leg.ensures ∙ ap (λ b. Some b) (sym c.of-bounds.ensures);
}

pub legs-preserved : goal.legs-preserved
legs-preserved g c =
    let legs = (g.L.AnyLeaf.says c.args.leaf.now).legs in
    let next : suc (c.legs.i - 1) ≡ c.legs.i = omega (arith, c.legs-test.true) in
    record {
      within = omega (arith, c.legs.invariant.within);
      held = hull_before legs (c.legs.i - 1) c.leg-in-legs.result c.legs.bounds c.leg-in-legs.ensures (ap (λ i. hull leg_boxes (drop i legs)) next ∙ c.legs.invariant.held) ∙ ap (λ b. Some b) (sym (c.cover-bounds.ensures.value ∙ ap (λ p. cover_of p c.legs.bounds) c.of.ensures));
    }
