use Rattle.std.proofs.Common.{◌≡◌, ◌+◌, suc, arith, sym, ap, ◌∙◌}
use Rattle.legs.specs.Boxes.{box_of, boxes_meet}
use Rattle.boxsearch.proofs.PushLemmas.{kept_more, kept_same}
use Rattle.boxsearch.proofs.nodes.push_hits.Goals as goal
use Rattle.boxsearch.proofs.nodes.push_hits.Goals.{then-meets+in_ok-push, else-meets}

pub loop-i-preserved : goal.loop-i-preserved
loop-i-preserved c =
    let query = c.args.query.now in
    let legs = c.args.leaf.now.legs in
    let base = c.args.found.now.items in
    let leg = c.leg-leg.result in
    let box : c.of.result ≡ box_of leg = c.of.ensures in
    let test : c.meets.result ≡ boxes_meet (box_of leg) query = c.meets.ensures.value ∙ ap (λ b. boxes_meet b query) box in
    let next : c.loop-i.i + 1 ≡ suc c.loop-i.i = omega arith in
    elim c.if-meets.branch [
      | then-meets+in_ok-push w ↦ ap (λ v. v.items) w.found-is ∙ kept_more (λ leg. boxes_meet (box_of leg) query) legs base c.loop-i.found.items w.push.new.self.items c.loop-i.i (c.loop-i.i + 1) leg c.leg-leg.ensures.value next (sym test ∙ w.if-meets.true) w.in_ok-push.ensures.items c.loop-i.invariant
      | else-meets w ↦ ap (λ v. v.items) w.found-is ∙ kept_same (λ leg. boxes_meet (box_of leg) query) legs base c.loop-i.found.items c.loop-i.i (c.loop-i.i + 1) leg c.leg-leg.ensures.value next (sym test ∙ w.if-meets.false) c.loop-i.invariant
    ]
