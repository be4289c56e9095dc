use Rattle.std.proofs.Common.{◌≡◌, ◌-◌, ◌+◌, ◌∙◌, ap, sym, arith, length, Some, get_or, refl}
use Rattle.std.proofs.lemmas.Option.{slice_get_read}
use Rattle.legs.specs.Hull.{both, leg_boxes}
use Rattle.treecheck.proofs.LevelsLemmas.{cover_before}
use Rattle.treecheck.proofs.levels.cover_of.Goals as goal
use Rattle.treecheck.proofs.levels.cover_of.Goals.{in-None, in-Some}

pub loop-i-preserved : goal.loop-i-preserved
loop-i-preserved c =
    let leaves = c.args.leaves.now in
    let n = length leaves in
    let i = c.loop-i.i in
    let leaf = c.index-leaves-leaves.result in
    let next : (n - (i + 1)) + 1 ≡ n - i = omega (arith, c.loop-i-test.true) in
    let same : n - 1 - i ≡ n - (i + 1) = omega (arith, c.loop-i-test.true) in
    let at = slice_get_read leaves n (n - (i + 1)) leaf refl (omega (arith, c.loop-i-test.true)) (c.index-leaves-leaves.is ∙ ap (λ k. get_or leaves k leaf) same) in
    let before = cover_before leaves (n - (i + 1)) (n - i) leaf at next in
    elim c.match-bounds.branch [
      | in-None w ↦ w.bounds-is ∙ ap (both leg_boxes (Some leaf.bounds)) (sym w.in-None.is ∙ c.loop-i.invariant) ∙ sym before
      | in-Some w ↦ w.bounds-is ∙ ap Some w.cover.ensures.value ∙ ap (both leg_boxes (Some leaf.bounds)) (sym w.in-Some.is ∙ c.loop-i.invariant) ∙ sym before
    ]
