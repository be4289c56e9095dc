use Rattle.std.proofs.Common.{◌≡◌, ◌+◌, ◌∷◌, [], ◌++◌, suc, take, ◌∙◌, ap, sym, arith, append_assoc}
use Rattle.tbnode.specs.Nodes.{EntryView}
use Rattle.legs.specs.Boxes.{BoxView}
use Rattle.tbtree.specs.Nodes.{children}
use Rattle.boxsearch.proofs.PushLemmas.{take_at}
use Rattle.treecheck.proofs.LevelsLemmas.{child_at}
use Rattle.treecheck.proofs.levels.push_named.Goals as goal

pub loop-i-preserved : goal.loop-i-preserved
loop-i-preserved c =
    let cs = children c.args.inner.now in
    let i = c.loop-i.i in
    let entry = c.entry.result in
    let at = child_at c.args.inner.now i entry c.entry.ensures in
    let next : i + 1 ≡ suc i = omega arith in
    let more : take (i + 1) cs ≡ take i cs ++ entry.child ∷ [] = ap (λ n. take n cs) next ∙ take_at cs i entry.child at in
    c.in_ok-push.ensures.items ∙ ap (λ (e : EntryView BoxView). c.loop-i.below.items ++ e.child ∷ []) c.push.view_is ∙ ap (λ l. l ++ entry.child ∷ []) c.loop-i.invariant ∙ append_assoc c.args.below.now.items (take i cs) (entry.child ∷ []) ∙ ap (λ l. c.args.below.now.items ++ l) (sym more)
