use Rattle.std.proofs.Common.{◌≡◌, ◌+◌, Some, slice_get, ◌∙◌, ap, sym, refl, ◌<◌, length, arith}
use Rattle.std.proofs.lemmas.Bool.{true≢false}
use Rattle.std.proofs.lemmas.Option.{slice_get_read}
use Rattle.legs.specs.Boxes.{BoxView}
use Rattle.tbnode.specs.Nodes.{EntryView}
use Rattle.tbtree.specs.Nodes.{children}
use Rattle.treecheck.specs.Levels.{pages_of_leaves}
use Rattle.boxsearch.proofs.PushLemmas.{some_same}
use Rattle.treecheck.proofs.LevelsLemmas.{child_at, leaf_at, same_more}
use Rattle.treecheck.specs.declared.walking.Met.{Met}
use Rattle.treecheck.proofs.levels.has_leaves.Goals as goal

pub returns-then-entry-leaves : goal.returns-then-entry-leaves
returns-then-entry-leaves c =
    let i = c.loop-i.i in
    let a = child_at c.args.inner.now i c.entry.result c.entry.ensures in
    let few : i < length c.args.leaves.now = omega (arith, c.loop-i-test.true, c.len-i-end.ensures.value, c.len.ensures.value, c.if-len-leaves.false) in
    let read = slice_get_read c.args.leaves.now (length c.args.leaves.now) i c.index-leaves-i.result refl few c.index-leaves-i.is in
    let view = ap (λ (e : EntryView BoxView). e.child) c.entry-in-loop-i.view_is in
    let b = leaf_at c.args.leaves.now i c.index-leaves-i.result read in (
      λ t. absurd (true≢false (sym t)),
      λ e. let s = some_same c.entry.result.child c.index-leaves-i.result.page (sym a ∙ ap (λ l. slice_get l i) e ∙ b) in absurd (c.if-entry-leaves.true (view ∙ s ∙ ap (λ (m : Met). m.page) c.index-leaves-i.is)),
    )

pub loop-i-preserved : goal.loop-i-preserved
loop-i-preserved c =
    let i = c.loop-i.i in
    let a = child_at c.args.inner.now i c.entry.result c.entry.ensures in
    let few : i < length c.args.leaves.now = omega (arith, c.loop-i-test.true, c.len-i-end.ensures.value, c.len.ensures.value, c.if-len-leaves.false) in
    let read = slice_get_read c.args.leaves.now (length c.args.leaves.now) i c.index-leaves-i.result refl few c.index-leaves-i.is in
    let view = ap (λ (e : EntryView BoxView). e.child) c.entry-in-loop-i.view_is in
    let b = leaf_at c.args.leaves.now i c.index-leaves-i.result read in
    let s : c.entry.result.child ≡ c.index-leaves-i.result.page = sym view ∙ c.if-entry-leaves.false ∙ sym (ap (λ (m : Met). m.page) c.index-leaves-i.is) in
    same_more (children c.args.inner.now) (pages_of_leaves c.args.leaves.now) i (i + 1) c.entry.result.child a (b ∙ ap Some (sym s)) refl c.loop-i.invariant
