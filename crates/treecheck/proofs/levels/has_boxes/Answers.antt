use Rattle.std.proofs.Common.{◌≡◌, ◌<◌, ◌≤◌, ◌∙◌, ap, sym, Some, slice_get, refl, ⊎_elim, arith}
use Rattle.std.proofs.lemmas.Bool.{true≢false, cases_lt}
use Rattle.std.proofs.lemmas.List.{length-map}
use Rattle.std.proofs.lemmas.Option.{slice_get_within}
use Rattle.legs.specs.Blocks.{block}
use Rattle.legs.specs.Boxes.{BoxView}
use Rattle.tbnode.specs.Nodes.{EntryView}
use Rattle.tbtree.specs.Nodes.{boxes}
use Rattle.treecheck.specs.Levels.{cover_of_leaves}
use Rattle.treecheck.proofs.LevelsLemmas.{box_at, box_count, box_of_group, boxes_of_groups}
use Rattle.treecheck.proofs.levels.has_boxes.Goals as goal

pub returns-then-len-div_ceil : goal.returns-then-len-div_ceil
returns-then-len-div_ceil c = (
  λ t. absurd (true≢false (sym t)),
  λ e. let n = box_count (boxes c.args.inner.now) c.args.width c.args.leaves.now c.requires e in
      let m = length-map c.args.inner.now.entries (λ (e : EntryView BoxView). e.bounds) in
      absurd (c.if-len-div_ceil.true (c.len.ensures.value ∙ sym m ∙ n ∙ sym c.div_ceil.ensures)),
)

pub returns-then-not-are_bounds : goal.returns-then-not-are_bounds
returns-then-not-are_bounds c =
    let bounds_is = ap (λ (e : EntryView BoxView). Some e.bounds) c.entry-in-loop-i.view_is in (
      λ t. absurd (true≢false (sym t)),
      λ e. let b = box_at c.args.inner.now c.loop-i.i c.entry.result c.entry.ensures in
          let s = box_of_group (boxes c.args.inner.now) c.args.width c.args.leaves.now c.loop-i.i c.entry.result.bounds c.requires e b in
          absurd (true≢false (sym (c.are_bounds.ensures.1 (bounds_is ∙ s ∙ ap cover_of_leaves (sym c.block.ensures))) ∙ c.if-not-are_bounds.true)),
    )

pub loop-i-preserved : goal.loop-i-preserved
loop-i-preserved c = λ j b l at.
    let i = c.loop-i.i in
    let here : slice_get (boxes c.args.inner.now) i ≡ Some c.entry.result.bounds = box_at c.args.inner.now i c.entry.result c.entry.ensures in
    let bounds_is = ap (λ (e : EntryView BoxView). Some e.bounds) c.entry-in-loop-i.view_is in
    let cover = sym bounds_is ∙ c.are_bounds.ensures.0 c.if-not-are_bounds.false ∙ ap cover_of_leaves c.block.ensures in
    ⊎_elim
    (λ (k : j < i). c.loop-i.invariant j b k at)
    (λ (k : i ≤ j).
    let s : j ≡ i = omega (arith, k, l) in
    sym at ∙ ap (slice_get (boxes c.args.inner.now)) s ∙ here ∙ cover ∙ ap (λ n. cover_of_leaves (block c.args.width n c.args.leaves.now)) (sym s))
    (cases_lt j i)

pub returns : goal.returns
returns c = (
  λ t. boxes_of_groups (boxes c.args.inner.now) c.args.width c.args.leaves.now c.requires
      (length-map c.args.inner.now.entries (λ (e : EntryView BoxView). e.bounds) ∙ sym c.len.ensures.value ∙ c.if-len-div_ceil.false ∙ c.div_ceil.ensures)
      (λ j b at. let w = slice_get_within (boxes c.args.inner.now) j b at in
      let m = length-map c.args.inner.now.entries (λ (e : EntryView BoxView). e.bounds) in
      c.loop-i.invariant j b (omega (arith, w, m, c.len-i-end.ensures.value, c.loop-i-test.false)) at),
  λ e. refl,
)
