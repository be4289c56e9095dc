use Rattle.std.proofs.Common.{suc, ◌≡◌, ◌-◌, ◌∙◌, ap, arith, drop, length, Some, sym}
use Rattle.legs.specs.Boxes.{BoxView, cover_of}
use Rattle.legs.specs.Hull.{leg_boxes}
use Rattle.tbtree.specs.Nodes.{EntryView, boxes, cover_all}
use Rattle.tbtree.proofs.CoverLemmas.{cover_at_end, cover_before, slice_get-map}
use Rattle.std.proofs.lemmas.List.{length-map}
use Rattle.tbtree.proofs.payloads.cover_of_inner.Goals as goal

pub entries-init : goal.entries-init
entries-init c =
    let entries = c.args.page.now.entries in
    let last : suc (c.len-i.result - 1) ≡ length (boxes c.args.page.now) = omega (arith, c.len-i.ensures.value, c.len-i.ensures.least, length-map entries (λ (e : EntryView BoxView). e.bounds)) in
    record {
      within = omega (arith, c.len-i.ensures.value, c.len-i.ensures.least);
      held = cover_at_end leg_boxes (boxes c.args.page.now) (c.len-i.result - 1) c.entry.result.bounds last (slice_get-map (λ (e : EntryView BoxView). e.bounds) entries (c.len-i.result - 1) c.entry.result c.entry.ensures) ∙ ap (λ (e : EntryView BoxView). Some e.bounds) (sym c.bounds.view_is);
    }

pub entries-preserved : goal.entries-preserved
entries-preserved c =
    let entries = c.args.page.now.entries in
    let i = c.entries.i - 1 in
    let next : suc i ≡ c.entries.i = omega (arith, c.entries-test.true) in
    let at = slice_get-map (λ (e : EntryView BoxView). e.bounds) entries i c.entry-in-entries.result c.entry-in-entries.ensures in
    record {
      within = omega (arith, c.entries.invariant.within);
      held = cover_before leg_boxes (boxes c.args.page.now) i c.entry-in-entries.result.bounds c.entries.bounds at (ap (λ i. cover_all leg_boxes (drop i (boxes c.args.page.now))) next ∙ c.entries.invariant.held) ∙ ap (λ b. Some b) (sym (c.cover-bounds.ensures.value ∙ ap (λ (e : EntryView BoxView). cover_of e.bounds c.entries.bounds) c.entry-in-entries-2.view_is));
    }
