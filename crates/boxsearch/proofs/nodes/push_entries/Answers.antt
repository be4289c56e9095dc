use Rattle.std.proofs.Common.{◌≡◌, ◌+◌, suc, arith, sym, ap, ◌∙◌, Some, slice_get}
use Rattle.legs.specs.Boxes.{BoxView, boxes_meet}
use Rattle.tbnode.specs.Nodes.{EntryView}
use Rattle.boxsearch.proofs.PushLemmas.{picked_more, picked_same}
use Rattle.boxsearch.proofs.nodes.push_entries.Goals as goal
use Rattle.boxsearch.proofs.nodes.push_entries.Goals.{then-meets+in_ok-push, else-meets}

pub loop-i-preserved : goal.loop-i-preserved
loop-i-preserved c =
    let query = c.args.query.now in
    let entries = c.args.inner.now.entries in
    let base = c.args.found.now.items in
    let entry : EntryView BoxView = record { child = c.entry.inside.child; bounds = c.entry.inside.bounds } in
    let view : c.entry-entry.result ≡ entry = sym c.entry.view_is in
    let at : slice_get entries c.loop-i.i ≡ Some entry = c.entry-entry.ensures ∙ ap Some view in
    let next : c.loop-i.i + 1 ≡ suc c.loop-i.i = omega arith in
    elim c.if-meets.branch [
      | then-meets+in_ok-push w ↦ ap (λ v. v.items) w.found-is ∙ picked_more (λ e. boxes_meet e.bounds query) (λ e. e.child) entries base c.loop-i.found.items w.push.new.self.items c.loop-i.i (c.loop-i.i + 1) entry at next (sym w.if-meets.ensures.value) w.in_ok-push.ensures.items c.loop-i.invariant
      | else-meets w ↦ ap (λ v. v.items) w.found-is ∙ picked_same (λ e. boxes_meet e.bounds query) (λ e. e.child) entries base c.loop-i.found.items c.loop-i.i (c.loop-i.i + 1) entry at next (sym w.if-meets.ensures.value) c.loop-i.invariant
    ]
