use Rattle.std.proofs.Common.{ap, sym, ◌∙◌, ◌≡◌, arith, length, ◌+◌, ◌*◌}
use Rattle.legs.specs.Boxes.{BoxView, cover_of}
use Rattle.tbnode.specs.Nodes.{EntryView}
use Rattle.tbnode.specs.Parts.{put}
use Rattle.tbnode.specs.Form.{entry_count, entry_at, is_entry_at}
use Rattle.tbnode.specs.Layout.{is_entry, entry_from_bytes}
use Rattle.tbnode.proofs.ListLemmas.{all_below-at}
use Rattle.tbnode.proofs.LegLemmas.{length-entry_bytes}
use Rattle.tbnode.proofs.FormLemmas.{inner_form}
use Rattle.tbnode.proofs.InnerLemmas.{has_entry, entry_widened}
use Rattle.tbnode.proofs.RestLemmas.{inner_rest, wider_rest}
use Rattle.tbnode.proofs.edit.widen.Goals as goal

pub overflow_mul-place : goal.overflow_mul-place
overflow_mul-place c =
    let t = has_entry c.args.payload.now c.args.i c.requires.inner c.requires.within in
    omega (arith, t.below, t.most)

pub overflow_add-place : goal.overflow_add-place
overflow_add-place c =
    let t = has_entry c.args.payload.now c.args.i c.requires.inner c.requires.within in
    omega (arith, t.below, t.most)

pub part-requires : goal.part-requires
part-requires c =
    let t = has_entry c.args.payload.now c.args.i c.requires.inner c.requires.within in
    omega (arith, t.below, t.most)

pub entry_in-entry-requires-clause-lawful : goal.entry_in-entry-requires-clause-lawful
entry_in-entry-requires-clause-lawful c =
    let p = c.args.payload.now in
    let t = has_entry p c.args.i c.requires.inner c.requires.within in
    ap is_entry c.part.ensures.value ∙ all_below-at (is_entry_at p.bytes) (entry_count p.bytes) c.args.i (inner_form p.bytes t.held.form).entries t.below

pub put-requires : goal.put-requires
put-requires c =
    let t = has_entry c.args.payload.now c.args.i c.requires.inner c.requires.within in
    let n = ap length c.bytes_of.ensures.value in
    omega (arith, t.below, t.most, n, length-entry_bytes (record { child = c.entry.inside.child; bounds = c.cover-entry-inside.result }))

pub returns-clause-node : goal.returns-clause-node
returns-clause-node c =
    let p = c.args.payload.now in
    let box = c.args.bounds.now in
    let t = has_entry p c.args.i c.requires.inner c.requires.within in
    let x : EntryView BoxView = record { child = c.entry.inside.child; bounds = c.cover-entry-inside.result } in
    let was = c.entry.view_is ∙ c.entry_in-entry.ensures ∙ ap entry_from_bytes c.part.ensures.value in
    let child = ap (λ e. e.child) was in
    let bounds = c.cover-entry-inside.ensures.value ∙ ap (λ e. cover_of e.bounds box) was in
    let is : x ≡ record (entry_at p.bytes c.args.i) { bounds = cover_of (entry_at p.bytes c.args.i).bounds box } =
    λ j. record { child = child j; bounds = bounds j } in
    let e = c.put.ensures ∙ ap (λ xs. put (16 + 56 * c.args.i) xs p.bytes) c.bytes_of.ensures.value in
    entry_widened p c.args.i x box c.put.new.bytes e (omega arith) t.held c.bytes_of.ensures.reads_back t.within is

pub returns-clause-rest : goal.returns-clause-rest
returns-clause-rest c =
    let p = c.args.payload.now in
    let t = has_entry p c.args.i c.requires.inner c.requires.within in
    let x : EntryView BoxView = record { child = c.entry.inside.child; bounds = c.cover-entry-inside.result } in
    let e = c.put.ensures ∙ ap (λ xs. put (16 + 56 * c.args.i) xs p.bytes) c.bytes_of.ensures.value in
    wider_rest _ p.bytes c.args.i x t.held.kind e (omega arith) t.below t.most ∙ sym (inner_rest p t.held.kind)
