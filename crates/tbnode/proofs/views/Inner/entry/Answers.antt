use Rattle.std.proofs.Common.{ap, ◌∙◌, arith}
use Rattle.tbnode.specs.Form.{entry_count, is_entry_at}
use Rattle.tbnode.specs.Layout.{entry_from_bytes, is_entry}
use Rattle.tbnode.proofs.FormLemmas.{inner_form, entry_within, entry_shown}
use Rattle.tbnode.proofs.ListLemmas.{all_below-at}
use Rattle.tbnode.proofs.views.Inner.entry.Goals as goal

pub overflow_mul-i : goal.overflow_mul-i
overflow_mul-i c = omega (arith, (entry_within c.self.inside.payload.now.bytes _ c.args.i c.self.invariant c.self.view_is c.requires).1)

pub overflow_add-i : goal.overflow_add-i
overflow_add-i c = omega (arith, (entry_within c.self.inside.payload.now.bytes _ c.args.i c.self.invariant c.self.view_is c.requires).1)

pub part-requires : goal.part-requires
part-requires c = omega (arith, (entry_within c.self.inside.payload.now.bytes _ c.args.i c.self.invariant c.self.view_is c.requires).1)

pub entry_in-requires-clause-lawful : goal.entry_in-requires-clause-lawful
entry_in-requires-clause-lawful c =
    let bytes = c.self.inside.payload.now.bytes in
    let f = inner_form bytes c.self.invariant in
    let h = (entry_within bytes _ c.args.i c.self.invariant c.self.view_is c.requires).0 in
    ap is_entry c.part.ensures.value ∙ all_below-at (is_entry_at bytes) (entry_count bytes) c.args.i f.entries h

pub returns : goal.returns
returns c =
    let bytes = c.self.inside.payload.now.bytes in
    entry_shown bytes _ c.args.i _ c.self.view_is c.requires (c.entry_in.ensures ∙ ap entry_from_bytes c.part.ensures.value)
