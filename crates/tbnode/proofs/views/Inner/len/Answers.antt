use Rattle.std.proofs.Common.{◌∙◌}
use Rattle.tbnode.proofs.FormLemmas.{inner_form, entries_counted, told_count}
use Rattle.tbnode.proofs.views.Inner.len.Goals as goal

pub returns : goal.returns
returns c =
    let bytes = c.self.inside.payload.now.bytes in
    let f = inner_form bytes c.self.invariant in
    told_count (c.from.ensures ∙ c.u16_at.ensures) (entries_counted bytes _ c.self.view_is) f.some f.room
