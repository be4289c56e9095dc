use Rattle.std.proofs.Common.{◌∙◌}
use Rattle.tbnode.proofs.FormLemmas.{leaf_form, legs_counted, told_count}
use Rattle.tbnode.proofs.views.Leaf.len.Goals as goal

pub returns : goal.returns
returns c =
    let bytes = c.self.inside.payload.now.bytes in
    let f = leaf_form bytes c.self.invariant in
    told_count (c.from.ensures ∙ c.u16_at.ensures) (legs_counted bytes _ c.self.view_is) f.some f.room
