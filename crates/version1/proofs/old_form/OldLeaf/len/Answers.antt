use Rattle.std.proofs.Common.{sym, ◌∙◌, arith}
use Rattle.version1.proofs.OldFormLemmas.{old_leaf_form, old_legs_counted}
use Rattle.version1.proofs.old_form.OldLeaf.len.Goals as goal

pub returns-clause-value : goal.returns-clause-value
returns-clause-value c =
    c.from.ensures ∙ c.u16_at.ensures ∙ sym (old_legs_counted c.self.inside.payload.now.bytes _ c.self.view_is)

pub returns-clause-least : goal.returns-clause-least
returns-clause-least c =
    let f = old_leaf_form c.self.inside.payload.now.bytes c.self.invariant in
    omega (arith, f.some, c.from.ensures, c.u16_at.ensures)

pub returns-clause-most : goal.returns-clause-most
returns-clause-most c =
    let f = old_leaf_form c.self.inside.payload.now.bytes c.self.invariant in
    omega (arith, f.room, c.from.ensures, c.u16_at.ensures)
