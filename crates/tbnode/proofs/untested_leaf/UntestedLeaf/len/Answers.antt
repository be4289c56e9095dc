use Rattle.std.proofs.Common.{ap, sym, ◌∙◌, arith}
use Rattle.tbnode.specs.Form.{leaf_leg_count}
use Rattle.tbnode.proofs.FormLemmas.{legs_counted}
use Rattle.tbnode.proofs.UntestedLemmas.{counted, says}
use Rattle.tbnode.proofs.untested_leaf.UntestedLeaf.len.Goals as goal

pub returns-clause-value : goal.returns-clause-value
returns-clause-value c = λ leaf e.
    c.from.ensures ∙ c.u16_at.ensures ∙ ap (λ p. leaf_leg_count p.bytes) c.self.view_is ∙ sym (legs_counted c.args.self.now.bytes leaf (says c.args.self.now leaf e).is)

pub returns-clause-least : goal.returns-clause-least
returns-clause-least c =
    let f = counted c.self.inside.payload.now.bytes c.self.invariant in
    omega (arith, f.some, c.from.ensures, c.u16_at.ensures)

pub returns-clause-most : goal.returns-clause-most
returns-clause-most c =
    let f = counted c.self.inside.payload.now.bytes c.self.invariant in
    omega (arith, f.room, c.from.ensures, c.u16_at.ensures)
