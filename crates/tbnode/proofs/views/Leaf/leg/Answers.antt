use Rattle.std.proofs.Common.{ap, ◌∙◌, arith}
use Rattle.tbnode.specs.Form.{leaf_leg_count, is_leg_at, leaf_from_bytes}
use Rattle.tbnode.specs.Layout.{leg_from_bytes, is_leg}
use Rattle.tbnode.specs.Parts.{slot}
use Rattle.tbnode.proofs.FormLemmas.{leaf_form, leg_within, leg_shown, leg_lawful}
use Rattle.tbnode.proofs.ListLemmas.{all_below-at}
use Rattle.tbnode.proofs.views.Leaf.leg.Goals as goal

pub overflow_mul-i : goal.overflow_mul-i
overflow_mul-i c = omega (arith, (leg_within c.self.inside.payload.now.bytes _ c.args.i c.self.invariant c.self.view_is c.requires).1)

pub overflow_add-i : goal.overflow_add-i
overflow_add-i c = omega (arith, (leg_within c.self.inside.payload.now.bytes _ c.args.i c.self.invariant c.self.view_is c.requires).1)

pub part-requires : goal.part-requires
part-requires c = omega (arith, (leg_within c.self.inside.payload.now.bytes _ c.args.i c.self.invariant c.self.view_is c.requires).1)

pub leg_in-requires-clause-lawful : goal.leg_in-requires-clause-lawful
leg_in-requires-clause-lawful c =
    let bytes = c.self.inside.payload.now.bytes in
    let f = leaf_form bytes c.self.invariant in
    let h = (leg_within bytes _ c.args.i c.self.invariant c.self.view_is c.requires).0 in
    ap is_leg c.part.ensures.value ∙ leg_lawful bytes c.args.i (all_below-at (is_leg_at bytes) (leaf_leg_count bytes) c.args.i f.legs h)

pub returns-clause-value : goal.returns-clause-value
returns-clause-value c =
    let bytes = c.self.inside.payload.now.bytes in
    leg_shown bytes _ c.args.i _ c.self.view_is c.requires
    (c.leg_in.ensures ∙ ap (λ xs. leg_from_bytes c.u32_at.result xs) c.part.ensures.value ∙ ap (λ n. leg_from_bytes n (slot 80 c.args.i bytes)) c.u32_at.ensures)

pub returns-clause-feature : goal.returns-clause-feature
unfolding leg_from_bytes leaf_from_bytes
returns-clause-feature c =
    ap (λ l. l.feature) c.leg_in.ensures ∙ c.u32_at.ensures ∙ ap (λ v. v.feature) c.self.view_is
