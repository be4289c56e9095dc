use Rattle.std.proofs.Common.{ap, ◌∙◌, arith, ◌<◌}
use Rattle.tbnode.specs.Form.{leaf_leg_count}
use Rattle.version1.specs.OldForm.{old_leg_of, is_old_leg, old_leaf_of}
use Rattle.tbnode.specs.Parts.{slot}
use Rattle.version1.proofs.OldFormLemmas.{old_leaf_form, old_legs_counted, old_leg_shown, old_leg_lawful}
use Rattle.version1.proofs.old_form.OldLeaf.leg.Goals as goal

pub overflow_mul-i : goal.overflow_mul-i
overflow_mul-i c =
    let bytes = c.self.inside.payload.now.bytes in
    let f = old_leaf_form bytes c.self.invariant in
    omega (arith, f.room, c.requires, old_legs_counted bytes _ c.self.view_is)

pub overflow_add-i : goal.overflow_add-i
overflow_add-i c =
    let bytes = c.self.inside.payload.now.bytes in
    let f = old_leaf_form bytes c.self.invariant in
    omega (arith, f.room, c.requires, old_legs_counted bytes _ c.self.view_is)

pub part-requires : goal.part-requires
part-requires c =
    let bytes = c.self.inside.payload.now.bytes in
    let f = old_leaf_form bytes c.self.invariant in
    omega (arith, f.room, c.requires, old_legs_counted bytes _ c.self.view_is)

pub old_leg_in-requires-clause-lawful : goal.old_leg_in-requires-clause-lawful
old_leg_in-requires-clause-lawful c =
    let bytes = c.self.inside.payload.now.bytes in
    let h : c.args.i < leaf_leg_count bytes = omega (arith, c.requires, old_legs_counted bytes _ c.self.view_is) in
    ap is_old_leg c.part.ensures.value ∙ old_leg_lawful bytes c.args.i c.self.invariant h

pub returns-clause-value : goal.returns-clause-value
returns-clause-value c =
    let bytes = c.self.inside.payload.now.bytes in
    old_leg_shown bytes _ c.args.i _ c.self.view_is c.requires
    (c.old_leg_in.ensures ∙ ap (λ xs. old_leg_of c.u32_at.result xs) c.part.ensures.value ∙ ap (λ n. old_leg_of n (slot 64 c.args.i bytes)) c.u32_at.ensures)

pub returns-clause-feature : goal.returns-clause-feature
unfolding old_leg_of old_leaf_of
returns-clause-feature c =
    ap (λ l. l.feature) c.old_leg_in.ensures ∙ c.u32_at.ensures ∙ ap (λ v. v.feature) c.self.view_is
