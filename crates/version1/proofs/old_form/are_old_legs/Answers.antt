use Rattle.std.proofs.Common.{sym, ◌∙◌, arith}
use Rattle.version1.specs.OldForm.{is_old_leg_at}
use Rattle.tbnode.proofs.ListLemmas.{all_below-fails}
use Rattle.version1.proofs.old_form.are_old_legs.Goals as goal

pub returns-then-not-is_old_leg_at : goal.returns-then-not-is_old_leg_at
returns-then-not-is_old_leg_at c =
    sym (all_below-fails (is_old_leg_at c.args.bytes.now) c.args.count c.loop-i.i (omega arith) (sym c.is_old_leg_at.ensures ∙ c.if-not-is_old_leg_at.true))
