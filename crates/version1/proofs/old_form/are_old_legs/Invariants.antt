use Rattle.std.proofs.Common.{◌≡◌, true}
use Rattle.version1.specs.OldForm.{is_old_leg_at}
use Rattle.tbnode.specs.Parts.{all_below}
use Rattle.version1.proofs.old_form.are_old_legs.Given as goal

abbrev pub invariant-loop-i : goal.invariant-loop-i
invariant-loop-i l = all_below (is_old_leg_at l.bytes) l.i ≡ true
