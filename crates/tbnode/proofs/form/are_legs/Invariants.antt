use Rattle.std.proofs.Common.{◌≡◌, true}
use Rattle.tbnode.specs.Form.{is_leg_at}
use Rattle.tbnode.specs.Parts.{all_below}
use Rattle.tbnode.proofs.form.are_legs.Given as goal

abbrev pub invariant-loop-i : goal.invariant-loop-i
invariant-loop-i l = all_below (is_leg_at l.bytes) l.i ≡ true
