use Rattle.std.proofs.Common.{◌≡◌, true}
use Rattle.tbnode.specs.Form.{is_entry_at}
use Rattle.tbnode.specs.Parts.{all_below}
use Rattle.tbnode.proofs.form.are_entries.Given as goal

abbrev pub invariant-loop-i : goal.invariant-loop-i
invariant-loop-i l = all_below (is_entry_at l.bytes) l.i ≡ true
