use Rattle.std.proofs.Common.{ap, sym, ◌∙◌, arith}
use Rattle.tbnode.specs.Form.{is_entry_at}
use Rattle.tbnode.specs.Layout.{is_entry}
use Rattle.tbnode.proofs.ListLemmas.{all_below-fails}
use Rattle.tbnode.proofs.form.are_entries.Goals as goal

pub returns-then-not-is_entry : goal.returns-then-not-is_entry
returns-then-not-is_entry c =
    sym (all_below-fails (is_entry_at c.args.bytes.now) c.args.count c.loop-i.i (omega arith) (ap is_entry (sym c.part.ensures.value) ∙ sym c.is_entry.ensures ∙ c.if-not-is_entry.true))
