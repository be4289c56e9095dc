use Rattle.std.proofs.Common.{◌≡◌}
use Rattle.mfcsv.specs.Unread.{cells}
use Rattle.mfcsv.specs.DataRecord.{attributes_of}
use Rattle.mfcsv.proofs.data_record.copy_values.Given as goal

abbrev pub invariant-loop-i : goal.invariant-loop-i
invariant-loop-i l = l.values.items ≡ attributes_of l.i (cells l.row)
