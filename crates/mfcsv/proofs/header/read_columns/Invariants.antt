use Rattle.std.proofs.Common.{◌≡◌, take}
use Rattle.mfcsv.specs.Unread.{cells}
use Rattle.mfcsv.proofs.ColumnLemmas.{all_pairs}
use Rattle.mfcsv.proofs.header.read_columns.Given as goal

abbrev pub invariant-loop-i : goal.invariant-loop-i
invariant-loop-i l = l.columns.items ≡ take l.i (all_pairs (cells l.row))
