use Rattle.mfcsv.specs.Unread.{cells}
use Rattle.mfcsv.proofs.ColumnLemmas.{IsCounting}
use Rattle.mfcsv.proofs.header.column_count.Given as goal

abbrev pub invariant-loop-count : goal.invariant-loop-count
invariant-loop-count l = IsCounting (cells l.row) l.count

abbrev pub decreases-loop-count : goal.decreases-loop-count
decreases-loop-count l = l.count
