use Rattle.std.proofs.Common.{◌≡◌, drop}
use Rattle.std.specs.List.{list_all}
use Rattle.mfcsv.specs.Rows.{is_empty}
use Rattle.mfcsv.specs.Unread.{cells}
use Rattle.mfcsv.proofs.data_record.are_blank_from.Given as goal

abbrev pub invariant-loop-place : goal.invariant-loop-place
invariant-loop-place l = list_all is_empty (drop l.first (cells l.row)) ≡ list_all is_empty (drop l.place (cells l.row))
