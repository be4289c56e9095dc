use Rattle.std.proofs.Common.{◌≡◌}
use Rattle.mfcsv.specs.FileText.{file_of_bytes}
use Rattle.mfcsv.specs.Left.{with_all}
use Rattle.mfcsv.proofs.read.read_file.Given as goal

-- the records so far, in front of what is left, are what all of the file says
abbrev pub invariant-records : goal.invariant-records
invariant-records l = with_all l.records.items l.reader.text ≡ file_of_bytes l.bytes

abbrev pub decreases-records : goal.decreases-records
decreases-records l = l.reader.most
