use Rattle.mfcsv.specs.FileText.{file_of_bytes}
use Rattle.trajdb.proofs.LoadLemmas.{IsReading}
use Rattle.trajdb.proofs.load.join_text.Given as goal

abbrev pub invariant-records : goal.invariant-records
invariant-records l = IsReading l.tracks l.limits (file_of_bytes l.bytes) l.reader.text l.joiner l.rows

abbrev pub decreases-records : goal.decreases-records
decreases-records l = l.reader.most
