use Rattle.mfcsv.specs.Rows.{rows_of}
use Rattle.mfcsv.specs.FileText.{file_of_bytes}
use Rattle.mfcsv.proofs.ReadLemmas.{read_so_far, all_read}
use Rattle.mfcsv.proofs.WholeLemmas.{whole_text}
use Rattle.mfcsv.proofs.read.read_file.Goals as goal

pub records-preserved : goal.records-preserved
records-preserved c =
    let reads = rw c.in-Ok-Some.field-0-is at c.in-Ok-Some.ensures.reads in
    read_so_far c.records.records.items c.push.new.self.items c.in-Ok-Some.found _ c.next_record.new.self.text (file_of_bytes c.args.bytes.now) c.records.invariant reads c.in_ok-push-in-Ok-Some.ensures.items

pub returns-clause-rows : goal.returns-clause-rows
returns-clause-rows c =
    let reads = rw c.in-Ok-None.field-0-is at c.in-Ok-None.ensures.reads in
    whole_text (rows_of c.args.bytes.now) (record { head = c.in_ok-head.head; records = c.from.result }) (all_read c.records.records.items c.from.result c.in_ok-head.head _ c.next_record.new.self.text (file_of_bytes c.args.bytes.now) c.records.invariant reads.1 (c.in_ok-head.ensures.head reads.2) c.from.ensures)
