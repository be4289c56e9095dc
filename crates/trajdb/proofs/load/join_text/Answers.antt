use Rattle.mfcsv.specs.FileText.{file_of_bytes}
use Rattle.std.specs.Option.{option_copied}
use Rattle.trajdb.proofs.LoadLemmas.{reading_ends, reading_fails, reading_head_fails, reading_joined, reading_more, reading_refused, reading_starts}
use Rattle.trajdb.proofs.load.join_text.Goals as goal

pub records-init : goal.records-init
records-init c = reading_starts c.args.tracks.now c.args.limits.now (file_of_bytes c.args.bytes.now) c.new-reader.result.text c.new-joiner.result c.new-rows.result c.new-reader.ensures c.new-joiner.ensures.joining c.new-rows.ensures

pub records-preserved : goal.records-preserved
records-preserved c =
    let reads = rw c.in-Ok-Some.field-0-is at c.in-Ok-Some.ensures.reads in
    reading_more c.args.tracks.now c.args.limits.now (file_of_bytes c.args.bytes.now) c.records.reader.text c.next_record.new.self.text c.records.joiner c.take_record.new.joiner c.records.rows c.take_record.new.rows c.in-Ok-Some.found c.records.invariant reads
    c.in-Ok.ensures.joined c.in-Ok.ensures.rows

pub returns-in-Err-clause-refused : goal.returns-in-Err-clause-refused
returns-in-Err-clause-refused c = λ book stands same.
    rw c.code_fault.ensures (reading_fails c.args.tracks.now c.args.limits.now c.args.bytes.now c.records.reader.text c.records.joiner c.records.rows c.in-Err.fault book c.records.invariant (rw c.in-Err.fault-is at c.in-Err.ensures.reads).0)

pub returns-in-Err-into_head-clause-refused : goal.returns-in-Err-into_head-clause-refused
returns-in-Err-into_head-clause-refused c = λ book stands same.
    let reads = rw c.in-Ok-None.field-0-is at c.in-Ok-None.ensures.reads in
    rw c.code_fault-in-Err-into_head.ensures (reading_head_fails c.args.tracks.now c.args.limits.now c.args.bytes.now c.records.reader.text c.next_record.new.self.text c.records.joiner c.records.rows c.in-Err-into_head.fault book c.records.invariant reads.1 (c.in-Err-into_head.ensures.head reads.2))

pub returns-in-Ok-finish-clause-joined : goal.returns-in-Ok-finish-clause-joined
returns-in-Ok-finish-clause-joined c =
    let reads = rw c.in-Ok-None.field-0-is at c.in-Ok-None.ensures.reads in
    let said = reading_ends c.args.tracks.now c.args.limits.now c.args.bytes.now c.records.reader.text c.next_record.new.self.text c.records.joiner c.records.rows c.in-Ok-into_head.head c.records.invariant reads.1 (c.in-Ok-into_head.ensures.head reads.2) in
    reading_joined c.args.tracks.now c.args.limits.now c.args.bytes.now c.records.reader.text c.records.joiner c.records.rows (option_copied c.args.first) c.in-Ok-into_head.head c.in-Ok-finish.joined c.records.invariant said c.in-Ok-finish.ensures.joined

pub returns-in-Err-finish-clause-refused : goal.returns-in-Err-finish-clause-refused
returns-in-Err-finish-clause-refused c = λ book stands same.
    let reads = rw c.in-Ok-None.field-0-is at c.in-Ok-None.ensures.reads in
    let said = reading_ends c.args.tracks.now c.args.limits.now c.args.bytes.now c.records.reader.text c.next_record.new.self.text c.records.joiner c.records.rows c.in-Ok-into_head.head c.records.invariant reads.1 (c.in-Ok-into_head.ensures.head reads.2) in
    rw c.join_fault.ensures (reading_refused c.args.tracks.now c.args.limits.now c.args.bytes.now c.records.reader.text c.records.joiner c.records.rows c.in-Ok-into_head.head book c.in-Err-finish.fault c.records.invariant said
    (c.in-Err-finish.ensures.refused c.args.limits.now book c.records.invariant.records (c.records.invariant.joining book stands) same))
