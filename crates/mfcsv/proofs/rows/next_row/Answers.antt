use Rattle.csv.specs.Reading.{error_kind}
use Rattle.mfcsv.proofs.UnreadLemmas.{fails_at, may_fail, reads_row}
use Rattle.mfcsv.proofs.rows.next_row.Goals as goal

pub returns-in-Ok : goal.returns-in-Ok
returns-in-Ok c =
    reads_row c.args.reader.now c.read_record.new.self c.read_record.new.row c.in-Ok.found c.requires (c.in-Ok.ensures.reads c.requires.trim c.requires.ready) (c.in-Ok.ensures.ready c.requires.trim) c.in-Ok.ensures.flexible (c.in-Ok.ensures.text c.requires.trim)

pub returns-in-Err : goal.returns-in-Err
returns-in-Err c =
    rw c.fault_of.ensures (fails_at c.args.reader.now c.read_record.new.self (error_kind c.in-Err.error) c.requires (c.in-Err.ensures.why c.requires.trim c.requires.ready))

pub fault_of-requires : goal.fault_of-requires
fault_of-requires c = may_fail c.args.reader.now c.read_record.new.self (error_kind c.in-Err.error) c.requires (c.in-Err.ensures.why c.requires.trim c.requires.ready)
