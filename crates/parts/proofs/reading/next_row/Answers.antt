use Rattle.parts.proofs.ReadLemmas.{reads_raw}
use Rattle.parts.proofs.reading.next_row.Goals as goal

pub returns-in-Ok : goal.returns-in-Ok
returns-in-Ok c =
    reads_raw c.args.reader.now c.read_byte_record.new.self c.read_byte_record.new.row c.in-Ok.found c.requires (c.in-Ok.ensures.reads c.requires.trim c.requires.ready) (c.in-Ok.ensures.ready c.requires.trim) c.in-Ok.ensures.flexible
