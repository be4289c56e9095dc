use Rattle.std.proofs.Common.{ap}
use Rattle.mfcsv.specs.Unread.{rows_left}
use Rattle.mfcsv.specs.Left.{LeftView}
use Rattle.mfcsv.proofs.StageLemmas.{none_reads, over_reads}
use Rattle.mfcsv.proofs.reader.FileReader.next_record.Goals as goal

pub returns-in-Over-clause-reads : goal.returns-in-Over-clause-reads
returns-in-Over-clause-reads c =
    let unread = c.self.inside.unread in
    over_reads c.self.inside.stage unread.number unread.heads (rows_left unread.reader) c.args.self.now c.in-Over.is (ap (λ (v : LeftView). v.text) c.self.view_is) (ap (λ (v : LeftView). v.is_over) c.self.view_is) c.end_of.ensures

pub returns-in-Ok-None-clause-reads : goal.returns-in-Ok-None-clause-reads
returns-in-Ok-None-clause-reads c =
    let unread = c.self.inside.unread in
    let left = rw c.in-Ok-None.field-0-is at c.in-Ok-None.ensures.reads in
    none_reads c.self.inside.stage unread.number c.next.new.self.number unread.heads c.next.new.self.heads (rows_left unread.reader) c.args.self.now c.in-Reading.is (ap (λ (v : LeftView). v.text) c.self.view_is) left c.end_of-in-Ok-None.ensures
