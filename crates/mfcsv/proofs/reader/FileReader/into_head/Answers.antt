use Rattle.std.proofs.Common.{ap}
use Rattle.mfcsv.specs.Unread.{rows_left}
use Rattle.mfcsv.specs.Left.{LeftView}
use Rattle.mfcsv.proofs.StageLemmas.{over_head}
use Rattle.mfcsv.proofs.reader.FileReader.into_head.Goals as goal

pub returns-in-Reading-clause-head : goal.returns-in-Reading-clause-head
returns-in-Reading-clause-head c =
    let unread = c.self.inside.unread in
    over_head c.self.inside.stage unread.number unread.heads (rows_left unread.reader) c.args.self c.head_of.result c.in-Reading.is (ap (λ (v : LeftView). v.text) c.self.view_is) (ap (λ (v : LeftView). v.is_over) c.self.view_is) c.head_of.ensures.head
