use Rattle.trajdb.specs.Script.{lines_of}
use Rattle.sessions.proofs.FolderLemmas.{leaves_copy}
use Rattle.sessions.proofs.on_copy.run_over.Goals as goal

pub returns : goal.returns
returns g c =
    let how = c.args.how.now in
    let made = c.database-database.ensures in
    leaves_copy g.S.PageStore.seen g.O.Output.seen c.args.files.now c.args.out.now c.answer.new.out (lines_of c.args.script.now) (g.S.PageStore.seen c.answer.result.0) c.answer.result.1.ran c.answer.result.1.kept
    (g.S.PageStore.seen c.args.store) how.is_new how.limits how.cache_pages c.database-database.result made.opens made.kept made.pages made.idle made.lives c.answer.ensures.over
