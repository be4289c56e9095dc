use Rattle.std.proofs.Common.{◌≡◌, false, sym, subst}
use Rattle.std.specs.Prelude.{IfOk, OnErr, OnOk}
use Rattle.trajdb.specs.Db.{DbView, HasPages, IsSoundDb}
use Rattle.trajdb.specs.Lasting.{IsIdle}
use Rattle.trajdb.specs.Script.{lines_of}
use Rattle.sessions.specs.Answers.{Answers, RunsOver, SendsFront}
use Rattle.sessions.proofs.AnswerLemmas.{on_error}
use Rattle.sessions.proofs.LeftLemmas.{on_said}
use Rattle.sessions.proofs.session.answer.Goals as goal

pub returns-in-Ok-clause-runs : goal.returns-in-Ok-clause-runs
returns-in-Ok-clause-runs g c =
    let r = c.run_and_close-store.result in
    let s = g.S.PageStore.seen r.0 in
    let db = c.in-Ok.database in
    let sent' = (g.O.Output.seen c.run_and_close-store.new.out).contents in
    subst (λ k. OnOk c.answer_of.result (IfOk k (λ (d : DbView). IsSoundDb d → HasPages d → IsIdle d → Answers d.index.tree.shape d.limits d.book c.args.files.now (g.O.Output.seen c.args.out.now).contents sent' (lines_of c.args.script.now) s))) (sym c.in-Ok.is)
    (on_said (IsSoundDb db → HasPages db → IsIdle db → Answers db.index.tree.shape db.limits db.book c.args.files.now (g.O.Output.seen c.args.out.now).contents sent' (lines_of c.args.script.now) s)
    r.1 r.2 c.answer_of.result c.answer_of.ensures c.run_and_close-store.ensures.runs)

pub returns-in-Ok-clause-sent : goal.returns-in-Ok-clause-sent
returns-in-Ok-clause-sent g c =
    let db = c.in-Ok.database in
    let sent = (g.O.Output.seen c.args.out.now).contents in
    let sent' = (g.O.Output.seen c.run_and_close-store.new.out).contents in
    subst (λ k. OnErr c.answer_of.result (IfOk k (λ (d : DbView). IsSoundDb d → d.failed ≡ false → SendsFront d.limits d.book c.args.files.now sent sent' (lines_of c.args.script.now)))) (sym c.in-Ok.is)
    (on_error (IsSoundDb db → db.failed ≡ false → SendsFront db.limits db.book c.args.files.now sent sent' (lines_of c.args.script.now)) c.answer_of.result c.run_and_close-store.ensures.sent)

pub returns-in-Ok-clause-over : goal.returns-in-Ok-clause-over
returns-in-Ok-clause-over g c =
    let r = c.run_and_close-store.result in
    let s = g.S.PageStore.seen r.0 in
    subst (λ k. RunsOver g.S.PageStore.seen g.O.Output.seen k c.args.files.now c.args.out.now c.run_and_close-store.new.out (lines_of c.args.script.now) c.answer_of.result c.answer_of-in-Ok.result s) (sym c.in-Ok.is)
    (r.1, r.2, c.answer_of.ensures, c.answer_of-in-Ok.ensures, c.run_and_close-store.ensures.both)
