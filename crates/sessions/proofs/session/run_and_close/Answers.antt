use Rattle.trajdb.specs.Script.{lines_of}
use Rattle.sessions.proofs.LeftLemmas.{answered_both, ended, sends_front}
use Rattle.sessions.proofs.session.run_and_close.Goals as goal

pub returns-clause-runs : goal.returns-clause-runs
returns-clause-runs g c =
    let e = c.run-ran.ensures in
    answered_both g.O.Output.seen c.args.database c.run-ran.new.self c.args.files.now c.args.out.now c.run-ran.new.out (lines_of c.args.script.now) (g.S.PageStore.seen c.close-store.result.0) e.keeps c.run-ran.result c.close-store.result.1 e.ok e.call c.close-store.ensures

pub returns-clause-sent : goal.returns-clause-sent
returns-clause-sent g c =
    sends_front g.O.Output.seen c.args.database c.run-ran.new.self c.args.files.now c.args.out.now c.run-ran.new.out (lines_of c.args.script.now) c.run-ran.result c.run-ran.ensures.ok c.run-ran.ensures.call

pub returns-clause-both : goal.returns-clause-both
returns-clause-both g c =
    let e = c.run-ran.ensures in
    record {
      between = c.run-ran.new.self;
      ok = e.ok;
      run = e.call;
      keeps = e.keeps;
      close = c.close-store.ensures;
      ends = λ was pages idle lived.
          ended g.O.Output.seen c.args.database c.run-ran.new.self c.args.files.now c.args.out.now c.run-ran.new.out (lines_of c.args.script.now) (g.S.PageStore.seen c.close-store.result.0) e.keeps c.close-store.result.1 c.close-store.ensures was pages idle lived
          c.run-ran.result e.ok e.call;
    }
