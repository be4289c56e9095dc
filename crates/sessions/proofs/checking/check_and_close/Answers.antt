use Rattle.std.proofs.Common.{sym, subst}
use Rattle.std.specs.Prelude.{IfOk, IsTrue}
use Rattle.trajdb.specs.Lasting.{IsIdle}
use Rattle.sessions.specs.Answers.{Checks}
use Rattle.sessions.proofs.CheckLemmas.{checks, left}
use Rattle.sessions.proofs.WrittenLemmas.{checked_stays}
use Rattle.sessions.proofs.checking.check_and_close.Goals as goal

pub returns-clause-checks : goal.returns-clause-checks
returns-clause-checks g c =
    let old = c.args.database in
    let s = g.S.PageStore.seen c.close-store.result.0 in
    subst (λ r. IfOk r (λ report. IsTrue old.index.cache.store.is_faithful → IsIdle old → Checks s old report)) (sym c.answer_of-answered.ensures)
    (checks old c.check-checked.new.self s c.check-checked.ensures.keeps c.check-checked.result c.close-store.result.1 c.check-checked.ensures.call c.close-store.ensures)

pub returns-clause-left : goal.returns-clause-left
returns-clause-left g c =
    left c.args.database c.check-checked.new.self (g.S.PageStore.seen c.close-store.result.0) c.check-checked.ensures.keeps c.check-checked.result c.close-store.result.1 c.check-checked.ensures.call c.close-store.ensures

pub returns-clause-stays : goal.returns-clause-stays
returns-clause-stays g c =
    checked_stays c.args.database c.check-checked.new.self (g.S.PageStore.seen c.close-store.result.0) c.check-checked.ensures.call.leaves (λ l b. (c.close-store.ensures.idle l b).1)

pub returns-clause-both : goal.returns-clause-both
returns-clause-both g c = record {
  between = c.check-checked.new.self;
  checked = c.check-checked.result;
  closed = c.close-store.result.1;
  answers = c.answer_of-answered.ensures;
  check = c.check-checked.ensures.call;
  keeps = c.check-checked.ensures.keeps;
  close = c.close-store.ensures;
}
