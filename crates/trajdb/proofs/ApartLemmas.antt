-- A closing and an opening between lines change no answer.
use Rattle.std.proofs.Common.{ℕ, ◌≡◌, ◌∙◌, ◌++◌, List, Option, subst, Ok}
use Rattle.std.proofs.KnownBytes.{Appends-trans}
use Rattle.boxsearch.specs.Index.{words}
use Rattle.legs.specs.Book.{Book}
use Rattle.legs.specs.Limits.{LimitsView}
use Rattle.outputs.specs.Output.{OutputView}
use Rattle.pages.specs.Store.{Store}
use Rattle.trajdb.specs.Db.{DbView, HasPages, IsSoundDb}
use Rattle.trajdb.specs.Lasting.{IsIdle}
use Rattle.trajdb.specs.Promises.{CloseCall, KeepsStore, OpenCall, RunCall}
use Rattle.trajdb.specs.Run.{AnswersLine, Runs, RunsBy}
use Rattle.trajdb.proofs.RunLemmas.{Named}
use Rattle.trajdb.proofs.StepLemmas.{does-append}

-- lines are run over a database, it is closed, the store that is left is opened, and other lines are run over what is
-- opened: each is a call that returns `Ok`
pub record RunsApart {O : Type 0} (shown : O → OutputView) (files : Named) (out out' : O) (old new : DbView) (lines others : List (List ℕ)) : Type 0 where
  pub between : O
  pub closed : DbView
  pub left : Store
  pub cache_pages : ℕ
  pub opened : DbView
  pub runs : IsSoundDb old → Runs files (shown out).contents (shown between).contents old closed lines
  pub run : RunCall words shown files out between old closed lines (Ok tt)
  pub keeps : KeepsStore old closed
  pub closes : CloseCall closed left (Ok tt)
  pub opens : OpenCall {S = Store} (λ store. store) left cache_pages (Ok opened)
  pub runs_on : IsSoundDb opened → Runs files (shown between).contents (shown out').contents opened new others

-- two runs, of which the second goes on where the first ended
run-append : {S : Type 0} (step : S → S → List ℕ → List ℕ → Type 0) (a b c : Option (List ℕ)) (old mid new : S) (xs ys : List (List ℕ)) → RunsBy step a b old mid xs → RunsBy step b c mid new ys → RunsBy step a c old new (xs ++ ys)
run-append step a b c old mid new xs ys first last = record {
  text = first.text ++ last.text;
  does = does-append step old mid new xs ys first.text last.text first.does last.does;
  sends = Appends-trans a b c first.text last.text first.sends last.sends;
}

-- the law: the run of lines and others is the run of the lines, a closing, an opening, and the run of the others
pub apart_is_run : {O : Type 0} (shown : O → OutputView) (files : Named) (out out' : O) (old new : DbView) (lines others : List (List ℕ)) → RunsApart shown files out out' old new lines others
    → IsSoundDb old → HasPages old → IsIdle old → Runs files (shown out).contents (shown out').contents old new (lines ++ others)
apart_is_run shown files out out' old new lines others apart sound pages idle =
    let closed = apart.run.kept apart.run.lives sound in
    let rests = apart.run.pages.pages sound.index.faithful pages in
    let holds = apart.closes.holds closed rests (apart.keeps.rests idle) in
    let faithful = apart.closes.keeps.faithful ∙ closed.index.faithful in
    let has = apart.opens.book faithful apart.closed.index.tree.shape apart.closed.limits apart.closed.book holds in
    let limits = has.limits_are ∙ apart.run.later.limits in
    let on = subst (λ (book : Book). RunsBy (AnswersLine old.limits files) (shown apart.between).contents (shown out').contents book new.book others) has.book_is
    (subst (λ (l : LimitsView). RunsBy (AnswersLine l files) (shown apart.between).contents (shown out').contents apart.opened.book new.book others) limits (apart.runs_on has.sound)) in
    run-append (AnswersLine old.limits files) (shown out).contents (shown apart.between).contents (shown out').contents old.book apart.closed.book new.book lines others (apart.runs sound) on
