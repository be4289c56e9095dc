-- What a check and its closing leave.
use Rattle.std.proofs.Common.{◌≡◌, ◌⊎◌, ◌∙◌, ap, refl, sym, inl, inr, true, false, Bool, IsTrue, Result, Ok, Err, subst}
use Rattle.std.specs.Prelude.{length, IfOk}
use Rattle.legs.specs.Book.{Book}
use Rattle.legs.specs.Costs.{ShapeView}
use Rattle.legs.specs.Limits.{LimitsView}
use Rattle.pages.specs.Store.{Store}
use Rattle.boxsearch.specs.Index.{words}
use Rattle.catalogue.specs.Holding.{HoldsBook, HoldsButFirst, IsUnfinishedStore}
use Rattle.trajdb.specs.Calls.{LeavesBook}
use Rattle.trajdb.specs.Db.{DbView, HasPages, IsSoundDb}
use Rattle.trajdb.specs.Lasting.{IsIdle}
use Rattle.trajdb.specs.Promises.{CheckCall, CloseCall, KeepsStore}
use Rattle.trajdb.specs.declared.Report.{Report}
use Rattle.trajdb.specs.declared.RunFault.{RunFault}
use Rattle.sessions.specs.Answers.{said_checked, Checks, HoldsOrNot}
use Rattle.sessions.proofs.AnswerLemmas.{the_same}

-- what is left of a database that was checked and is closed then
module _ (old new : DbView) (s : Store) (keeps : KeepsStore old new) where
  same_book : LeavesBook words old new → (P : ShapeView → LimitsView → Book → Type 0) → P new.index.tree.shape new.limits new.book → P old.index.tree.shape old.limits old.book
  same_book leaves P h =
      subst (λ b. P old.index.tree.shape old.limits b) leaves.book
      (subst (λ l. P old.index.tree.shape l new.book) leaves.limits
      (subst (λ k. P k new.limits new.book) (the_same new.index.tree.shape old.index.tree.shape leaves.index.later.plan) h))

  pub left : (checked : Result Report RunFault) (closed : Result (Unit {0}) RunFault) → CheckCall old new checked → CloseCall new s closed → IsSoundDb old → HasPages old → IsIdle old → old.failed ≡ false → HoldsOrNot s old
  left checked (Ok x) check close sound pages idle lives =
      inl (same_book check.leaves (λ k l b. HoldsBook s k l b) (close.holds (check.leaves.sound sound) (check.pages.pages sound.index.faithful pages) (keeps.rests idle)))
  left checked (Err e) check close sound pages idle lives = by_begun old.begun refl where
    by_begun : (b : Bool) → old.begun ≡ b → HoldsOrNot s old
    by_begun true is =
        inr (is, same_book check.leaves (λ k l b. IsUnfinishedStore s ⊎ HoldsButFirst s k l b) (close.refused (check.leaves.sound sound) (check.pages.pages sound.index.faithful pages) (check.leaves.failed ∙ lives)))
    by_begun false is =
        let done : Err e ≡ Ok tt = (close.idle (check.leaves.failed ∙ lives) (check.leaves.begun ∙ is)).0 in
        absurd cc

  pub checks : (checked : Result Report RunFault) (closed : Result (Unit {0}) RunFault) → CheckCall old new checked → CloseCall new s closed → IfOk (said_checked checked closed) (λ report. IsTrue old.index.cache.store.is_faithful → IsIdle old → Checks s old report)
  checks (Err e) closed check close = tt
  checks (Ok report) (Err e) check close = tt
  checks (Ok report) (Ok x) check close = λ fa idle.
      let r = check.report fa in
      record {
        holds = same_book check.leaves (λ k l b. HoldsBook s k l b) (close.holds (check.sound fa) (check.has_pages fa) (keeps.rests idle));
        pages = λ unbegun. r.pages ∙ ap (λ (k : Store). k.count) (sym (close.idle check.lives (check.leaves.begun ∙ unbegun)).1);
        legs = r.legs ∙ ap (λ (b : Book). length b.legs) check.leaves.book;
        features = r.features ∙ ap (λ (b : Book). length b.names) check.leaves.book;
      }
