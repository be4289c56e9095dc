-- What a run and its closing leave, whatever they answer.
use Rattle.std.proofs.Common.{arith, ℕ, ◌≡◌, ◌<◌, ◌≤◌, ◌⊎◌, ◌∙◌, ◌++◌, refl, sym, inl, inr, [], append-nil, length, take, true, false, Bool, List, Result, Ok, Err, subst}
use Rattle.std.proofs.lemmas.List.{take_all}
use Rattle.std.specs.Prelude.{IfErr, OnErr, OnOk}
use Rattle.legs.specs.Book.{Book}
use Rattle.outputs.specs.Output.{OutputView}
use Rattle.pages.specs.Store.{Store, IsSynced}
use Rattle.boxsearch.specs.Index.{words}
use Rattle.trajdb.specs.Calls.{IsLater, IsLoadFault, KeepsPages}
use Rattle.trajdb.specs.Db.{DbView, HasPages, IsSoundDb}
use Rattle.trajdb.specs.Lasting.{IsClosingFault, IsIdle}
use Rattle.trajdb.specs.Faults.{IsNotOutput}
use Rattle.trajdb.specs.Promises.{CloseCall, KeepsStore, RunCall}
use Rattle.trajdb.specs.Run.{AcceptsSome, AnswersLine, BeginsIn, CutsBy, DoesAll, HasStopped, Runs}
use Rattle.trajdb.specs.declared.RunFault.{RunFault}
use Rattle.trajdb.specs.declared.RunFault.TheVariants as run
use Rattle.trajdb.proofs.StepLemmas.{cut_all}
use Rattle.sessions.specs.Answers.{said, Answers, ClosesAfter, ClosesWith, Ends, FailsToLoad, HasWritten, SendsFront}
use Rattle.sessions.specs.declared.fault.Fault.{Fault}
use Rattle.sessions.proofs.AnswerLemmas.{the_same}
use Rattle.sessions.proofs.WrittenLemmas.{closed_lasts}

-- a fault inside is none of the output
inside_not : (e : RunFault) → IsNotOutput e → e ≡ run.Output → ⊥
inside_not e h o = subst IsNotOutput o h

-- of a store that the closing says to be full or to have failed
closing_full : (db : DbView) (s : Store) (closed : Result (Unit {0}) RunFault) → IfErr closed (IsClosingFault db s) → closed ≡ Err run.StoreFull → s.count ≡ s.most
closing_full db s closed caused is = subst (λ r. IfErr r (IsClosingFault db s)) is caused

-- a run over a database, and its closing
module _ {O : Type 0} (shown : O → OutputView) (old new : DbView) (files : List (List ℕ × List ℕ)) (out out' : O) (lines : List (List ℕ)) where
  abbrev pub Called : Result (Unit {0}) RunFault → Type 0
  Called ran = RunCall words shown files out out' old new lines ran

  abbrev pub Done : Type 0
  Done = IsSoundDb old → Runs files (shown out).contents (shown out').contents old new lines

  abbrev Front : Type 0
  Front = SendsFront old.limits old.book files (shown out).contents (shown out').contents lines

  -- what was sent of a run that was done, of one that stopped at a line, and of one whose output failed
  abbrev front_done : Runs files (shown out).contents (shown out').contents old new lines → Front
  front_done r = record {
    front = r.text;
    sends = r.sends;
    done = length lines;
    text = r.text;
    after = new.book;
    answers = subst (λ l. DoesAll (AnswersLine old.limits files) old.book new.book l r.text) (sym (take_all (length lines) lines (omega arith))) r.does;
    is_front = ([], sym (append-nil r.text));
  }

  abbrev front_stopped : (k : ℕ) → HasStopped old.limits files (shown out).contents (shown out').contents old.book new.book new.failed lines k → Front
  front_stopped k st = record { front = st.run.text; sends = st.run.sends; done = k; text = st.run.text; after = st.before; answers = st.run.does; is_front = ([], sym (append-nil st.run.text)) }

  abbrev front_cut : CutsBy (AnswersLine old.limits files) (shown out).contents (shown out').contents old.book new.book lines → Front
  front_cut c = record {
    front = c.written;
    sends = c.sends;
    done = c.k;
    text = c.before ++ c.text;
    after = new.book;
    answers = cut_all (AnswersLine old.limits files) (shown out).contents (shown out').contents old.book new.book lines c;
    is_front = c.prefix;
  }

  -- whatever is answered
  pub sends_front : (ran : Result (Unit {0}) RunFault) → OnOk ran Done → Called ran → IsSoundDb old → old.failed ≡ false → Front
  sends_front (Ok x) ok call sound lives = front_done (ok sound)
  sends_front (Err run.Output) ok call sound lives = front_cut (call.output refl sound).0
  sends_front (Err _) ok call sound lives = let st = call.refused tt lives sound in front_stopped st.0 st.1

  module _ (s : Store) (store : KeepsStore old new) where
    closes : (r : Result (Unit {0}) RunFault) → CloseCall new s r → new.failed ≡ false → IsSoundDb new → HasPages new → IsIdle new → ClosesWith new.index.tree.shape new.limits new.book r s
    closes (Ok x) close lives sound pages idle = close.holds sound pages idle
    closes (Err e) close lives sound pages idle = (close.only sound lives, λ f. close.unfinished f sound pages lives, close.refused sound pages lives)

    -- it was closed with the book after some lines
    closed_with : (r : Result (Unit {0}) RunFault) → CloseCall new s r → IsLater words old new → KeepsPages words old new → (after : Book) → new.failed ≡ false → IsSoundDb old → IsSoundDb new → HasPages old → IsIdle old → new.book ≡ after
        → ClosesWith old.index.tree.shape old.limits after r s
    closed_with r close later keeps after lives was sound pages idle book =
        subst (λ b. ClosesWith old.index.tree.shape old.limits b r s) book
        (subst (λ l. ClosesWith old.index.tree.shape l new.book r s) later.limits
        (subst (λ t. ClosesWith t new.limits new.book r s) (the_same new.index.tree.shape old.index.tree.shape later.index.plan)
        (closes r close lives sound (keeps.pages was.index.faithful pages) (store.rests idle))))

    -- a run that is answered, and a database that is closed then
    pub answered_both : (ran closed : Result (Unit {0}) RunFault) → OnOk ran Done → Called ran → CloseCall new s closed
        → OnOk ran (OnOk closed (IsSoundDb old → HasPages old → IsIdle old → Answers old.index.tree.shape old.limits old.book files (shown out).contents (shown out').contents lines s))
    answered_both (Err e) closed ok call close = tt
    answered_both (Ok x) (Err e) ok call close = tt
    answered_both (Ok x) (Ok y) ok call close = λ was pages idle. record {
      after = new.book;
      run = ok was;
      holds = closed_with (Ok y) close call.later call.pages new.book call.lives was (call.kept call.lives was) pages idle refl;
    }

    module _ (closed : Result (Unit {0}) RunFault) (close : CloseCall new s closed) (was : IsSoundDb old) (pages : HasPages old) (idle : IsIdle old) (alive : old.failed ≡ false) where
      abbrev Ended : Result (Unit {0}) RunFault → Type 0
      Ended ran = Ends old files (shown out).contents (shown out').contents lines ran closed s

      abbrev Left : (ran : Result (Unit {0}) RunFault) → ℕ → Book → Type 0
      Left ran k after = ClosesAfter old files lines k after closed s ⊎ FailsToLoad old files lines k ran closed s

      -- where there is a fault, one of these lines began it
      accepted : (k : ℕ) → BeginsIn files old new (take k lines) → new.failed ≡ false → old.begun ≡ false → (r : Result (Unit {0}) RunFault) → r ≡ closed → OnErr r (AcceptsSome old.limits files old.book (take k lines))
      accepted k begun lives not (Ok x) same = tt
      accepted k begun lives not (Err e) same = by_begun new.begun refl where
        of_sum : ((old.begun ≡ true) ⊎ AcceptsSome old.limits files old.book (take k lines)) → AcceptsSome old.limits files old.book (take k lines)
        of_sum (inl began) = let w : true ≡ false = sym began ∙ not in absurd cc
        of_sum (inr accepts) = accepts

        by_begun : (b : Bool) → new.begun ≡ b → AcceptsSome old.limits files old.book (take k lines)
        by_begun true is = of_sum (begun is)
        by_begun false is = absurd (cc (same ∙ (close.idle lives is).0))

      left_with : (ran : Result (Unit {0}) RunFault) → Called ran → (k : ℕ) (after : Book) → BeginsIn files old new (take k lines) → new.failed ≡ false → IsSoundDb new → new.book ≡ after → Left ran k after
      left_with ran call k after begun lives sound book =
          inl (closed_with closed close call.later call.pages after lives was sound pages idle book, λ not. accepted k begun lives not closed refl)

      full : closed ≡ Err run.StoreFull → s.count ≡ s.most
      full is = closing_full new s closed close.caused is

      lasts : (ran : Result (Unit {0}) RunFault) → Called ran → OnOk closed (IsSynced s ⊎ HasWritten old s)
      lasts ran call = closed_lasts old new s closed call.pages close.synced (λ lives not. (close.idle lives not).1) (λ f. (close.failed f).0) was.index.faithful idle

      -- all lines were done
      all_done : Runs files (shown out).contents (shown out').contents old new lines → Called (Ok tt) → Ended (Ok tt)
      all_done r call = record {
        sends = record { part = front_done r; whole = refl; all = λ n. refl; cut = λ o. cc o };
        stopped = tt;
        full = λ o. cc o;
        closed_full = full;
        left = left_with (Ok tt) call (length lines) new.book (subst (λ x. BeginsIn files old new x) (sym (take_all (length lines) lines (omega arith))) (call.only was)) call.lives (call.kept call.lives was) refl;
        lasts = lasts (Ok tt) call;
      }

      -- it stopped at a line
      stopped_at : (e : RunFault) → IsNotOutput e → IsLoadFault e → (call : Called (Err e)) (k : ℕ) → HasStopped old.limits files (shown out).contents (shown out').contents old.book new.book new.failed lines k → (new.failed ≡ false → BeginsIn files old new (take k lines))
          → Ended (Err e)
      stopped_at e inside allowed call k st begun = record {
        sends = record {
          part = front_stopped k st;
          whole = tt;
          all = λ n. refl;
          cut = λ o. absurd (inside_not e inside (same_err e run.Output o));
        };
        stopped = λ n. (allowed, (st.within, st.speaks));
        full = λ o. fails_at (call.full o);
        closed_full = full;
        left = by_state new.failed refl;
        lasts = lasts (Err e) call;
      } where
        same_err : (x y : RunFault) → ◌≡◌ {A = Result (Unit {0}) RunFault} (Err x) (Err y) → x ≡ y
        same_err x y o = cc

        fails_at : new.failed ≡ true → FailsToLoad old files lines k (Err e) closed s
        fails_at is = record {
          fault = e;
          ran_is = refl;
          inside = inside_not e inside;
          at = (st.within, st.loads is);
          closed_is = (close.failed is).0;
          safe = λ first safe. close.safe is first (store.safe first was pages safe);
        }

        by_state : (b : Bool) → new.failed ≡ b → Left (Err e) k st.before
        by_state true is = inr (fails_at is)
        by_state false is = left_with (Err e) call k st.before (begun is) is (call.kept is was) (st.book is)

      -- its output failed
      cut_at : (call : Called (Err run.Output)) → Ended (Err run.Output)
      cut_at call =
          let c = call.output refl was in
          record {
            sends = record {
              part = front_cut c.0;
              whole = tt;
              all = λ n. absurd (n refl);
              cut = λ o. (c.0.before, c.0.mid, c.0.earlier, c.0.whole);
            };
            stopped = λ n. absurd n;
            full = λ o. cc o;
            closed_full = full;
            left = left_with (Err run.Output) call c.0.k new.book c.1 (call.cut_lives refl) (call.kept (call.cut_lives refl) was) refl;
            lasts = lasts (Err run.Output) call;
          }

      -- it is refused
      refused : (e : RunFault) → Called (Err e) → Ended (Err e)
      refused (run.Damaged page) call = absurd (call.stopped was alive)
      refused run.Failed call = absurd (call.stopped was alive)
      refused run.Output call = cut_at call
      refused e call = let st = call.refused tt alive was in stopped_at e tt tt call st.0 st.1 st.3

      pub ended : (ran : Result (Unit {0}) RunFault) → OnOk ran Done → Called ran → Ended ran
      ended (Ok x) ok call = all_done (ok was) call
      ended (Err e) ok call = refused e call

-- what is said of both is said of their answer
pub on_said : (P : Type 0) (ran closed : Result (Unit {0}) RunFault) (r : Result (Unit {0}) Fault) → r ≡ said ran closed → OnOk ran (OnOk closed P) → OnOk r P
on_said P (Ok x) (Ok y) r is h = subst (λ k. OnOk k P) (sym is) h
on_said P (Ok x) (Err e) r is h = subst (λ k. OnOk k P) (sym is) tt
on_said P (Err e) closed r is h = subst (λ k. OnOk k P) (sym is) tt

-- a store without pages of which one is to be made is none that is opened
pub neither : (P : Type 0) (b : Bool) (n : ℕ) → b ≡ true → n ≡ 0 → (b ≡ false) ⊎ (0 < n) → P
neither P b n is none (inl not) = let w : true ≡ false = sym is ∙ not in absurd cc
neither P b n is none (inr some) = absurd (omega (arith, some, none))
