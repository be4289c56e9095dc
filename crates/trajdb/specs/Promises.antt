-- What each call of a database promises: one record for a call, each field of which is a clause. A public function that
-- ensures such a record ensures each of them. `load`, `command` and `run` are of a database over any index; what one over
-- pages promises besides stands behind.
use Rattle.std.specs.Prelude.{ℕ, ◌≡◌, ◌<◌, ◌⊎◌, List, [], Option, Some, None, Result, Ok, Err, IfOk, IfErr, IsErrOf, IsTrue, OnOk, OnErr, true, false}
use Rattle.std.specs.Global.{Vec}
use Rattle.legs.specs.Book.{Book}
use Rattle.legs.specs.declared.listed.Listed.{Ghosts}
use Rattle.legs.specs.Costs.{ShapeView}
use Rattle.legs.specs.Limits.{LimitsView}
use Rattle.pagecache.specs.Cache.{payload_of, stored_payload, IsClean}
use Rattle.pages.specs.Store.{IsSynced, IsSyncedButFirst, Keeps, Stays, Store}
use Rattle.outputs.specs.Output.{HasRefused, IsFlushed, OutputView}
use Rattle.boxsearch.specs.Index.{words, IsMarked}
use Rattle.register.specs.Lasting.{first_fault, ComesFirst, IsReadingFault, IsStop}
use Rattle.catalogue.specs.Holding.{HoldsBook, HoldsButFirst, IsUnfinishedStore}
use Rattle.querylang.specs.CodeText.{line_code_text}
use Rattle.querylang.specs.Line.{line_command}
use Rattle.querylang.specs.declared.Command.{Command}
use Rattle.querylang.specs.declared.LineCode.{LineCode}
use Rattle.trajdb.specs.Answers.{AcceptsBy, IsAnswer, book_then, book_with, load_of, refusal_text}
use Rattle.trajdb.specs.Calls.{QuestionAsks, Begins, BeginsOnly, HasLoad, IsAsked, IsLater, IsLoadFault, IsLoadStop, IsQuestionFault, IsRunStop, IsStopped, KeepsPages, LeavesBook, Loads, RisesWithin, lines_cost}
use Rattle.trajdb.specs.Db.{Reports, DbView, HasPages, IsSoundDb}
use Rattle.trajdb.specs.Database.{CoreView, FailsBy, IsRefused, IsSound, IsTold, LoadGives, Becomes}
use Rattle.trajdb.specs.Faults.{IsNotOutput}
use Rattle.trajdb.specs.Lasting.{HasBook, IsClosingFault, IsFaultless, IsIdle, IsSafe, IsSafeStore, IsUnfinishedAnswer}
use Rattle.trajdb.specs.Run.{AcceptsSome, CutsBy, RunsBy, StopsAt, Stops, IsCut}
use Rattle.trajdb.specs.Telling.{IsToldAnswer, NamesBy}
use Rattle.trajdb.specs.declared.Counts.{Counts}
use Rattle.trajdb.specs.declared.LoadFault.{LoadFault}
use Rattle.register.specs.declared.fault.CatalogueFault.{CatalogueFault}
use Rattle.trajdb.specs.declared.Report.{Report}
use Rattle.trajdb.specs.declared.RunFault.{RunFault}

-- what `load` of a file promises
pub record LoadCall {I : Type 0} (g : Ghosts I) (old new : CoreView I) (bytes : List ℕ)
    (result : Result Counts LoadFault) : Type 0 where
  -- on a sound database it returns exactly the counts of the file or its first fault, unless it
  -- cannot tell
  pub counts : IsSound g old → LoadGives result (load_of old.limits old.book bytes)
  -- a sound database stays sound, and has the book with the file, or as it was if the file is
  -- refused
  pub becomes : IsTold result → Becomes g old new (book_with old.limits old.book bytes)
  -- a file that is accepted or refused leaves a database that has not failed
  pub lives : IsTold result → new.failed ≡ false
  -- a database that could not tell is failed
  pub failed : IfErr result (λ fault. FailsBy fault → new.failed ≡ true)
  -- any other error is true: `Store` only if the store failed, `StoreFull` only if it is full
  pub stopped : IfErr result (IsLoadStop g old new)
  -- limits and shape stay, and no count falls
  pub later : IsLater g old new
  -- a refused file changes nothing
  pub refused : IfErr result (λ fault. IsRefused fault → new ≡ old)
  -- an accepted file begins the database, and nothing else does
  pub begun : OnOk result (new.begun ≡ true)
  -- page 0 of a faithful store then says that it is not finished, whether the database is sound or
  -- not
  pub marks : OnOk result (g.is_faithful old.index → g.is_marked new.index)
  -- an error begins no database
  pub idle : OnErr result (new.begun ≡ old.begun)
  -- a begun database keeps page 0 marked; before that no page as written changes, except page 0 if
  -- the store fails
  pub pages : KeepsPages g old new
  -- a failed database does nothing
  pub was_failed : old.failed ≡ true
      → (result ≡ Err (LoadFault.Run RunFault.Failed)) × (new ≡ old)

-- what `command` promises, with the named files at hand
pub record CommandCall {I : Type 0} (g : Ghosts I) (files : List (List ℕ × List ℕ))
    (old new : CoreView I) (command : Command) (result : Result (Vec ℕ) RunFault) : Type 0 where
  -- a sound database returns what the command's definition says of the book
  pub text : IfOk result (λ text. IsSound g old
      → IsAnswer old.limits files old.book command text.items)
  -- a sound database stays sound, with the book after the command
  pub becomes : OnOk result (Becomes g old new (book_then old.limits files old.book command))
  -- a command that returns `Ok` leaves a database that has not failed
  pub lives : OnOk result (new.failed ≡ false)
  -- any database answers by what the pages that it met say, and by nothing else
  pub says : IfOk result (λ text. IsToldAnswer g old files command text.items)
  -- a page that a question's error names was met and is not what it has to be there, or is page 0
  pub named : IfErr result (NamesBy g old command)
  -- a sound database asks for as many pages as the list of legs gives, or at most its bound
  pub asks : OnOk result (QuestionAsks g old new command)
  -- limits and shape stay, and no count falls
  pub later : IsLater g old new
  -- every command but a `load` of a file that is there leaves the book as it was
  pub question : (Loads files command → ⊥) → LeavesBook g old new
  -- after an error the book is as it was, or the database has failed
  pub refused : OnErr result (new.failed ≡ false → LeavesBook g old new)
  -- a `load` of a file that is there fails only with a failed database
  pub failed : OnErr result (Loads files command → new.failed ≡ true)
  -- `StoreFull` is returned only by a `load` of a file that is there
  pub full : IsErrOf result RunFault.StoreFull → Loads files command
  -- `Store` is returned only if the store failed, and `StoreFull` only if it is full; a sound
  -- database names no page
  pub stopped : IfErr result (IsStopped g old new)
  -- an accepted file begins the database, and nothing else does
  pub begins : OnOk result (Begins g old new (AcceptsBy old.limits files old.book command))
  -- whatever is returned, only an accepted file begins a sound database
  pub only : BeginsOnly g old new (AcceptsBy old.limits files old.book command)
  -- a database that has begun keeps page 0 marked; before that no page as written changes, except
  -- page 0 if the store fails
  pub pages : KeepsPages g old new
  -- a failed database does nothing
  pub was_failed : old.failed ≡ true → (result ≡ Err RunFault.Failed) × (new ≡ old)

-- what lines do, by what a command promises, with the named files at hand
module _ {I : Type 0} (g : Ghosts I) (files : List (List ℕ × List ℕ)) (old new : CoreView I) where
  -- the text answers a line that was read: a command as `command` promises; any other line leaves all as it is
  abbrev pub DoesSaid : Result (Option Command) LineCode → List ℕ → Type 0
  DoesSaid (Ok (Some command)) text =
      (answer : Vec ℕ) × (answer.items ≡ text) × CommandCall g files old new command (Ok answer)
  DoesSaid (Ok None) text = (text ≡ []) × (new ≡ old)
  DoesSaid (Err code) text = (text ≡ refusal_text (line_code_text code)) × (new ≡ old)

  -- the text answers a line
  unfoldable pub DoesLine : List ℕ → List ℕ → Type 0
  DoesLine line text = DoesSaid (line_command line) text

  -- why a line that was read is not answered: the command is refused, as `command` promises, or memory ran out before it
  abbrev pub StopsSaid : Result (Option Command) LineCode → RunFault → Type 0
  StopsSaid (Ok (Some command)) fault =
      CommandCall g files old new command (Err fault) ⊎ (fault ≡ RunFault.Memory) × (new ≡ old)
  StopsSaid (Ok None) fault = ⊥
  StopsSaid (Err code) fault = (fault ≡ RunFault.Memory) × (new ≡ old)

  -- why a line is not answered
  unfoldable pub StopsLine : List ℕ → RunFault → Type 0
  StopsLine line fault = StopsSaid (line_command line) fault

-- what `run` of the lines of a script promises beside its theorem, with the named files at hand, and with an output
-- that shows what it has taken
pub record RunCall {I O : Type 0} (g : Ghosts I) (shown : O → OutputView)
    (files : List (List ℕ × List ℕ)) (out out' : O) (old new : CoreView I)
    (lines : List (List ℕ)) (result : Result (Unit {0}) RunFault) : Type 0 where
  -- a sound database is sound still, unless it has failed
  pub kept : new.failed ≡ false → IsSound g old → IsSound g new
  -- after `Ok` the database has not failed
  pub lives : OnOk result (new.failed ≡ false)
  -- any database sent the answers to all lines, each of which does what `command` promises
  pub says : OnOk result
      (RunsBy (DoesLine g files) (shown out).contents (shown out').contents old new lines)
  -- a sound database asks for at most the sum of the bounds of its lines, where none is a `load`
  pub asks : OnOk result (IsSound g old → (HasLoad lines → ⊥)
      → RisesWithin (g.asked old.index) (g.asked new.index)
      (lines_cost old.book (g.plan old.index) lines))
  -- if the output fails, a prefix of such answers was sent, all but the last one whole
  pub says_cut : IsErrOf result RunFault.Output
      → CutsBy (DoesLine g files) (shown out).contents (shown out').contents old new lines
  -- if the output fails, a sound database is as after some lines, and a prefix of their answers was
  -- sent
  pub output : IsErrOf result RunFault.Output → IsSound g old
      → IsCut files (shown out).contents (shown out').contents old new lines
  -- the database has not failed if the output fails
  pub cut_lives : IsErrOf result RunFault.Output → new.failed ≡ false
  -- `Output` is returned only if the output refused a call
  pub output_caused : IsErrOf result RunFault.Output → HasRefused (shown out) (shown out')
  -- after `Ok` the output refused no call, and is flushed
  pub flushed : OnOk result (IsFlushed (shown out) (shown out'))
  -- if the run stops at a line, the answers before are flushed, unless the output refused a call
  pub flushed_before : IfErr result (λ fault. IsNotOutput fault → old.failed ≡ false
      → IsTrue (shown out').is_flushed ⊎ HasRefused (shown out) (shown out'))
  -- if the run stops at a line, a sound database is as after the lines before, or has failed; their
  -- answers were sent whole
  pub refused : IfErr result (λ e. IsNotOutput e → old.failed ≡ false → IsSound g old
      → Stops files (shown out).contents (shown out').contents old new lines)
  -- the run stops at a line that is a command or is refused; only a `load` of a file that is there
  -- fails the database
  pub stops : IfErr result (λ fault. IsNotOutput fault → old.failed ≡ false
      → StopsAt files new.failed fault lines)
  -- `StoreFull` is returned only by a `load`, so the database has failed
  pub full : IsErrOf result RunFault.StoreFull → new.failed ≡ true
  -- `Store` is returned only if the store failed, and `StoreFull` only if it is full; a sound
  -- database names no page
  pub stopped : IfErr result (IsRunStop g old new)
  -- limits and shape stay, and no count falls
  pub later : IsLater g old new
  -- an accepted file begins the database, and nothing else does
  pub begins : OnOk result (Begins g old new (AcceptsSome old.limits files old.book lines))
  -- whatever is returned, only an accepted file begins a sound database
  pub only : BeginsOnly g old new (AcceptsSome old.limits files old.book lines)
  -- a database that has begun keeps page 0 marked; before that no page as written changes, except
  -- page 0 if the store fails
  pub pages : KeepsPages g old new
  -- a failed database does nothing, and nothing is sent
  pub was_failed : old.failed ≡ true → (result ≡ Err RunFault.Failed) × (new ≡ old) × (out' ≡ out)

-- what a call of a database over pages keeps, whatever it answers: one at rest stays so until it accepts a file or
-- fails, and the store of a sound one, whose pages are as its state says, stays safe
pub record KeepsStore (old new : DbView) : Type 0 where
  -- a database at rest stays at rest until it begins or fails
  pub rests : IsIdle old → IsIdle new
  -- if such a database is given up, its store is refused as unfinished, or is the one that was
  -- there before
  pub safe : (was : Store) → IsSoundDb old → HasPages old → IsSafe was old → IsSafe was new

-- what `open` of a store promises, with a cache of so many pages, where `seen` is what contracts see of one that is
-- handed back
pub record OpenCall {S : Type 0} (seen : S → Store) (store : Store) (cache_pages : ℕ)
    (result : Result DbView (S × CatalogueFault)) : Type 0 where
  -- a store whose pages hold a book gives a sound database with that book
  pub book : IfOk result (λ db. IsTrue store.is_faithful
      → (shape : ShapeView) (limits : LimitsView) (book : Book)
      → HoldsBook store shape limits book → HasBook shape limits book db)
  -- a store that holds a book is refused only if memory runs out or the store fails
  pub holds : IfErr result (λ back. IsTrue store.is_faithful
      → (shape : ShapeView) (limits : LimitsView) (book : Book)
      → HoldsBook store shape limits book → IsStop back.1)
  -- the pages as written keep what the database knows
  pub idle : IfOk result (λ db. IsTrue store.is_faithful → IsIdle db)
  -- an opened database has not begun
  pub begun : IfOk result (λ db. db.begun ≡ false)
  -- it has not failed
  pub lives : IfOk result (λ db. db.failed ≡ false)
  -- its cache holds at most that many pages
  pub capacity : IfOk result (λ db. db.index.cache.capacity ≡ cache_pages)
  -- page 0 comes first
  pub first : IfErr result (λ back. IsTrue store.is_faithful
      → ComesFirst (first_fault store.count (stored_payload store 0)) back.1)
  -- a faithful store that is opened has a page 0 without a fault
  pub finished : IfOk result (λ db. IsTrue store.is_faithful
      → first_fault store.count (stored_payload store 0) ≡ None)
  -- a store that was not finished is refused as such
  pub unfinished : IsTrue store.is_faithful → 0 < store.count → IsUnfinishedStore store
      → IsUnfinishedAnswer result
  -- the store stays as it is
  pub stored : IfOk result (λ db. Stays store db.index.cache.store)
  -- a store that is handed back is as it was
  pub back : IfErr result (λ back. Stays store (seen back.0))
  -- the store of a sound one stays safe: no page was written since it was opened
  pub safe : IfOk result (λ db. IsTrue store.is_faithful → IsSoundDb db → IsSafe store db)
  -- `Store` is returned only if the store failed, and `StoreFull` never
  pub caused : IfErr result (λ back. IsReadingFault store (seen back.0) back.1)

-- what `close` of a database promises of the store that is left
pub record CloseCall (db : DbView) (left : Store)
    (result : Result (Unit {0}) RunFault) : Type 0 where
  -- it then holds the book
  pub holds : OnOk result (IsSoundDb db → HasPages db → IsIdle db
      → HoldsBook left db.index.tree.shape db.limits db.book)
  -- all of it is synced where it has begun; else it stays as it is (`idle`)
  pub synced : OnOk result (db.begun ≡ true → IsSynced left)
  -- closing a sound database fails only if memory runs out, or the store fails or is full
  pub only : IfErr result (λ fault. IsSoundDb db → db.failed ≡ false → IsLoadFault fault)
  -- if memory ran out or the store is full, the store says that it is not finished
  pub unfinished : IfErr result (λ fault. IsFaultless fault → IsSoundDb db → HasPages db
      → db.failed ≡ false → IsUnfinishedStore left)
  -- before page 0 may say that the store is finished, all else is written and synced
  pub refused : OnErr result (IsSoundDb db → HasPages db → db.failed ≡ false
      → IsUnfinishedStore left ⊎ HoldsButFirst left db.index.tree.shape db.limits db.book)
  -- on an error a marked store is unfinished, or all its pages but page 0 are synced
  pub ordered : OnErr result (db.failed ≡ false → IsMarked db.index.cache
      → IsUnfinishedStore left ⊎ IsSyncedButFirst left)
  -- nothing is written of a database that has not begun, and of a failed one
  pub idle : db.failed ≡ false → db.begun ≡ false → (result ≡ Ok tt)
      × (left ≡ db.index.cache.store)
  -- a failed database returns `Failed`, and writes nothing
  pub failed : db.failed ≡ true → (result ≡ Err RunFault.Failed) × (left ≡ db.index.cache.store)
  -- it is the same store, and its count of faults did not fall
  pub keeps : Keeps db.index.cache.store left
  -- after a failed load the store is refused as not finished, or is the one that was there before,
  -- but for page 0 if the store failed
  pub safe : db.failed ≡ true → (was : Store) → IsSafe was db → IsSafeStore was left
  -- `Store` is returned only if the store failed, `StoreFull` only if it is full, and `Failed` only
  -- of a failed database
  pub caused : IfErr result (IsClosingFault db left)

-- what `check` of a database promises
pub record CheckCall (old new : DbView) (result : Result Report RunFault) : Type 0 where
  -- what passes is sound, whoever made the pages
  pub sound : OnOk result (IsTrue old.index.cache.store.is_faithful → IsSoundDb new)
  -- page 0 then says unfinished if the database has begun; if not, no page is changed
  pub has_pages : OnOk result (IsTrue old.index.cache.store.is_faithful → HasPages new)
  -- the report has the true numbers of pages, legs and features
  pub report : IfOk result (λ report. IsTrue old.index.cache.store.is_faithful
      → Reports new report)
  -- a database that passes has not failed
  pub lives : OnOk result (new.failed ≡ false)
  -- what is sound passes
  pub only : IfErr result (λ fault. IsSoundDb old → HasPages old → IsIdle old
      → old.failed ≡ false → IsQuestionFault fault)
  -- `Failed` is returned only of a database that failed, or whose index is spent
  pub works : IsErrOf result RunFault.Failed
      → (old.failed ≡ true) ⊎ (words.is_spent old.index ≡ true)
  -- the book, and all else that is known, stay as they were
  pub leaves : LeavesBook words old new
  -- no page has another payload than before
  pub payloads : IsTrue old.index.cache.store.is_faithful → (page : ℕ)
      → payload_of new.index.cache page ≡ payload_of old.index.cache page
  -- a check that passes leaves no changed page unwritten
  pub written : OnOk result (IsClean new.index.cache)
  -- a database that has begun keeps page 0 marked; before that no page as written changes, except
  -- page 0 if the store fails
  pub pages : KeepsPages words old new
  -- `Store` is returned only if the store failed, and `StoreFull` never
  pub store : IfErr result (IsAsked words old.index new.index)
  -- a failed database returns `Failed`, and nothing changes
  pub was_failed : old.failed ≡ true → (result ≡ Err RunFault.Failed) × (new ≡ old)
