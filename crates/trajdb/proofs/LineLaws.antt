-- What lines do and leave, by what each command promises; over a sound database it is what the book says.
use Rattle.std.proofs.Common.{ℕ, ◌+◌, ◌-◌, ◌≡◌, ◌≢◌, ◌∙◌, ◌++◌, ◌∷◌, ◌<◌, [], ap, sym, subst, refl, List, length, take, drop, Option, Some, None, Result, Ok, Err, Bool, true, false, arith, get_or, inl, inr, IfErr, IfOk}
use Rattle.std.specs.Prelude.{◌⊎◌, ◌↔◌, IsTrue, is_some}
use Rattle.std.specs.Global.{Vec}
use Rattle.std.specs.Io.KnownBytes.{Keeps}
use Rattle.std.proofs.KnownBytes.{Appends-kept}
use Rattle.legs.specs.Limits.{LimitsView}
use Rattle.legs.specs.Book.{Book}
use Rattle.legs.specs.Costs.{ShapeView}
use Rattle.legs.specs.declared.listed.Listed.{Ghosts}
use Rattle.querylang.specs.Line.{line_command}
use Rattle.querylang.specs.declared.Command.{Command}
use Rattle.querylang.specs.declared.Command.TheVariants.{Load, Count, Features}
use Rattle.querylang.specs.declared.LineCode.{LineCode}
use Rattle.trajdb.specs.Answers.{AcceptsLine, AcceptsSaid, IsAnswer, IsLineText, IsSaid, line_book, said_book}
use Rattle.trajdb.specs.Calls.{AsksFor, Begins, BeginsOnly, HasLoad, IsLater, IsRunStop, IsStopped, KeepsPages, LeavesBook, Loads, LoadsBy, LoadsIn, RisesWithin, Speaks, command_cost, lines_cost, said_cost}
use Rattle.trajdb.specs.Database.{Becomes, CoreView, IsSound}
use Rattle.trajdb.specs.Faults.{IsNotOutput}
use Rattle.trajdb.specs.Script.{file_named, lines_of}
use Rattle.outputs.specs.Output.{HasRefused, IsFlushed, OutputView}
use Rattle.trajdb.specs.Promises.{CommandCall, DoesLine, DoesSaid, RunCall, StopsLine, StopsSaid}
use Rattle.trajdb.specs.Run.{AcceptsSome, AnswersLine, BeginsIn, CutsBy, DoesAll, FailsAt, IsCut, Runs, RunsBy, Stops}
use Rattle.trajdb.specs.declared.RunFault.{RunFault}
use Rattle.trajdb.specs.declared.RunFault.TheVariants.{Memory, Store, Damaged, StoreFull, Failed, Output}
use Rattle.trajdb.proofs.FaultLemmas.{later-refl, later-trans, leaves-refl}
use Rattle.trajdb.proofs.LineLemmas.{load_first, load_later}
use Rattle.trajdb.proofs.PageLemmas.{clash, keeps-refl, keeps-trans}
use Rattle.trajdb.proofs.RunLemmas.{Named, accepts_last, accepts_of_take, more_lines, nth_line}
use Rattle.trajdb.proofs.StepLemmas.{IsTracedAt, cut_all}

-- a command loads a file that is there, or does not
is_there : {T : Type 0} (o : Option T) → IsTrue (is_some o) ⊎ (IsTrue (is_some o) → ⊥)
is_there None = inr (λ t. cc)
is_there (Some x) = inl refl

loads_or : (files : Named) (command : Command) → Loads files command ⊎ (Loads files command → ⊥)
loads_or files (Load name) = is_there (file_named files name)
loads_or files _ = inr (λ l. l)

-- a command that is no `load` loads no file, and asks for no more than it costs
not_loads : (files : Named) (command : Command) → ((name : List ℕ) → command ≡ Load name → ⊥) → Loads files command → ⊥
not_loads files (Load name) none l = none name refl
not_loads files _ none l = l

costs : (book : Book) (plan : Option ShapeView) (command : Command) (old new : ℕ) → AsksFor book plan command old new → ((name : List ℕ) → command ≡ Load name → ⊥) → RisesWithin old new (command_cost book plan command)
costs book plan (Load name) old new h none = absurd (none name refl)
costs book plan Count old new h none = λ small. omega (arith, h)
costs book plan (Features predicate rect period) old new h none = λ small. h
costs book plan _ old new h none = λ small. let e = h small in omega (arith, e)

-- a fault that is caused is not the output's
pub of_store : {I : Type 0} (g : Ghosts I) (old new : CoreView I) (fault : RunFault) → IsStopped g old new fault → IsNotOutput fault
of_store g old new Output h = h.store
of_store g old new _ h = tt

-- a fault inside is not the output's
inside_not : (fault : RunFault) → IsNotOutput fault → fault ≡ Output → ⊥
inside_not fault inside is = subst IsNotOutput is inside

module _ {I : Type 0} (g : Ghosts I) (files : Named) where
  -- what a line that was answered leaves
  record LeftBy (old new : CoreView I) (said : Result (Option Command) LineCode) (text : List ℕ) : Type 0 where
    later : IsLater g old new
    lives : old.failed ≡ false → new.failed ≡ false
    pages : KeepsPages g old new
    answers : IsSound g old → IsSaid old.limits files old.book said text
    becomes : Becomes g old new (said_book old.limits files old.book said)
    begins : Begins g old new (AcceptsSaid old.limits files old.book said)
    question : ((name : List ℕ) → said ≡ Ok (Some (Load name)) → ⊥) → LeavesBook g old new
    asks : IsSound g old → ((name : List ℕ) → said ≡ Ok (Some (Load name)) → ⊥) → RisesWithin (g.asked old.index) (g.asked new.index) (said_cost old.book (g.plan old.index) said)

  -- one that is no command leaves all as it is
  left_none : (old : CoreView I) (text : List ℕ) → (said : Result (Option Command) LineCode) → (IsSound g old → IsSaid old.limits files old.book said text) → said_book old.limits files old.book said ≡ old.book
      → (AcceptsSaid old.limits files old.book said → ⊥) → LeftBy old old said text
  left_none old text said answers same none = record {
    later = later-refl g old;
    lives = λ l. l;
    pages = keeps-refl g old;
    answers = answers;
    becomes = λ s. (s, sym same);
    begins = λ s. (λ b. inl b, λ h. elim h [ inl b ↦ b | inr a ↦ absurd (none a) ]);
    question = λ n. leaves-refl g old;
    asks = λ s n small. omega arith;
  }

  left_said : (old new : CoreView I) (said : Result (Option Command) LineCode) (text : List ℕ) → DoesSaid g files old new said text → LeftBy old new said text
  left_said old new (Ok (Some command)) text (answer, e, call) = record {
    later = call.later;
    lives = λ l. call.lives;
    pages = call.pages;
    answers = λ s. subst (λ (t : List ℕ). IsAnswer old.limits files old.book command t) e (call.text s);
    becomes = call.becomes;
    begins = call.begins;
    question = λ n. call.question (not_loads files command (λ name e. n name (ap (λ c. Ok (Some c)) e)));
    asks = λ s n. costs old.book (g.plan old.index) command (g.asked old.index) (g.asked new.index) (call.asks s) (λ name e. n name (ap (λ c. Ok (Some c)) e));
  }
  left_said old new (Ok None) text (e, same) = subst (λ (c : CoreView I). LeftBy old c (Ok None) text) (sym same) (left_none old text (Ok None) (λ s. e) refl (λ a. a))
  left_said old new (Err code) text (e, same) = subst (λ (c : CoreView I). LeftBy old c (Err code) text) (sym same) (left_none old text (Err code) (λ s. e) refl (λ a. a))

  left_by : (old new : CoreView I) (line text : List ℕ) → DoesLine g files old new line text → LeftBy old new (line_command line) text
  unfolding DoesLine
  left_by old new line text h = left_said old new (line_command line) text h

  -- why a line was not answered, and what that leaves
  pub record StoppedBy (old new : CoreView I) (said : Result (Option Command) LineCode) (fault : RunFault) : Type 0 where
    pub speaks : said ≡ Ok None → ⊥
    pub later : IsLater g old new
    pub pages : KeepsPages g old new
    pub kept : new.failed ≡ false → LeavesBook g old new
    pub loads : old.failed ≡ false → new.failed ≡ true → LoadsIn files said
    pub fails : LoadsIn files said → fault ≢ Memory → new.failed ≡ true
    pub full : fault ≡ StoreFull → new.failed ≡ true
    pub stopped : IsStopped g old new fault
    pub only : BeginsOnly g old new (AcceptsSaid old.limits files old.book said)

  stopped_memory : (old : CoreView I) (said : Result (Option Command) LineCode) → (said ≡ Ok None → ⊥) → StoppedBy old old said Memory
  stopped_memory old said speaks = record {
    speaks = speaks;
    later = later-refl g old;
    pages = keeps-refl g old;
    kept = λ l. leaves-refl g old;
    loads = λ l f. absurd (clash old.failed f l);
    fails = λ l other. absurd (other refl);
    full = λ e. cc;
    stopped = record { sound = λ s l. tt; store = tt };
    only = λ s b. inl b;
  }

  at_memory : (old new : CoreView I) (said : Result (Option Command) LineCode) (fault : RunFault) → (said ≡ Ok None → ⊥) → fault ≡ Memory → new ≡ old → StoppedBy old new said fault
  at_memory old new said fault speaks e same =
      subst (λ (c : CoreView I). StoppedBy old c said fault) (sym same) (subst (λ (f : RunFault). StoppedBy old old said f) (sym e) (stopped_memory old said speaks))

  stopped_said : (old new : CoreView I) (said : Result (Option Command) LineCode) (fault : RunFault) → StopsSaid g files old new said fault → StoppedBy old new said fault
  stopped_said old new (Ok (Some command)) fault (inl call) = record {
    speaks = λ e. cc;
    later = call.later;
    pages = call.pages;
    kept = call.refused;
    loads = λ l f. elim (loads_or files command) [ inl there ↦ there | inr none ↦ absurd (clash new.failed f ((call.question none).failed ∙ l)) ];
    fails = λ l other. call.failed l;
    full = λ e. call.failed (call.full (ap Err e));
    stopped = call.stopped;
    only = call.only;
  }
  stopped_said old new (Ok (Some command)) fault (inr (e, same)) = at_memory old new (Ok (Some command)) fault (λ x. cc) e same
  stopped_said old new (Ok None) fault h = absurd h
  stopped_said old new (Err code) fault (e, same) = at_memory old new (Err code) fault (λ x. cc) e same

  pub stopped_by : (old new : CoreView I) (line : List ℕ) (fault : RunFault) → StopsLine g files old new line fault → StoppedBy old new (line_command line) fault
  unfolding StopsLine
  stopped_by old new line fault h = stopped_said old new (line_command line) fault h

  -- what lines make of a sound database, over its book
  pub record SoundRun (limits : LimitsView) (book : Book) (begun : Bool) (new : CoreView I) (lines : List (List ℕ)) (text : List ℕ) : Type 0 where
    pub sound : IsSound g new
    pub answers : DoesAll (AnswersLine limits files) book new.book lines text
    pub begins : (new.begun ≡ true) ↔ ((begun ≡ true) ⊎ AcceptsSome limits files book lines)

  sound_first : (limits : LimitsView) (old mid new : CoreView I) (line : List ℕ) (lines : List (List ℕ)) (first others text : List ℕ) → old.limits ≡ limits → LeftBy old mid (line_command line) first → IsSound g old
      → text ≡ first ++ others → SoundRun limits mid.book mid.begun new lines others → SoundRun limits old.book old.begun new (line ∷ lines) text
  unfolding IsLineText line_book AcceptsLine
  sound_first limits old mid new line lines first others text same left s e more =
      let becomes = subst (λ (l : LimitsView). mid.book ≡ said_book l files old.book (line_command line)) same (left.becomes s).1 in
      let says = subst (λ (l : LimitsView). IsSaid l files old.book (line_command line) first) same (left.answers s) in
      let begins = subst (λ (l : LimitsView). (mid.begun ≡ true) ↔ ((old.begun ≡ true) ⊎ AcceptsSaid l files old.book (line_command line))) same (left.begins s) in
      let rest = subst (λ (b : Book). (new.begun ≡ true) ↔ ((mid.begun ≡ true) ⊎ AcceptsSome limits files b lines)) becomes more.begins in
      record {
        sound = more.sound;
        answers = (mid.book, first, others, e, (says, becomes), more.answers);
        begins = (
          λ t. elim (rest.0 t) [ inl m ↦ elim (begins.0 m) [ inl o ↦ inl o | inr a ↦ inr (inl a) ] | inr r ↦ inr (inr r) ],
          λ h. elim h [
            | inl o ↦ rest.1 (inl (begins.1 (inl o)))
            | inr r ↦ elim r [ inl a ↦ rest.1 (inl (begins.1 (inr a))) | inr b ↦ rest.1 (inr b) ]
          ],
        );
      }

  -- what lines leave, be the database sound or not
  pub record Left (old new : CoreView I) (lines : List (List ℕ)) (text : List ℕ) : Type 0 where
    pub later : IsLater g old new
    pub lives : old.failed ≡ false → new.failed ≡ false
    pub pages : old.failed ≡ false → KeepsPages g old new
    pub asks : IsSound g old → (HasLoad lines → ⊥) → RisesWithin (g.asked old.index) (g.asked new.index) (lines_cost old.book (g.plan old.index) lines)
    pub sound : (limits : LimitsView) → old.limits ≡ limits → IsSound g old → SoundRun limits old.book old.begun new lines text

  asks_first : (old mid new : CoreView I) (line : List ℕ) (lines : List (List ℕ)) (first others : List ℕ) → LeftBy old mid (line_command line) first → Left mid new lines others → IsSound g old → (HasLoad (line ∷ lines) → ⊥)
      → RisesWithin (g.asked old.index) (g.asked new.index) (lines_cost old.book (g.plan old.index) (line ∷ lines))
  asks_first old mid new line lines first others left more s none =
      let no_load = λ (name : List ℕ) (is : line_command line ≡ Ok (Some (Load name))). none (load_first line lines (name, is)) in
      let leaves = left.question no_load in
      let same : lines_cost mid.book (g.plan mid.index) lines ≡ lines_cost old.book (g.plan old.index) lines = λ i. lines_cost (leaves.book i) (leaves.index.later.plan i) lines in
      let grows = more.later.index.asked in
      λ small. let one = left.asks s no_load (omega (arith, small, grows)) in let two = more.asks (leaves.sound s) (λ h. none (load_later line lines h)) small in omega (arith, one, two, same)

  pub left_all : (old new : CoreView I) (lines : List (List ℕ)) (text : List ℕ) → DoesAll (DoesLine g files) old new lines text → Left old new lines text
  left_all old new [] text (same, e) = subst (λ (c : CoreView I). Left old c [] text) (sym same) (record {
    later = later-refl g old;
    lives = λ l. l;
    pages = λ l. keeps-refl g old;
    asks = λ s none small. omega arith;
    sound = λ limits is s. record { sound = s; answers = (refl, e); begins = (λ b. inl b, λ h. elim h [ inl b ↦ b | inr a ↦ absurd a ]) };
  })
  left_all old new (x ∷ xs) text (mid, first, others, e, does, rest) =
      let left = left_by old mid x first does in
      let more = left_all mid new xs others rest in
      record {
        later = later-trans g old mid new left.later more.later;
        lives = λ l. more.lives (left.lives l);
        pages = λ l. keeps-trans g old mid new (left.lives l) left.later.index.faithful left.pages (more.pages (left.lives l));
        asks = asks_first old mid new x xs first others left more;
        sound = λ limits is s. sound_first limits old mid new x xs first others text is left s e (more.sound limits (left.later.limits ∙ is) (left.becomes s).0);
      }

  -- the law: what is done over a sound database is what the book says
  pub runs_of : (sent sent' : Option (List ℕ)) (old new : CoreView I) (lines : List (List ℕ)) → RunsBy (DoesLine g files) sent sent' old new lines → IsSound g old → Runs files sent sent' old new lines
  runs_of sent sent' old new lines run s = record { text = run.text; does = ((left_all old new lines run.text run.does).sound old.limits refl s).answers; sends = run.sends }

  -- the call of a run that was brought to its end, or whose output failed
  module _ {O : Type 0} (shown : O → OutputView) (out out' : O) (old new : CoreView I) (lines : List (List ℕ)) (alive : old.failed ≡ false) where
    pub run_done : RunsBy (DoesLine g files) (shown out).contents (shown out').contents old new lines → IsFlushed (shown out) (shown out') → RunCall g shown files out out' old new lines (Ok tt)
    run_done run flushed =
        let left = left_all old new lines run.text run.does in
        record {
          kept = λ _ s. (left.sound old.limits refl s).sound;
          lives = left.lives alive;
          says = run;
          asks = left.asks;
          says_cut = λ is. absurd cc;
          output = λ is. absurd cc;
          cut_lives = λ is. absurd cc;
          output_caused = λ is. absurd cc;
          flushed = flushed;
          flushed_before = tt;
          refused = tt;
          stops = tt;
          full = λ is. absurd cc;
          stopped = tt;
          later = left.later;
          begins = λ s. (left.sound old.limits refl s).begins;
          only = λ s. (left.sound old.limits refl s).begins.0;
          pages = left.pages alive;
          was_failed = λ f. absurd (clash old.failed f alive);
        }

    module _ (cut : CutsBy (DoesLine g files) (shown out).contents (shown out').contents old new lines) where
      cut_left : Left old new (take cut.k lines) (cut.before ++ cut.text)
      cut_left = left_all old new (take cut.k lines) (cut.before ++ cut.text) (cut_all (DoesLine g files) (shown out).contents (shown out').contents old new lines cut)

      cut_of : IsSound g old → IsCut files (shown out).contents (shown out').contents old new lines
      cut_of s =
          let front = left_all old cut.mid (take (cut.k - 1) lines) cut.before cut.earlier in
          let before = front.sound old.limits refl s in
          let last = (left_all cut.mid new (drop (cut.k - 1) (take cut.k lines)) cut.text cut.last).sound old.limits front.later.limits before.sound in (
            record {
              k = cut.k;
              mid = cut.mid.book;
              before = cut.before;
              earlier = before.answers;
              text = cut.text;
              last = last.answers;
              written = cut.written;
              sends = cut.sends;
              whole = cut.whole;
              prefix = cut.prefix;
            },
            (cut_left.sound old.limits refl s).begins.0,
          )

      pub run_cut : HasRefused (shown out) (shown out') → RunCall g shown files out out' old new lines (Err Output)
      run_cut refused = record {
        kept = λ _ s. (cut_left.sound old.limits refl s).sound;
        lives = tt;
        says = tt;
        asks = tt;
        says_cut = λ is. cut;
        output = λ is s. cut_of s;
        cut_lives = λ is. cut_left.lives alive;
        output_caused = λ is. refused;
        flushed = tt;
        flushed_before = λ inside. absurd inside;
        refused = λ inside. absurd inside;
        stops = λ inside. absurd inside;
        full = λ is. absurd cc;
        stopped = tt;
        later = cut_left.later;
        begins = tt;
        only = λ s begun. elim ((cut_left.sound old.limits refl s).begins.0 begun) [ inl o ↦ inl o | inr h ↦ inr (accepts_of_take old.limits files old.book cut.k lines h) ];
        pages = cut_left.pages alive;
        was_failed = λ f. absurd (clash old.failed f alive);
      }

  -- a line was not answered, and those before it were
  module _ {O : Type 0} (shown : O → OutputView) (out between out' : O) (old mid new : CoreView I) (lines : List (List ℕ)) (rest others line : List ℕ) (k : ℕ)
      (at : IsTracedAt (DoesLine g files) (shown out).contents (shown between).contents old mid lines rest k) (e : lines_of rest ≡ line ∷ lines_of others) (fault : RunFault) (stops : StopsLine g files mid new line fault) (alive : old.failed ≡ false) where
    by_line : StoppedBy mid new (line_command line) fault
    by_line = stopped_by mid new line fault stops

    before : Left old mid (take k lines) at.text
    before = left_all old mid (take k lines) at.text at.does

    sound_mid : IsSound g old → SoundRun old.limits old.book old.begun mid (take k lines) at.text
    sound_mid s = before.sound old.limits refl s

    nth : (k < length lines) × (get_or lines k [] ≡ line)
    nth = nth_line lines k line (lines_of others) (at.left ∙ e)

    fails_at : FailsAt files new.failed fault line
    unfolding LoadsBy Speaks
    fails_at = record { speaks = by_line.speaks; loads = by_line.loads (before.lives alive); fails = by_line.fails }

    fails_there : FailsAt files new.failed fault (get_or lines k [])
    fails_there = subst (λ (l : List ℕ). FailsAt files new.failed fault l) (sym nth.1) fails_at

    -- why the run stopped
    run_stop : (f : RunFault) → IsStopped g mid new f → IsRunStop g old new f
    run_stop Store h = let f = before.later.index.faults in let r = h.store in omega (arith, f, r)
    run_stop (Damaged page) h = λ s l. h.sound (sound_mid s).sound (before.lives alive)
    run_stop StoreFull h = h.store
    run_stop Failed h = λ s l. h.sound (sound_mid s).sound (before.lives alive)
    run_stop _ h = tt

    -- the line may have begun it
    begun_by : IsSound g old → BeginsIn files old new (take (k + 1) lines)
    unfolding AcceptsLine
    begun_by s = λ begun.
        let sound = sound_mid s in
        let next = (more_lines lines k line (lines_of others) (at.left ∙ e)).0 in
        let accepts : AcceptsSome old.limits files old.book (take k lines) ⊎ AcceptsLine old.limits files mid.book line → AcceptsSome old.limits files old.book (take (k + 1) lines) =
        λ h. subst (λ (l : List (List ℕ)). AcceptsSome old.limits files old.book l) (sym next) (accepts_last old.limits files old.book mid.book (take k lines) line at.text sound.answers h) in
        elim (by_line.only sound.sound begun) [
          | inl was ↦ elim (sound.begins.0 was) [ inl o ↦ inl o | inr h ↦ inr (accepts (inl h)) ]
          | inr h ↦ inr (accepts (inr (subst (λ (l : LimitsView). AcceptsLine l files mid.book line) before.later.limits h)))
        ]

    stop_of : Keeps (shown between).contents (shown out').contents → IsSound g old → Stops files (shown out).contents (shown out').contents old new lines
    stop_of keeps s = (
      k,
      record {
        within = nth.0;
        speaks = fails_there.speaks;
        before = mid.book;
        run = record { text = at.text; does = (sound_mid s).answers; sends = Appends-kept (shown out).contents (shown between).contents (shown out').contents at.text at.sends keeps };
        book = λ lives. (by_line.kept lives).book;
        loads = fails_there.loads;
      },
      begun_by s,
      λ lives begun. (sound_mid s).begins.0 (sym (by_line.kept lives).begun ∙ begun),
    )

    -- the call of a run that stopped there
    pub run_stopped : Keeps (shown between).contents (shown out').contents → IsTrue (shown out').is_flushed ⊎ HasRefused (shown out) (shown out') → RunCall g shown files out out' old new lines (Err fault)
    run_stopped keeps flushes =
        let inside = of_store g mid new fault by_line.stopped in
        record {
          kept = λ lives s. (by_line.kept lives).sound (sound_mid s).sound;
          lives = tt;
          says = tt;
          asks = tt;
          says_cut = λ is. absurd (inside_not fault inside cc);
          output = λ is. absurd (inside_not fault inside cc);
          cut_lives = λ is. absurd (inside_not fault inside cc);
          output_caused = λ is. absurd (inside_not fault inside cc);
          flushed = tt;
          flushed_before = λ _ l. flushes;
          refused = λ _ l s. stop_of keeps s;
          stops = λ _ l. (k, nth.0, fails_there);
          full = λ is. by_line.full cc;
          stopped = run_stop fault by_line.stopped;
          later = later-trans g old mid new before.later by_line.later;
          begins = tt;
          only = λ s begun. elim (begun_by s begun) [ inl o ↦ inl o | inr h ↦ inr (accepts_of_take old.limits files old.book (k + 1) lines h) ];
          pages = keeps-trans g old mid new (before.lives alive) before.later.index.faithful (before.pages alive) by_line.pages;
          was_failed = λ f. absurd (clash old.failed f alive);
        }

  -- a command that is called for a line
  pub command_does : (old new : CoreView I) (line : List ℕ) (command : Command) (result : Result (Vec ℕ) RunFault) → line_command line ≡ Ok (Some command) → CommandCall g files old new command result
      → IfOk result (λ text. DoesLine g files old new line text.items)
  unfolding DoesLine
  command_does old new line command (Ok answer) e call = subst (λ (said : Result (Option Command) LineCode). DoesSaid g files old new said answer.items) (sym e) (answer, refl, call)
  command_does old new line command (Err fault) e call = tt

  pub command_stops : (old new : CoreView I) (line : List ℕ) (command : Command) (result : Result (Vec ℕ) RunFault) → line_command line ≡ Ok (Some command) → CommandCall g files old new command result
      → IfErr result (StopsLine g files old new line)
  unfolding StopsLine
  command_stops old new line command (Ok answer) e call = tt
  command_stops old new line command (Err fault) e call = subst (λ (said : Result (Option Command) LineCode). StopsSaid g files old new said fault) (sym e) (inl call)
