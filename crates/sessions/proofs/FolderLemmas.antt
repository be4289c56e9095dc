-- What a run on a copy makes of a store's name.
use Rattle.std.proofs.Common.{ap, ℕ, ◌≡◌, ◌⊎◌, ◌∙◌, refl, sym, subst, inl, inr, [], ◌∷◌, true, false, Bool, IsTrue, List, Option, Some, None, Result, Ok, Err}
use Rattle.std.proofs.KnownBytes.{Appends-nil}
use Rattle.std.specs.Io.KnownBytes.{Appends}
use Rattle.std.specs.Prelude.{length, IfErr, IfOk, IfSome, OnOk}
use Rattle.legs.specs.Book.{Book, empty_book}
use Rattle.legs.specs.Costs.{ShapeView}
use Rattle.legs.specs.Limits.{LimitsView}
use Rattle.outputs.specs.Output.{OutputView}
use Rattle.pages.specs.Sealed.{sealed}
use Rattle.pages.specs.Store.{Store, IsSynced, Keeps, Writes}
use Rattle.catalogue.specs.Beginning.{IsLeft}
use Rattle.header.specs.Fields.{header_payload}
use Rattle.pages.specs.declared.unsynced.Unsynced.TheVariants.{Others}
use Rattle.catalogue.specs.Holding.{HoldsBook}
use Rattle.register.specs.Saving.{IsSavingStop}
use Rattle.trajdb.specs.Database.{fresh}
use Rattle.trajdb.specs.Db.{capacity_of, shape_of, store_of, DbView, HasPages, IsCaused}
use Rattle.trajdb.specs.Lasting.{HasBook, IsIdle}
use Rattle.trajdb.proofs.SafeLemmas.{apart}
use Rattle.trajdb.specs.Calls.{IsLoadFault}
use Rattle.register.specs.declared.fault.CatalogueFault.{CatalogueFault}
use Rattle.trajdb.specs.declared.RunFault.{RunFault}
use Rattle.trajdb.specs.declared.RunFault.TheVariants as run
use Rattle.sessions.specs.Answers.{said, ClosesAfter, Ends, FailsToLoad, RunsOver, SendsLines, new_shape}
use Rattle.sessions.specs.declared.fault.Fault.{Fault}
use Rattle.sessions.specs.declared.fault.Fault.TheVariants.{Open, Run}
use Rattle.sessions.specs.Folder.{store_in, BeginsWith, History, HoldsNow, IsDropped, IsRefusedBeside, LeavesCopy, Makes, NameIsKept, OfEachBook, OpensOrMakes, RunsBeside}
use Rattle.sessions.proofs.AnswerLemmas.{more_known}

-- what a folder tells of a store's name is faithful
pub tells : (past : History) → IsTrue (store_in past).is_faithful
tells [] = refl
tells (now ∷ past) = refl

-- how often a store failed, and what of it is synced, is no part of the book that it holds
pub faults_apart : (s : Store) (shape : ShapeView) (limits : LimitsView) (book : Book) → HoldsBook s shape limits book → HoldsBook (record s { faults = 0; unsynced = Others; has_lost = false }) shape limits book
faults_apart s shape limits book h = apart s s.most 0 Others false shape limits book h

-- what a name stands for that was given to a store that holds a book, or that was left to what has its pages
pub held_now : (s : Store) (shape : ShapeView) (limits : LimitsView) (book : Book) (was is : Option History) → HoldsBook s shape limits book → NameIsKept s was is → HoldsNow shape limits book is
held_now s shape limits book (Some old) (Some new) h (inl n) =
    subst (λ k. HoldsBook (store_in k) shape limits book) (sym n.next) (subst (λ k. HoldsBook k shape limits book) n.are (faults_apart s shape limits book h))
held_now s shape limits book (Some old) None h (inl n) = tt
held_now s shape limits book None (Some new) h (inl n) = absurd n
held_now s shape limits book None None h (inl n) = tt
held_now s shape limits book (Some old) is h (inr n) =
    subst (HoldsNow shape limits book) (sym n.0) (subst (λ k. HoldsBook k shape limits book) n.1 (faults_apart s shape limits book h))
held_now s shape limits book None is h (inr n) = subst (HoldsNow shape limits book) (sym n.0) tt

-- the database that is opened over a copy has the book that the run begins with
pub begun_with : {E : Type 0} (opened : Result DbView E) (first past : Store) → first ≡ past → (is_new : Bool) (given : LimitsView) (shape : ShapeView) (limits : LimitsView) (book : Book) → IsTrue first.is_faithful
    → IfOk opened (λ db. IsTrue is_new → IsTrue first.is_faithful → first.count ≡ 0 → HasBook new_shape given empty_book db)
    → IfOk opened (λ db. IsTrue first.is_faithful → (shape : ShapeView) (limits : LimitsView) (book : Book) → HoldsBook first shape limits book → HasBook shape limits book db)
    → BeginsWith is_new given past shape limits book → IfOk opened (HasBook shape limits book)
begun_with (Err e) first past same is_new given shape limits book faithful new kept begins = tt
begun_with (Ok db) first past same is_new given shape limits book faithful new kept (inl h) =
    kept faithful shape limits book (subst (λ s. HoldsBook s shape limits book) (sym same) h)
begun_with (Ok db) first past same is_new given shape limits book faithful new kept (inr (n, z, s, l, b)) =
    subst (λ t. HasBook t limits book db) (sym s)
    (subst (λ m. HasBook new_shape m book db) (sym l)
    (subst (λ k. HasBook new_shape given k db) (sym b) (new n faithful (subst (λ (k : Store). k.count ≡ 0) (sym same) z))))

-- nothing was sent
pub unsent_lines : (limits : LimitsView) (book : Book) (files : List (List ℕ × List ℕ)) (sent sent' : Option (List ℕ)) (lines : List (List ℕ)) (ran : Result (Unit {0}) Fault) (fault : Fault) → ran ≡ Err fault → sent' ≡ sent
    → SendsLines (Run run.Output) limits book files sent sent' lines ran
unsent_lines limits book files sent sent' lines ran fault is same = record {
  part = record { front = []; sends = subst (λ k. Appends sent k []) (sym same) (Appends-nil sent); done = 0; text = []; after = book; answers = (refl, refl); is_front = ([], refl) };
  whole = subst (λ r. OnOk r (0 ≡ length lines)) (sym is) tt;
  all = λ n. refl;
  cut = λ o. ([], book, (refl, refl), ([], refl));
}

-- a database is made, or it is not, of a store without pages
pub made_or_not : {S : Type 0} (seen : S → Store) (limits : LimitsView) (pages : ℕ) (r : Result DbView (S × CatalogueFault)) (s : Store)
    → IfOk r (λ db. IsTrue s.is_faithful → HasBook new_shape limits empty_book db) → IfOk r (λ db. db ≡ fresh limits db.index true) → IfOk r (λ db. shape_of db ≡ new_shape) → IfOk r (λ db. IsTrue s.is_faithful → HasPages db)
    → IfOk r (λ db. capacity_of db ≡ pages) → IfOk r (λ db. Writes 0 (sealed 0 (header_payload new_shape limits)) s (store_of db)) → IfOk r (λ db. IsSynced (store_of db))
    → IfErr r (λ back. IsTrue s.is_faithful → IsSavingStop back.1) → IfErr r (λ back. IsCaused s (seen back.0) back.1) → IfErr r (λ back. Keeps s (seen back.0)) → IfErr r (λ back. IsLeft new_shape limits s (seen back.0))
    → Makes seen s limits pages r
made_or_not seen given most (Ok db) s new is shape pages capacity writes synced made caused keeps left = (λ f. (new f, pages f), is, shape, capacity, writes, synced)
made_or_not seen given most (Err back) s new is shape pages capacity writes synced made caused keeps left = (made, caused, keeps, left)

-- one that is made has the empty book
pub made_empty : {S : Type 0} (seen : S → Store) (is_new : Bool) (limits : LimitsView) (pages : ℕ) (r : Result DbView (S × CatalogueFault)) (s : Store) → OpensOrMakes seen s is_new limits pages r
    → IfOk r (λ db. IsTrue is_new → IsTrue s.is_faithful → s.count ≡ 0 → HasBook new_shape limits empty_book db)
made_empty seen is_new limits pages (Ok db) s o = λ n f z. ((o.makes n z).0 f).0
made_empty seen is_new limits pages (Err back) s o = tt

-- what is said where a run and its closing are answered is said of that
whole_said : (P : Type 0) (ran closed : Result (Unit {0}) RunFault) → OnOk ran P → OnOk (said ran closed) P
whole_said P (Ok x) (Ok y) h = h
whole_said P (Ok x) (Err f) h = tt
whole_said P (Err f) closed h = tt

-- what a run over a database and its closing leave, in the words of one on a copy
module _ (files : List (List ℕ × List ℕ)) (sent sent' : Option (List ℕ)) (lines : List (List ℕ)) (s : Store) (db : DbView) where
  output_first : (ran closed : Result (Unit {0}) RunFault) → Ends db files sent sent' lines ran closed s → said ran closed ≡ Err (Run run.Output) → ran ≡ Err run.Output
  output_first (Ok x) (Ok y) e is = absurd (cc is)
  output_first (Ok x) (Err f) e is = by_left e.left where
    by_left : ClosesAfter db files lines e.sends.part.done e.sends.part.after (Err f) s ⊎ FailsToLoad db files lines e.sends.part.done (Ok x) (Err f) s → Ok x ≡ Err run.Output
    by_left (inl h) = let o : f ≡ run.Output = cc is in absurd (subst IsLoadFault o h.0.0)
    by_left (inr h) = let w = h.ran_is in absurd (cc w)
  output_first (Err f) closed e is = cc is

  sends_said : (ran closed : Result (Unit {0}) RunFault) → Ends db files sent sent' lines ran closed s → SendsLines (Run run.Output) db.limits db.book files sent sent' lines (said ran closed)
  sends_said ran closed e = record {
    part = e.sends.part;
    whole = whole_said (e.sends.part.done ≡ length lines) ran closed e.sends.whole;
    all = λ n. e.sends.all (λ o. n (ap (λ r. said r closed) o));
    cut = λ o. e.sends.cut (output_first ran closed e o);
  }

  kept_end : (ran closed : Result (Unit {0}) RunFault) (e : Ends db files sent sent' lines ran closed s) → OnOk (said (Ok tt) closed) (HoldsBook s (shape_of db) db.limits e.sends.part.after)
  kept_end ran (Err f) e = tt
  kept_end ran (Ok y) e = by_left e.left where
    by_left : ClosesAfter db files lines e.sends.part.done e.sends.part.after (Ok y) s ⊎ FailsToLoad db files lines e.sends.part.done ran (Ok y) s → HoldsBook s (shape_of db) db.limits e.sends.part.after
    by_left (inl h) = h.0
    by_left (inr h) = let w = h.closed_is in absurd (cc w)

  dropped_end : (ran closed : Result (Unit {0}) RunFault) → Ends db files sent sent' lines ran closed s → IfErr (said (Ok tt) closed) (IsDropped files sent sent' lines (said ran closed))
  dropped_end ran (Ok y) e = tt
  dropped_end ran (Err f) e = by_left e.left where
    by_left : ClosesAfter db files lines e.sends.part.done e.sends.part.after (Err f) s ⊎ FailsToLoad db files lines e.sends.part.done ran (Err f) s → IsDropped files sent sent' lines (said ran (Err f)) (Run f)
    by_left (inl h) = inr (inr (f, refl, h.0.0))
    by_left (inr h) = let w = h.closed_is in inr (inl (cc w, e.sends.part.done, h.at))

  refused_end : (ran closed : Result (Unit {0}) RunFault) → Ends db files sent sent' lines ran closed s → IfErr (said ran closed) (IsRefusedBeside sent sent')
  refused_end (Ok x) (Ok y) e = tt
  refused_end (Ok x) (Err f) e = by_left e.left where
    by_left : ClosesAfter db files lines e.sends.part.done e.sends.part.after (Err f) s ⊎ FailsToLoad db files lines e.sends.part.done (Ok x) (Err f) s → IsRefusedBeside sent sent' (Run f)
    by_left (inl h) = inr (f, refl, λ n. h.0.0)
    by_left (inr h) = let w = h.ran_is in absurd (cc w)
  refused_end (Err f) closed e = inr (f, refl, λ n. (e.stopped n).0)

  pub leaves_end : (ran closed : Result (Unit {0}) RunFault) → Ends db files sent sent' lines ran closed s → LeavesCopy files sent sent' lines (said ran closed) (said (Ok tt) closed) s (shape_of db) db.limits db.book
  unfolding sends_said
  leaves_end ran closed e = record { sends = sends_said ran closed e; holds = kept_end ran closed e; dropped = dropped_end ran closed e; refused = refused_end ran closed e }

pub each_err : {T E : Type 0} (Q : E → Type 0) (r : Result T E) → ((e : E) → r ≡ Err e → Q e) → IfErr r Q
each_err Q (Ok x) f = tt
each_err Q (Err e) f = f e refl

-- a run over what was made of the store of a copy, which a folder tells: over the database that was opened with a book, or over none
module _ {S O : Type 0} (seen : S → Store) (shown : O → OutputView) (files : List (List ℕ × List ℕ)) (out out' : O) (lines : List (List ℕ)) (store : Store) (answered kept : Result (Unit {0}) Fault) where
  abbrev Leaves : ShapeView → LimitsView → Book → Type 0
  Leaves = LeavesCopy files (shown out).contents (shown out').contents lines answered kept store

  over_copy : (shape : ShapeView) (limits : LimitsView) (book : Book) (o : Result DbView (S × CatalogueFault)) → IfOk o HasPages → IfOk o IsIdle → IfOk o (λ db. db.failed ≡ false) → IfOk o (HasBook shape limits book) → RunsOver seen shown o files out out' lines answered kept store → Leaves shape limits book
  unfolding unsent_lines
  over_copy shape limits book (Err back) pages idle lives has h =
      let same = ap (λ (s : OutputView). s.contents) h.3 in
      record {
        sends = unsent_lines limits book files (shown out).contents (shown out').contents lines answered (Open back.1) h.0 same;
        holds = subst (λ r. OnOk r (HoldsBook store shape limits book)) (sym h.1) tt;
        dropped = each_err (IsDropped files (shown out).contents (shown out').contents lines answered) kept (λ fault is. inl (same, h.0 ∙ sym h.1 ∙ is));
        refused = each_err (IsRefusedBeside (shown out).contents (shown out').contents) answered (λ fault is. inl same);
      }
  over_copy shape limits book (Ok db) pages idle lives has h =
      let own = leaves_end files (shown out).contents (shown out').contents lines store db h.0 h.1 (h.4.ends has.sound pages idle lives) in
      subst (λ b. Leaves shape limits b) has.book_is
      (subst (λ l. Leaves shape l db.book) has.limits_are
      (subst (λ t. Leaves t db.limits db.book) has.shape_is
      (subst (λ a. LeavesCopy files (shown out).contents (shown out').contents lines a kept store (shape_of db) db.limits db.book) (sym h.2)
      (subst (λ k. LeavesCopy files (shown out).contents (shown out').contents lines (said h.0 h.1) k store (shape_of db) db.limits db.book) (sym h.3) own))))

  pub leaves_copy : (first : Store) (is_new : Bool) (given : LimitsView) (cache : ℕ) (o : Result DbView (S × CatalogueFault)) → OpensOrMakes seen first is_new given cache o
      → IfOk o (λ db. IsTrue first.is_faithful → (shape : ShapeView) (limits : LimitsView) (book : Book) → HoldsBook first shape limits book → HasBook shape limits book db)
      → IfOk o (λ db. IsTrue first.is_faithful → HasPages db) → IfOk o (λ db. IsTrue first.is_faithful → IsIdle db) → IfOk o (λ db. db.failed ≡ false) → RunsOver seen shown o files out out' lines answered kept store
      → (held : Option History) → IfSome held (λ past. first ≡ store_in past) → OfEachBook held is_new given Leaves
  leaves_copy first is_new given cache o opens kept_book pages idle lives runs None same = tt
  leaves_copy first is_new given cache o opens kept_book pages idle lives runs (Some past) same = λ shape limits book h.
      let faithful = subst (λ (s : Store). IsTrue s.is_faithful) (sym same) (tells past) in
      over_copy shape limits book o (more_known (λ (db : DbView). IsTrue first.is_faithful → HasPages db) HasPages o (λ db k. k faithful) pages)
      (more_known (λ (db : DbView). IsTrue first.is_faithful → IsIdle db) IsIdle o (λ db k. k faithful) idle) lives
      (begun_with o first (store_in past) same is_new given shape limits book faithful (made_empty seen is_new given cache o first opens) kept_book h) runs

-- what is so of each book, and of each book from which it follows
module _ (held : Option History) (is_new : Bool) (given : LimitsView) where
  pub every_book : (P : ShapeView → LimitsView → Book → Type 0) → ((shape : ShapeView) (limits : LimitsView) (book : Book) → P shape limits book) → OfEachBook held is_new given P
  every_book P f = each held where
    each : (h : Option History) → OfEachBook h is_new given P
    each None = tt
    each (Some past) = λ shape limits book b. f shape limits book

  pub each_book : (R P : ShapeView → LimitsView → Book → Type 0) → ((shape : ShapeView) (limits : LimitsView) (book : Book) → R shape limits book → P shape limits book) → OfEachBook held is_new given R → OfEachBook held is_new given P
  each_book R P f left = each held left where
    each : (h : Option History) → OfEachBook h is_new given R → OfEachBook h is_new given P
    each None l = tt
    each (Some past) l = λ shape limits book b. f shape limits book (l shape limits book b)

-- what a run left of a copy that is kept
pub beside : (files : List (List ℕ × List ℕ)) (sent sent' : Option (List ℕ)) (lines : List (List ℕ)) (ran kept : Result (Unit {0}) Fault) (store : Store) (was is : Option History) → kept ≡ Ok tt → NameIsKept store was is
    → (shape : ShapeView) (limits : LimitsView) (book : Book) → LeavesCopy files sent sent' lines ran kept store shape limits book → RunsBeside shape limits book files sent sent' lines ran was is
beside files sent sent' lines ran kept store was is ok name shape limits book left =
    let holds = subst (λ r. OnOk r (HoldsBook store shape limits left.sends.part.after)) ok left.holds in
    record { sends = left.sends; store = store; holds = holds; kept = name; held = held_now store shape limits left.sends.part.after was is holds name }

-- what follows from what is said of an answer
pub map_ok : {T E : Type 0} (P Q : Type 0) (r : Result T E) → (P → Q) → OnOk r P → OnOk r Q
map_ok P Q (Ok x) f h = f h
map_ok P Q (Err e) f h = tt
