-- A database that lasts between runs.
use Rattle.trajdb.specs.declared.RunFault.{RunFault}
use Rattle.std.proofs.Common.{Bool, ◌≡◌, refl, sym, ap, ◌∙◌, subst, true, false, Result, Ok, Err, IsTrue}
use Rattle.std.specs.Prelude.{◌⊎◌, IfErr, OnErr, OnOk}
use Rattle.legs.specs.Book.{Book}
use Rattle.legs.specs.Costs.{ShapeView}
use Rattle.legs.specs.Law.{IsBook}
use Rattle.legs.specs.Limits.{IsLimits, LimitsView}
use Rattle.legs.specs.Tracks.{StandsFor}
use Rattle.boxsearch.specs.Index.{content, words, IndexView, IsMarked, IsSoundIndex}
use Rattle.catalogue.specs.Holding.{AnswersBook, HoldsBook, HoldsButFirst, IsAtRest, IsOfBook, IsUnfinishedStore}
use Rattle.register.specs.Saved.{CatalogueView}
use Rattle.register.specs.Saving.{IsSavingStop}
use Rattle.register.specs.declared.fault.CatalogueFault.{CatalogueFault}
use Rattle.register.specs.declared.fault.CatalogueFault.TheVariants as fault
use Rattle.pages.specs.Store.{Store, IsLawful, IsSyncedButFirst}
use Rattle.pagecache.specs.Cache.{IsSettled}
use Rattle.catalogue.specs.Closing.{IsNoStoreFault}
use Rattle.catalogue.specs.Closing as closing
use Rattle.register.specs.declared.fault.CatalogueFault.TheVariants.{Memory, StoreFull}
use Rattle.legs.specs.Asking.{Leaves as IndexLeaves}
use Rattle.trajdb.specs.Calls.{IsLoadFault, KeepsPages}
use Rattle.trajdb.specs.Database.{catalogue_of, restored}
use Rattle.trajdb.specs.Db.{DbView, HasPages, IsSoundDb}
use Rattle.trajdb.specs.Faults.{closed_answer}
use Rattle.trajdb.specs.Lasting.{HasBook, IsClosingFault, IsFaultless, IsIdle}

-- a book that is answered is that of the database
pub opened_book : (shape : ShapeView) (limits : LimitsView) (book : Book) (c : CatalogueView) (index : IndexView) (begun : Bool) (db : DbView) → db ≡ restored words c index begun → IsLimits db.limits → AnswersBook shape limits book c index → HasBook shape limits book db
opened_book shape limits book c index begun db is lawful answers =
    let of = answers.of in
    let same : (restored words c index begun).book ≡ book = (λ i. record { head = of.head i; names = of.tracks.names i; legs = answers.legs i; rows = of.rows i }) in
    let all : db.book ≡ book = ap (λ (d : DbView). d.book) is ∙ same in
    let limits_are : db.limits ≡ limits = ap (λ (d : DbView). d.limits) is ∙ of.limits_are in
    record {
      sound = record {
        index = subst (λ (d : DbView). words.is_sound d.index) (sym is) answers.sound;
        limits = lawful;
        tracks = subst (λ (b : Book). StandsFor db.tracks b) (sym all) (subst (λ (d : DbView). StandsFor d.tracks book) (sym is) of.tracks);
        law = subst (λ (b : Book). IsBook db.limits b) (sym all) (subst (λ l. IsBook l book) (sym limits_are) of.law);
      };
      shape_is = ap (λ (d : DbView). d.index.tree.shape) is ∙ answers.shape_is;
      book_is = all;
      limits_are = limits_are;
    }

-- a database that is as a question leaves it is at rest where it was
pub keeps_idle : ((c : CatalogueView) (a b : IndexView) → IsAtRest c a → IndexLeaves words a b → IsAtRest c b) → (old new : DbView) → KeepsPages words old new → IsIdle old → IsIdle new
keeps_idle rests old new keeps idle begun lives =
    let leaves = keeps.idle begun lives in
    let rest = idle (sym leaves.begun ∙ begun) (sym leaves.failed ∙ lives) in
    let book = sym leaves.book in
    let tracks = sym leaves.tracks in
    let limits = sym leaves.limits in
    let same : catalogue_of old ≡ catalogue_of new = (λ i. record { head = (book i).head; limits = limits i; tracks = tracks i; rows = (book i).rows }) in
    subst (λ c. IsAtRest c new.index) same (rests (catalogue_of old) old.index new.index rest leaves.index)

-- the catalogue of a sound database is that of its book
pub own_book : (db : DbView) → IsSoundDb db → IsOfBook db.limits db.book (catalogue_of db)
own_book db sound = record { head = refl; limits_are = refl; rows = refl; tracks = sound.tracks; law = sound.law }

-- the store of a database at rest holds its book
pub rest_book : ((c : CatalogueView) (i : IndexView) (book : Book) → IsTrue i.cache.store.is_faithful → IsLawful i.cache.store → IsSettled i.cache → IsAtRest c i → IsSoundIndex i → IsOfBook c.limits book c → content i ≡ book.legs → HoldsBook i.cache.store i.tree.shape c.limits book)
    → (db : DbView) → content db.index ≡ db.book.legs → IsLawful db.index.cache.store → IsSettled db.index.cache → IsSoundDb db → IsIdle db → db.begun ≡ false → db.failed ≡ false → HoldsBook db.index.cache.store db.index.tree.shape db.limits db.book
rest_book holds db legs lawful settled sound idle begun lives = holds (catalogue_of db) db.index db.book sound.index.faithful lawful settled (idle begun lives) sound.index (own_book db sound) legs

-- so does the store that is closed
pub closed_holds : (db : DbView) (s : Store) (answer : Result (Unit {0}) CatalogueFault) → content db.index ≡ db.book.legs
    → OnOk answer (IsSoundIndex db.index → IsMarked db.index.cache → (book : Book) → IsOfBook db.limits book (catalogue_of db) → content db.index ≡ book.legs → HoldsBook s db.index.tree.shape db.limits book)
    → db.begun ≡ true → OnOk (closed_answer answer) (IsSoundDb db → HasPages db → IsIdle db → HoldsBook s db.index.tree.shape db.limits db.book)
closed_holds db s (Ok x) legs h begun = λ sound pages idle. h sound.index (pages.begun begun) db.book (own_book db sound) legs
closed_holds db s (Err e) legs h begun = tt

-- what is so of a store that is closed
pub closed_then : (B P : Type 0) (answer : Result (Unit {0}) CatalogueFault) → OnOk answer P → OnOk (closed_answer answer) (B → P)
closed_then B P (Ok x) h = λ b. h
closed_then B P (Err e) h = tt

-- a store that failed, or is full, in the closing
pub closed_caused : (db : DbView) (s : Store) (answer : Result (Unit {0}) CatalogueFault) → IfErr answer (closing.IsClosingFault db.index.cache.store s) → IfErr (closed_answer answer) (IsClosingFault db s)
closed_caused db s (Ok x) h = tt
closed_caused db s (Err fault.Store) h = h
closed_caused db s (Err StoreFull) h = h
closed_caused db s (Err _) h = tt

pub closed_ordered : (db : DbView) (s : Store) (answer : Result (Unit {0}) CatalogueFault) → OnErr answer (IsMarked db.index.cache → IsUnfinishedStore s ⊎ IsSyncedButFirst s)
    → OnErr (closed_answer answer) (db.failed ≡ false → IsMarked db.index.cache → IsUnfinishedStore s ⊎ IsSyncedButFirst s)
closed_ordered db s (Ok x) h = tt
closed_ordered db s (Err e) h = λ lives marked. h marked

pub closed_refused : (db : DbView) (s : Store) (answer : Result (Unit {0}) CatalogueFault) → content db.index ≡ db.book.legs
    → OnErr answer (IsSoundIndex db.index → IsMarked db.index.cache → (book : Book) → IsOfBook db.limits book (catalogue_of db) → content db.index ≡ book.legs → IsUnfinishedStore s ⊎ HoldsButFirst s db.index.tree.shape db.limits book)
    → db.begun ≡ true → OnErr (closed_answer answer) (IsSoundDb db → HasPages db → db.failed ≡ false → IsUnfinishedStore s ⊎ HoldsButFirst s db.index.tree.shape db.limits db.book)
closed_refused db s (Ok x) legs h begun = tt
closed_refused db s (Err e) legs h begun = λ sound pages lives. h sound.index (pages.begun begun) db.book (own_book db sound) legs

-- where memory ran out or the store is full, it says that it is not finished
pub closed_unfinished_marked : (db : DbView) (s : Store) (answer : Result (Unit {0}) CatalogueFault) → IfErr answer (λ fault. IsNoStoreFault fault → IsMarked db.index.cache → IsUnfinishedStore s)
    → IfErr (closed_answer answer) (λ fault. IsFaultless fault → db.failed ≡ false → IsMarked db.index.cache → IsUnfinishedStore s)
closed_unfinished_marked db s (Ok x) h = tt
closed_unfinished_marked db s (Err Memory) h = λ f lives. h tt
closed_unfinished_marked db s (Err StoreFull) h = λ f lives. h tt
closed_unfinished_marked db s (Err _) h = λ f. absurd f

pub closed_unfinished : (db : DbView) (s : Store) (answer : Result (Unit {0}) CatalogueFault) → IfErr answer (λ fault. IsNoStoreFault fault → IsMarked db.index.cache → IsUnfinishedStore s)
    → db.begun ≡ true → IfErr (closed_answer answer) (λ fault. IsFaultless fault → IsSoundDb db → HasPages db → db.failed ≡ false → IsUnfinishedStore s)
closed_unfinished db s answer h begun = sound_too (closed_answer answer) (closed_unfinished_marked db s answer h) where
  sound_too : (r : Result (Unit {0}) RunFault) → IfErr r (λ fault. IsFaultless fault → db.failed ≡ false → IsMarked db.index.cache → IsUnfinishedStore s)
      → IfErr r (λ fault. IsFaultless fault → IsSoundDb db → HasPages db → db.failed ≡ false → IsUnfinishedStore s)
  sound_too (Ok x) all = tt
  sound_too (Err e) all = λ f sound pages lives. all f lives (pages.begun begun)

pub closed_only : (db : DbView) (answer : Result (Unit {0}) CatalogueFault) → content db.index ≡ db.book.legs
    → IfErr answer (λ fault. IsSoundIndex db.index → (book : Book) → IsOfBook db.limits book (catalogue_of db) → content db.index ≡ book.legs → IsSavingStop fault)
    → IfErr (closed_answer answer) (λ fault. IsSoundDb db → db.failed ≡ false → IsLoadFault fault)
closed_only db (Ok x) legs h = tt
closed_only db (Err Memory) legs h = λ sound lives. tt
closed_only db (Err fault.Store) legs h = λ sound lives. tt
closed_only db (Err StoreFull) legs h = λ sound lives. tt
closed_only db (Err _) legs h = λ sound lives. h sound.index db.book (own_book db sound) legs
