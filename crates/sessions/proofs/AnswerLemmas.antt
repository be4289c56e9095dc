-- What a run of the program sends, and what its store then holds.
use Rattle.std.proofs.lemmas.Int.{clamps}
use Rattle.std.proofs.Common.{arith, ◌≡◌, ◌≤◌, ◌⊎◌, ◌∙◌, ap, sym, inl, inr, true, false, IsTrue, Some, Result, Ok, Err, subst}
use Rattle.std.specs.Prelude.{IfErr, IfOk, OnErr, OnOk}
use Rattle.legs.specs.Book.{Book, empty_book}
use Rattle.legs.specs.Costs.{ShapeView}
use Rattle.legs.specs.Limits.{LimitsView}
use Rattle.pages.specs.Store.{Store}
use Rattle.boxsearch.specs.Index.{words}
use Rattle.catalogue.specs.Holding.{HoldsBook, HoldsButFirst, IsUnfinishedStore}
use Rattle.catalogue.specs.Beginning.{IsLeftOver}
use Rattle.register.specs.Saving.{IsSavingStop}
use Rattle.trajdb.specs.Calls.{IsLoadFault}
use Rattle.trajdb.specs.Database.{fresh}
use Rattle.trajdb.specs.Db.{DbView, HasPages, IsSoundDb}
use Rattle.trajdb.specs.Lasting.{HasBook, IsClosingFault, IsFaultless, IsIdle}
use Rattle.register.specs.declared.fault.CatalogueFault.{CatalogueFault}
use Rattle.register.specs.declared.fault.CatalogueFault.TheVariants as opening
use Rattle.trajdb.specs.declared.RunFault.{RunFault}
use Rattle.trajdb.specs.declared.RunFault.TheVariants as run
use Rattle.sessions.specs.Answers.{IsNotOver, IsOverFault}
use Rattle.sessions.specs.declared.fault.Fault.TheVariants.{Run, Open}

pub the_same : (x y : ShapeView) → Some x ≡ Some y → x ≡ y
the_same x y e = cc

-- a fact holds where there is an error
pub on_error : {T E : Type 0} (P : Type 0) (r : Result T E) → P → OnErr r P
on_error P (Ok x) h = tt
on_error P (Err e) h = h

-- no database is opened of a store without pages
pub no_pages : {E : Type 0} (r : Result DbView E) (s : Store) → s.count ≡ 0 → IfOk r (λ db. IsTrue s.is_faithful → (shape : ShapeView) (limits : LimitsView) (book : Book) → HoldsBook s shape limits book → HasBook shape limits book db)
no_pages (Ok db) s none = λ f shape limits book h. let root = h.kept.within.root in absurd (omega (arith, none, root))
no_pages (Err e) s none = tt

-- what is said of an answer is said where more is known
pub more_known : {T E : Type 0} (P Q : T → Type 0) (r : Result T E) → ((x : T) → P x → Q x) → IfOk r P → IfOk r Q
more_known P Q (Ok x) f h = f x h
more_known P Q (Err e) f h = tt

-- a new database has the empty book
pub created : {E : Type 0} (r : Result DbView E) (shape : ShapeView) (limits : LimitsView) (faithful : Type 0) → IfOk r (λ db. words.plan db.index ≡ Some shape) → IfOk r (λ db. faithful → IsSoundDb db) → IfOk r (λ db. db ≡ fresh limits db.index true)
    → IfOk r (λ db. faithful → HasBook shape limits empty_book db)
created (Ok db) shape limits faithful plan sound made = λ f. record { sound = sound f; shape_is = the_same db.index.tree.shape shape plan; book_is = ap (λ (d : DbView). d.book) made; limits_are = ap (λ (d : DbView). d.limits) made }
created (Err e) shape limits faithful plan sound made = tt

-- an answer that is given only where another one is
pub given : {E F : Type 0} (P : Type 0) (r : Result (Unit {0}) E) (s : Result (Unit {0}) F) → OnOk r (s ≡ Ok tt) → OnOk s P → OnOk r P
given P (Ok x) s is h = subst (λ k. OnOk k P) is h
given P (Err e) s is h = tt

-- a database that was made with a book and is closed leaves a store that holds it
pub closed_book : (db : DbView) (s : Store) (ran : Result (Unit {0}) RunFault) → OnOk ran (IsSoundDb db → HasPages db → IsIdle db → HoldsBook s db.index.tree.shape db.limits db.book) → ran ≡ Ok tt
    → (shape : ShapeView) (limits : LimitsView) (book : Book) → HasBook shape limits book db → HasPages db → db.begun ≡ true → HoldsBook s shape limits book
closed_book db s ran holds is shape limits book has pages begun =
    let closed = subst (λ r. OnOk r (IsSoundDb db → HasPages db → IsIdle db → HoldsBook s db.index.tree.shape db.limits db.book)) is holds in
    let idle : IsIdle db = λ not lives. (let wrong : true ≡ false = sym begun ∙ not in absurd cc) in
    subst (λ b. HoldsBook s shape limits b) has.book_is
    (subst (λ l. HoldsBook s shape l db.book) has.limits_are
    (subst (λ t. HoldsBook s t db.limits db.book) has.shape_is (closed has.sound pages idle)))

-- and where the closing is refused, all pages but page 0 are those of such a store, unless it says that it is not finished
pub closed_but_first : (db : DbView) (s : Store) (shape : ShapeView) (limits : LimitsView) (book : Book) → HasBook shape limits book db
    → IsUnfinishedStore s ⊎ HoldsButFirst s db.index.tree.shape db.limits db.book → IsUnfinishedStore s ⊎ HoldsButFirst s shape limits book
closed_but_first db s shape limits book has h =
    subst (λ b. IsUnfinishedStore s ⊎ HoldsButFirst s shape limits b) has.book_is
    (subst (λ l. IsUnfinishedStore s ⊎ HoldsButFirst s shape l db.book) has.limits_are
    (subst (λ t. IsUnfinishedStore s ⊎ HoldsButFirst s t db.limits db.book) has.shape_is h))

-- what is said of a fault
pub err_of : {T E : Type 0} (P : E → Type 0) (r : Result T E) (e : E) → r ≡ Err e → IfErr r P → P e
err_of P r e is h = subst (λ k. IfErr k P) is h

-- why a store that holds a book is not brought over
pub over_open : (new left : Store) (e : CatalogueFault) → IsSavingStop e → IsLeftOver new left → IsNotOver new left (Open e)
over_open new left opening.Memory a l = l
over_open new left opening.Store a l = l
over_open new left opening.StoreFull a l = l
over_open new left _ a l = a

-- a store that is full, or that failed, in the closing
pub closing_fault : (old after new left : Store) (db : DbView) (e : RunFault) → db.failed ≡ false → new.faults ≤ db.index.cache.store.faults → IsClosingFault db left e → IsOverFault old after new left (Run e)
closing_fault old after new left db run.Store lives l h = omega (arith, clamps, l, h)
closing_fault old after new left db run.StoreFull lives l h = h
closing_fault old after new left db run.Failed lives l h = let wrong : true ≡ false = sym h ∙ lives in absurd cc
closing_fault old after new left db run.Output lives l h = h
closing_fault old after new left db _ lives l h = tt

-- or not closed
pub over_run : (new left : Store) (e : RunFault) → IsLoadFault e → (IsFaultless e → IsUnfinishedStore left) → IsNotOver new left (Run e)
over_run new left run.Memory a u = inr (inl (u tt))
over_run new left run.Store a u = tt
over_run new left run.StoreFull a u = inr (inl (u tt))
over_run new left _ a u = a
