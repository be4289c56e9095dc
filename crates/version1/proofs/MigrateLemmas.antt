-- A store of version 1 that is brought over.
use Rattle.std.proofs.Common.{ℕ, ◌≡◌, ◌≤◌, ◌∙◌, ⊎_elim, inl, inr, List, length, slice_get, Option, Some, None, Result, Ok, Err, refl, sym, ap, subst, arith, IsTrue}
use Rattle.std.proofs.lemmas.Int.{clamps}
use Rattle.std.specs.Option.{option_and_then, option_map}
use Rattle.legs.specs.Book.{Book}
use Rattle.legs.specs.Costs.{ShapeView}
use Rattle.legs.specs.Index.{MayRefuseLeg}
use Rattle.legs.specs.Legs.{LegView}
use Rattle.legs.specs.Limits.{LimitsView}
use Rattle.legs.specs.Tracks.{TracksView}
use Rattle.legs.specs.declared.index.IndexFault.{IndexFault}
use Rattle.legs.specs.declared.index.IndexFault.TheVariants as index
use Rattle.pages.specs.Store.{Store as StoreView, Faulted, IsLawful, Keeps, Stays}
use Rattle.pages.specs.Unsealed.{unsealed}
use Rattle.pagecache.specs.Cache.{stored_payload}
use Rattle.pagecache.specs.declared.fault.CacheFault.{CacheFault}
use Rattle.pagecache.specs.declared.fault.CacheFault.TheVariants as cache
use Rattle.version1.specs.OldForm.{old_node_of}
use Rattle.treecheck.specs.Check.{HoldChains}
use Rattle.treecheck.proofs.ChainLemmas.{one_list}
use Rattle.treecheck.proofs.HeldTree.{chains_hold}
use Rattle.tbtree.specs.declared.tree.Place.{Place}
use Rattle.treecheck.specs.Checking.{Agree}
use Rattle.boxsearch.specs.Index.{content, words, IndexView, IsMarked, IsSoundIndex}
use Rattle.version1.specs.OldLegs.{pages_of_old}
use Rattle.register.specs.ChainReader.{fault_of}
use Rattle.catalogue.specs.Holding.{AnswersBook, IsUnfinishedStore}
use Rattle.register.specs.Lasting.{ComesFirst, IsBehindFirst, IsStop}
use Rattle.catalogue.specs.Beginning.{IsBegun, IsCaused, IsLeftOver}
use Rattle.catalogue.proofs.StateLemmas.{marked_store}
use Rattle.version1.specs.Migrating.{brought_fault, IsBrought, IsMigrated, IsMigratingFault, IsReadOld, IsReady, NotMigrated, TakesLegs}
use Rattle.version1.specs.OldStore.{old_first_fault, present_shape, AnswersOld}
use Rattle.version1.proofs.OldBookLemmas.{old_book, AnswersOldBook}
use Rattle.register.specs.Saved.{CatalogueView}
use Rattle.register.specs.Saving.{IsSavingStop}
use Rattle.register.specs.declared.fault.CatalogueFault.{CatalogueFault}
use Rattle.register.specs.declared.fault.CatalogueFault.TheVariants.{Memory, Store, StoreFull, Damaged, Unfinished, Version, Malformed}

-- the pages of a store of version 1 that stays are what they were
pub old_pages_stay : (a b : StoreView) → IsTrue a.is_faithful → Stays a b → pages_of_old b ≡ pages_of_old a
unfolding stored_payload
old_pages_stay a b fa s = λ i. record { at = λ p. option_map old_node_of (option_and_then (unsealed p) (slice_get (s.pages fa i) p)); count = s.count i }

module _ (s : StoreView) (c : CatalogueView) (leaf : ℕ) (near : ShapeView) (places : List Place) (some : 2 ≤ leaf)
    (shape : ShapeView) (limits : LimitsView) (book : Book) (a : AnswersOldBook s shape limits book c leaf near places) where
  abbrev Holds : ℕ → ℕ → ℕ → List LegView → Type 0
  Holds most rows total legs = HoldChains (pages_of_old s) most rows total places c.tracks.tracks legs

  -- the chains of a store that holds a book hold its legs
  pub book_chains : Holds leaf c.tracks.rows c.tracks.legs book.legs
  book_chains =
      let l : a.tree.shape.leaf ≡ leaf = ap (λ (x : ShapeView). x.leaf) a.tree_shape ∙ a.leaf_is in
      let h = chains_hold (pages_of_old s) a.tree (length book.rows) (length book.legs) places c.tracks.tracks (omega (arith, l, some)) a.hold in
      subst (λ n. Holds n c.tracks.rows c.tracks.legs book.legs) l
      (subst (λ r. Holds a.tree.shape.leaf r c.tracks.legs book.legs) (sym a.of.tracks.rows)
      (subst (λ t. Holds a.tree.shape.leaf (length book.rows) t book.legs) (sym a.of.tracks.legs)
      (subst (λ ls. Holds a.tree.shape.leaf (length book.rows) (length book.legs) ls) a.legs h)))

  pub book_agrees : Agree c.tracks c.tracks.rows c.tracks.legs
  book_agrees =
      let names = ap length a.of.tracks.names in
      record {
        paired = a.of.tracks.paired ∙ sym names;
        legs_are = refl;
        rows_are = refl;
        few_rows = (let f = a.of.law.ordered.few_rows in let r = a.of.tracks.rows in let l = a.of.tracks.legs in omega (arith, f, r, l));
        few_names = (let f = a.of.tracks.lawful.few_names in omega (arith, f, names));
      }

  -- an index of the legs that the chains hold is that of the book
  pub book_brought : (i : IndexView) → IsSoundIndex i → i.tree.shape ≡ near → Holds leaf c.tracks.rows c.tracks.legs (content i) → AnswersBook (present_shape shape) limits book c i
  book_brought i sound shape_is holds = record {
    shape_is = shape_is ∙ a.shape_is;
    of = a.of;
    sound = sound;
    legs = one_list (pages_of_old s) leaf c.tracks.rows c.tracks.legs places c.tracks.tracks (content i) book.legs holds book_chains;
  }

faulted_before : (a b c : StoreView) → a.faults ≤ b.faults → Faulted b c → Faulted a c
faulted_before a b c l f = omega (arith, clamps, l, f)

-- the refusals of legs
pub allowed_leg : (f : IndexFault) → MayRefuseLeg f → IsSavingStop (brought_fault f)
allowed_leg index.Memory h = tt
allowed_leg index.Store h = tt
allowed_leg (index.Damaged page) h = h
allowed_leg index.StoreFull h = tt
allowed_leg index.Spent h = h

pub allowed_stop : (e : CatalogueFault) → IsStop e → IsSavingStop e
allowed_stop Memory h = tt
allowed_stop Store h = tt
allowed_stop StoreFull h = tt
allowed_stop (Damaged page) h = h
allowed_stop Unfinished h = h
allowed_stop Version h = h
allowed_stop Malformed h = h

-- which do not come before a fault of page 0
brought_behind : (f : IndexFault) → IsBehindFirst (brought_fault f)
brought_behind index.Memory = tt
brought_behind index.Store = tt
brought_behind (index.Damaged page) = tt
brought_behind index.StoreFull = tt
brought_behind index.Spent = tt

-- a new store is not begun where it failed, or has no room for any page
module _ (s mid new midnew left : StoreView) (after : Stays new midnew) (keeps : Keeps midnew left) (lawful : IsLawful left) where
  begun_fault : (e : CacheFault) → IsCaused midnew left e → IsMigratingFault s mid new left (fault_of e)
  begun_fault cache.NoPage h = tt
  begun_fault cache.Store h = inr (faulted_before new midnew left after.keeps.faults h)
  begun_fault (cache.Damaged page) h = tt
  begun_fault cache.StoreFull h = let most = keeps.most in let within = lawful.within in omega (arith, h, most, within)
  begun_fault cache.Memory h = tt

  begun_stop : (e : CacheFault) → IsCaused midnew left e → IsSavingStop (fault_of e)
  begun_stop cache.NoPage h = h
  begun_stop cache.Store h = tt
  begun_stop (cache.Damaged page) h = h
  begun_stop cache.StoreFull h = tt
  begun_stop cache.Memory h = tt

  begun_behind : (e : CacheFault) → IsBehindFirst (fault_of e)
  begun_behind cache.NoPage = tt
  begun_behind cache.Store = tt
  begun_behind (cache.Damaged page) = tt
  begun_behind cache.StoreFull = tt
  begun_behind cache.Memory = tt

  pub not_begun : (e : CacheFault) → (IsTrue s.is_faithful → old_first_fault s.count (stored_payload s 0) ≡ None) → IsCaused midnew left e → NotMigrated s mid new left (fault_of e)
  not_begun e finished h = record {
    holds = λ fa fb shape limits book held. begun_stop e h;
    first = λ fa. subst (λ (o : Option CatalogueFault). ComesFirst o (fault_of e)) (sym (finished fa)) (begun_behind e);
    caused = begun_fault e h;
  }

abbrev shape_in : Option ShapeView → ShapeView → ShapeView
shape_in (Some shape) other = shape
shape_in None other = other

-- a later index has the shape that it was begun with
pub same_shape : (i begun : IndexView) (shape : ShapeView) → words.plan i ≡ words.plan begun → begun.tree.shape ≡ shape → i.tree.shape ≡ shape
same_shape i begun shape plan is = ap (λ p. shape_in p shape) plan ∙ is

pub left_later : (new mid left : StoreView) → Stays new mid → IsLeftOver mid left → IsLeftOver new left
left_later new mid left s h = ⊎_elim inl (λ r. inr (⊎_elim inl (λ f. inr (f.0, faulted_before new mid left s.keeps.faults f.1)) r)) h

-- a store of version 1 is read, a new one begun, and its legs are taken
module _ (s mid end new midnew : StoreView) (c : CatalogueView) (leaf : ℕ) (near : ShapeView) (places : List Place) (limits : LimitsView) (pages : ℕ) (first now : IndexView)
    (read : IsReadOld s new c leaf near places) (stays : Stays s mid) (stored : Stays new midnew) (begun : IsBegun near limits pages midnew first) where
  ready : IsTrue s.is_faithful → IsTrue new.is_faithful → IsReady words mid first
  ready fa fb = record { faithful = stays.keeps.faithful ∙ fa; sound = begun.sound (stored.keeps.faithful ∙ fb); empty = begun.empty }

  abbrev Chains : StoreView → List LegView → Type 0
  Chains store legs = HoldChains (pages_of_old store) leaf c.tracks.rows c.tracks.legs places c.tracks.tracks legs

  chains_same : IsTrue s.is_faithful → (legs : List LegView) → Chains mid legs ≡ Chains s legs
  chains_same fa legs = ap (λ nodes. HoldChains nodes leaf c.tracks.rows c.tracks.legs places c.tracks.tracks legs) (old_pages_stay s mid fa stays)

  module _ {r : Result (Unit {0}) IndexFault} (t : TakesLegs words mid end leaf c.tracks.rows c.tracks places first now r) where
    still_marked : IsTrue s.is_faithful → IsTrue new.is_faithful → IsMarked now.cache
    still_marked fa fb = t.marked (ready fa fb) (begun.marked (stored.keeps.faithful ∙ fb))

  module _ (t : TakesLegs words mid end leaf c.tracks.rows c.tracks places first now (Ok tt)) where
    shape_is : now.tree.shape ≡ near
    shape_is = same_shape now first near t.takes.later.plan begun.shape

    brought : IsTrue s.is_faithful → IsTrue new.is_faithful → IsBrought s c now
    brought fa fb =
        let b = t.brought (ready fa fb) in
        record {
          leaf = leaf;
          places = places;
          kept = subst (λ (shape : ShapeView). AnswersOld (stored_payload s) s.count c leaf shape places) (sym shape_is) (read.kept fa fb);
          sound = b.0;
          legs = subst (λ T. T) (chains_same fa (content now)) b.1;
        }

    pub migrated : IsMigrated s new c now
    unfolding brought
    migrated = record {
      brought = brought;
      book = λ fa fb shape limits book h.
          let b = brought fa fb in
          book_brought s c leaf near places read.room shape limits book (old_book s c leaf near places (read.kept fa fb) shape limits book h) now b.sound shape_is b.legs;
      marked = still_marked t;
      finished = read.finished;
      faults = (let x = stored.keeps.faults in let y = begun.stored.keeps.faults in let z = t.takes.later.faults in omega (arith, x, y, z));
    }

  module _ (e : IndexFault) (t : TakesLegs words mid end leaf c.tracks.rows c.tracks places first now (Err e)) (left : StoreView) (is : left ≡ now.cache.store) (few : now.cache.count ≤ now.cache.store.count) (lawful : IsLawful now.cache.store) where
    taking_fault : (f : IndexFault) → e ≡ f → IsMigratingFault s end new now.cache.store (brought_fault f)
    taking_fault index.Memory h = tt
    taking_fault index.Store h = ⊎_elim
        (λ x. inl (faulted_before s mid end stays.keeps.faults x))
        (λ x. inr (let a = stored.keeps.faults in let b = begun.stored.keeps.faults in omega (arith, clamps, x, a, b))) (t.takes.store (ap (λ x. Err x) h))
    taking_fault (index.Damaged page) h = tt
    taking_fault index.StoreFull h = (let full = t.takes.full (ap (λ x. Err x) h) in let within = lawful.within in omega (arith, full, few, within))
    taking_fault index.Spent h = tt

    pub refused : NotMigrated s end new left (brought_fault e)
    refused = record {
      holds = λ fa fb shape limits book h.
          let a = old_book s c leaf near places (read.kept fa fb) shape limits book h in
          allowed_leg e (t.only (ready fa fb) (book_agrees s c leaf near places read.room shape limits book a) book.legs
          (subst (λ T. T) (sym (chains_same fa book.legs)) (book_chains s c leaf near places read.room shape limits book a)));
      first = λ fa. subst (λ (o : Option CatalogueFault). ComesFirst o (brought_fault e)) (sym (read.finished fa)) (brought_behind e);
      caused = subst (λ (x : StoreView). IsMigratingFault s end new x (brought_fault e)) (sym is) (taking_fault e refl);
    }

    pub left_over_now : IsTrue s.is_faithful → IsTrue new.is_faithful → IsLeftOver new left
    left_over_now fa fb = inr (inl (subst (λ (x : StoreView). IsUnfinishedStore x) (sym is) (marked_store now.cache (still_marked t fa fb))))

-- what is taken, in other words for the same numbers
pub legs_as : {mid end : StoreView} {first now : IndexView} {r : Result (Unit {0}) IndexFault} (most leaf rows : ℕ) (t u : TracksView) (p q : List Place) → most ≡ leaf → rows ≡ t.rows → t ≡ u → p ≡ q
    → TakesLegs words mid end most rows t p first now r → TakesLegs words mid end leaf u.rows u q first now r
legs_as {mid} {end} {first} {now} {r} most leaf rows t u p q many counted same places h =
    subst (λ (x : TracksView). TakesLegs words mid end leaf x.rows x q first now r) same
    (subst (λ n. TakesLegs words mid end leaf n t q first now r) counted
    (subst (λ n. TakesLegs words mid end n rows t q first now r) many
    (subst (λ l. TakesLegs words mid end most rows t l first now r) places h)))
