-- A database that passes a check is sound.
use Rattle.std.proofs.Common.{ℕ, ◌≤◌, ◌≡◌, ◌∙◌, refl, sym, ap, arith, subst, true, false, List, [], ◌∷◌, length, All, IsTrue}
use Rattle.legs.specs.Book.{Book}
use Rattle.legs.specs.Index.{CanFollowInTurn}
use Rattle.legs.specs.Law.{IsThere}
use Rattle.legs.specs.Limits.{IsLimits}
use Rattle.treecheck.specs.Checking.{AreTracksOf}
use Rattle.legs.specs.Index.{MayRefuse}
use Rattle.legs.specs.declared.index.IndexFault.{IndexFault}
use Rattle.legs.specs.declared.index.IndexFault.TheVariants as index
use Rattle.trajdb.specs.declared.RunFault.TheVariants.{Failed}
use Rattle.pagecache.specs.Cache.{Cache, payload_of, IsClean, IsSettled}
use Rattle.boxsearch.specs.Index.{content, IndexView, IsMarked, IsSoundIndex}
use Rattle.header.specs.Front.{SaysState}
use Rattle.catalogue.specs.Holding.{IsAtRest}
use Rattle.register.specs.Saved.{CatalogueView}
use Rattle.trajdb.specs.Calls.{IsQuestionFault}
use Rattle.trajdb.specs.Database.{catalogue_of}
use Rattle.trajdb.specs.Faults.{run_fault_of}
use Rattle.trajdb.specs.Lasting.{IsIdle}
use Rattle.trajdb.specs.Db.{KeepsLaw, DbView, HasPages, IsSoundDb}
use Rattle.trajdb.proofs.CheckLemmas.{counted, none_counted}

no_names : (names : List (List ℕ)) → length names ≡ 0 → names ≡ []
no_names [] e = refl
no_names (n ∷ ns) e = absurd cc

no_rows : (rows : List (List (List ℕ))) → length rows ≤ 0 → rows ≡ []
no_rows [] h = refl
no_rows (r ∷ rs) h = absurd (omega (arith, h))

-- a sound index with its tracks, and what a book keeps beside them, make a sound database
module _ (db : DbView) (names : db.tracks.names ≡ db.book.names) (legs : content db.index ≡ db.book.legs) where
  legs_of_book : AreTracksOf db.tracks (length db.book.rows) (content db.index) → AreTracksOf db.tracks (length db.book.rows) db.book.legs
  legs_of_book a = subst (AreTracksOf db.tracks (length db.book.rows)) legs a

  there : AreTracksOf db.tracks (length db.book.rows) db.book.legs → All (IsThere db.book) db.book.legs
  there a = λ k d h.
      let f = counted db.book.legs k d h in
      let r = a.in_rows k d h in
      let n = a.numbered ∙ ap length names in
      record { feature = omega (arith, f, n); row = r }

  pub sound_of : CanFollowInTurn [] (content db.index) → IsLimits db.limits → IsSoundIndex db.index → AreTracksOf db.tracks (length db.book.rows) (content db.index) → KeepsLaw db → IsSoundDb db
  sound_of turns lawful index tracks law =
      let a = legs_of_book tracks in
      let n = ap length names in
      let many = a.numbered ∙ n in
      record {
        index = index;
        limits = lawful;
        tracks = record {
          names = names;
          paired = a.paired ∙ n;
          each = λ f d h. a.each f d (omega (arith, h, n));
          legs = a.legs_are;
          rows = a.rows_are;
          lawful = record {
            numbered = many;
            led = λ f h. a.led f (omega (arith, h, n));
            rows = a.in_rows;
            few_legs = (let e = a.legs_are in let l = law.few_legs in let m = lawful.few_legs in omega (arith, e, l, m));
            few_names = (let f = a.few_names in omega (arith, f, n));
          };
        };
        law = record {
          ordered = record {
            names = law.names.each;
            distinct = law.names.distinct;
            there = there a;
            in_turn = subst (λ ls. CanFollowInTurn [] ls) legs turns;
            numbered = many;
            led = λ f h. a.led f (omega (arith, h, n));
            few_legs = (let e = a.legs_are in let l = law.few_legs in omega (arith, e, l));
            few_features = law.few_features;
            few_rows = a.few_rows;
          };
          none = λ e.
              let z = law.head.none e in
              let no = no_names db.book.names z in
              let nl = none_counted db.book.legs (many ∙ z) in
              let nr = no_rows db.book.rows (let f = a.few_rows in let l = ap length nl in omega (arith, f, l)) in
              λ i. record { head = e i; names = no i; legs = nl i; rows = nr i };
          rows = law.head.rows_fit;
        };
      }

  pub tracks_of : IsSoundDb db → AreTracksOf db.tracks (length db.book.rows) (content db.index)
  tracks_of s =
      let n = ap length names in
      let t = s.tracks in
      let o = s.law.ordered in
      subst (AreTracksOf db.tracks (length db.book.rows)) (sym legs) (record {
        paired = t.paired ∙ sym n;
        numbered = o.numbered ∙ sym n;
        each = λ f d h. t.each f d (omega (arith, h, n));
        led = λ f h. o.led f (omega (arith, h, n));
        legs_are = t.legs;
        rows_are = t.rows;
        in_rows = t.lawful.rows;
        few_rows = o.few_rows;
        few_names = (let f = t.lawful.few_names in omega (arith, f, n));
      })

  pub law_of : IsSoundDb db → KeepsLaw db
  law_of s =
      let o = s.law.ordered in
      record {
        few_legs = (let e = s.tracks.legs in let l = o.few_legs in omega (arith, e, l));
        few_features = o.few_features;
        names = record { each = o.names; distinct = o.distinct };
        head = record { none = λ e. ap (λ (b : Book). length b.names) (s.law.none e); rows_fit = s.law.rows };
      }

-- a fault that a sound index may answer is one of a question
pub question_fault : (fault : IndexFault) → MayRefuse fault → IsQuestionFault (run_fault_of fault)
question_fault index.Memory h = tt
question_fault index.Store h = tt
question_fault _ h = h

-- only an index that is spent fails a call
pub failed_spent : (fault : IndexFault) → run_fault_of fault ≡ Failed → fault ≡ index.Spent
failed_spent index.Spent h = refl
failed_spent _ h = cc

-- what page 0 of a sound database says
pub says_of : (db : DbView)
    → ((c : CatalogueView) (i : IndexView) → IsTrue i.cache.store.is_faithful → IsSettled i.cache → IsAtRest c i → SaysState false (payload_of i.cache 0))
    → ((c : Cache) → IsSettled c → IsMarked c → SaysState true (payload_of c 0))
    → IsSettled db.index.cache → IsSoundDb db → HasPages db → IsIdle db → db.failed ≡ false → SaysState db.begun (payload_of db.index.cache 0)
says_of db finished marked settled sound pages idle lives =
    (elim db.begun as (λ b. db.begun ≡ b → SaysState b (payload_of db.index.cache 0)) [
      | true ↦ λ e. marked db.index.cache settled (pages.begun e)
      | false ↦ λ e. finished (catalogue_of db) db.index sound.index.faithful settled (idle e lives)
    ]) refl

pub says_still : (old new : DbView) → new.begun ≡ old.begun → payload_of new.index.cache 0 ≡ payload_of old.index.cache 0 → SaysState old.begun (payload_of old.index.cache 0) → SaysState new.begun (payload_of new.index.cache 0)
says_still old new begun same says = subst (λ b. SaysState b (payload_of new.index.cache 0)) (sym begun) (subst (SaysState old.begun) (sym same) says)

-- page 0 is marked where it says so, and no page is changed
pub has_pages_of : (db : DbView) → (SaysState true (payload_of db.index.cache 0) → IsMarked db.index.cache) → IsClean db.index.cache → SaysState db.begun (payload_of db.index.cache 0) → HasPages db
has_pages_of db marked clean says = record {
  begun = λ e. marked (subst (λ b. SaysState b (payload_of db.index.cache 0)) e says);
  idle = λ e lives. clean;
}
