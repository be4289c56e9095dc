-- What is left of an index whose changed pages are written.
use Rattle.std.proofs.Common.{◌≡◌, List, [], sym, ◌∙◌, arith, true, false, Result, Ok, Err}
use Rattle.std.specs.Prelude.{IfErr}
use Rattle.std.proofs.lemmas.Bool.{true≢false}
use Rattle.std.proofs.lemmas.Int.{clamps}
use Rattle.legs.specs.Asking.{Refusals}
use Rattle.legs.specs.Index.{CanFollowInTurn, MayRefuse}
use Rattle.legs.specs.declared.index.IndexFault.{IndexFault}
use Rattle.legs.specs.declared.index.IndexFault.TheVariants as index
use Rattle.pagecache.specs.Cache.{payload_of, Cache, IsClean, IsSettled, IsStopped, SameLength, KeepsPayloads, UnsyncsNone}
use Rattle.pagecache.specs.declared.fault.CacheFault.{CacheFault}
use Rattle.chains.specs.Reads.{OnlyReads}
use Rattle.boxsearch.specs.Answers.{answered, of_cache}
use Rattle.chains.specs.declared.spans.LeafSpan.{LeafSpan}
use Rattle.boxsearch.specs.Beside.{with_cache}
use Rattle.boxsearch.specs.Index.{content, IndexView, words, IsMarked, IsSoundIndex}
use Rattle.header.specs.Front.{SaysState}
use Rattle.boxsearch.proofs.AnswerLemmas.{each_fault, of_each_cache, the_fault, Said}

-- no page has another payload
pub flush_reads : (old new : Cache) → KeepsPayloads old new → UnsyncsNone old new → SameLength old new → new.asked ≡ old.asked → OnlyReads old new
flush_reads old new s u l a = record {
  store = s.keeps.store;
  capacity = s.keeps.capacity;
  count = s.count;
  length = l;
  asked = omega (arith, clamps, a);
  payloads = s.payloads;
  changed = s.changed;
  written = s.keeps.written;
  unwritten = s.unwritten;
  unsynced = u;
}

stopped_said : (a b : Cache) (fault : CacheFault) → IsStopped fault a b → Said a b (of_cache fault)
stopped_said a b = of_each_cache (λ fault. IsStopped fault a b → Said a b (of_cache fault)) (λ h. tt) (λ h. h) (λ n h. tt) (λ h. h) (λ h. tt)

stopped_may : (old : IndexView) (c : Cache) (fault : CacheFault) → IsStopped fault old.cache c → MayRefuse (of_cache fault)
stopped_may old c = of_each_cache (λ fault. IsStopped fault old.cache c → MayRefuse (of_cache fault)) (λ h. h) (λ h. tt) (λ n h. h) (λ h. h) (λ h. tt)

stopped_allowed : (old : IndexView) (c : Cache) (fault : CacheFault) → IsStopped fault old.cache c → IsSoundIndex old → MayRefuse (of_cache fault)
stopped_allowed old c fault h s = stopped_may old c fault h

pub flush_refusals : (old : IndexView) (c : Cache) (known : List (List LeafSpan)) (r : Result (Unit {0}) CacheFault) → old.tree.spent ≡ false → IfErr r (λ fault. IsStopped fault old.cache c) → Refusals words old (with_cache old c known) (answered (λ fault. of_cache fault) r)
flush_refusals old c known r works caused =
    let said = each_fault (λ fault. of_cache fault) (λ fault. IsStopped fault old.cache c) (Said old.cache c) (stopped_said old.cache c) r caused in
    record {
      was_spent = λ e. absurd (true≢false (sym e ∙ works));
      sound = each_fault (λ fault. of_cache fault) (λ fault. IsStopped fault old.cache c) (λ fault. IsSoundIndex old → MayRefuse fault) (stopped_allowed old c) r caused;
      store = λ e. the_fault (answered (λ fault. of_cache fault) r) (Said old.cache c) index.Store e said;
      full = λ e. the_fault (answered (λ fault. of_cache fault) r) (Said old.cache c) index.StoreFull e said;
    }

-- of an index that is not spent memory and the store alone refuse it
pub flush_works : (old : IndexView) (c : Cache) (r : Result (Unit {0}) CacheFault) → IfErr r (λ fault. IsStopped fault old.cache c) → IfErr (answered (λ fault. of_cache fault) r) MayRefuse
flush_works old c r caused = each_fault (λ fault. of_cache fault) (λ fault. IsStopped fault old.cache c) MayRefuse (stopped_may old c) r caused

-- page 0 of a sound index is marked, where it says that the store is not finished, and no page is changed
pub marked_of : (index : IndexView) → IsSoundIndex index → IsSettled index.cache → IsClean index.cache → SaysState true (payload_of index.cache 0) → IsMarked index.cache
marked_of index sound settled clean says = record {
  faithful = sound.faithful;
  there = sound.stands.tree_stands.numbers.page_0;
  unchanged = clean 0;
  payload = says.payload;
  sealed = sym (settled sound.faithful 0 (clean 0)) ∙ says.is;
  unfinished = says.state;
}

-- the legs of a sound index follow one another
pub in_turn : (index : IndexView) → IsSoundIndex index → CanFollowInTurn [] (content index)
in_turn index sound = sound.stands.in_turn

pub given_works : (r : Result (Unit {0}) IndexFault) (P : Type 0) → IfErr r MayRefuse → IfErr r (λ fault. P → MayRefuse fault)
given_works (Ok x) P h = tt
given_works (Err e) P h = λ p. h
