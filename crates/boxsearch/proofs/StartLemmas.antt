-- An index whose page 0 is marked.
use Rattle.std.proofs.Common.{Bool, ◌≡◌, ◌≢◌, ◌<◌, ◌≤◌, ⊎_elim, refl, sym, ap, ◌∙◌, arith, subst, true, false, cond, drop, length, List, [], All, IsTrue, Option, Some, None, option_map, Result}
use Rattle.std.specs.Prelude.{IfErr, OnOk, OnErr}
use Rattle.std.proofs.lemmas.Bool.{cases_lt, true≢false}
use Rattle.std.proofs.lemmas.Int.{clamps}
use Rattle.legs.specs.Asking.{Refusals, Starts}
use Rattle.legs.specs.Boxes.{BoxView}
use Rattle.legs.specs.Index.{HasRisen, MayRefuse, feature_count}
use Rattle.legs.specs.Legs.{IsLeg}
use Rattle.legs.specs.declared.index.IndexFault.{IndexFault}
use Rattle.legs.specs.declared.index.IndexFault.TheVariants as index
use Rattle.pages.specs.Store.{Faulted, IsSynced}
use Rattle.pagecache.specs.Cache.{Cache, IsClean, pages_as_written, payload_of}
use Rattle.pagecache.specs.declared.fault.CacheFault.{CacheFault}
use Rattle.pagecache.specs.declared.fault.CacheFault.TheVariants as cache
use Rattle.tbnode.specs.Form.{node_of}
use Rattle.tbtree.specs.Descent.{found_legs, node_in, IsSameTree}
use Rattle.tbtree.specs.Insert.{Stands, IsPlace}
use Rattle.tbtree.specs.Nodes.{pages_of_cache}
use Rattle.tbtree.specs.Passes.{KeepsLength}
use Rattle.boxsearch.specs.Answers.{answered, of_cache}
use Rattle.boxsearch.specs.Index.{IndexView, words, content, legs_by, written, IsSoundIndex, IsMarked}
use Rattle.boxsearch.specs.Marking.{Marks, IsNotMarked}
use Rattle.pages.specs.declared.payload.Payload.{Payload}
use Rattle.tbtree.proofs.LawLemmas.{same_found, still_stands}
use Rattle.boxsearch.proofs.PlaceLemmas.{some_none}
use Rattle.boxsearch.proofs.AnswerLemmas.{each_fault, each_value, of_each_cache, the_fault, Said}
use Rattle.chains.specs.declared.spans.LeafSpan.{LeafSpan}
use Rattle.boxsearch.specs.Beside.{with_cache}
use Rattle.boxsearch.proofs.ResultLemmas.{on_err}

-- the pages of a tree say what they said; page 0 and those that say nothing of one may have changed, and there may be more
pub record IsBeside (old new : Cache) : Type 0 where
  pub faithful : new.store.is_faithful ≡ old.store.is_faithful
  pub length : KeepsLength old new
  pub tree : IsTrue old.store.is_faithful → IsSameTree (pages_of_cache old) (pages_of_cache new)

map_none : {X Y : Type 0} (f : X → Y) (o : Option X) → option_map f o ≡ None → o ≡ None
map_none f None e = refl
map_none f (Some x) e = absurd cc

none_before : (o p : Option Payload) → (o ≢ None → p ≢ None) → p ≡ None → option_map node_of o ≡ None
none_before None p u e = refl
none_before (Some x) p u e = absurd (u (some_none x) e)

module _ (old : IndexView) (c : Cache) (known : List (List LeafSpan)) (b : IsBeside old.cache c) where
  beside_found : (meets : BoxView → Bool) → legs_by meets (with_cache old c known) ≡ legs_by meets old
  beside_found meets =
      ap (λ b. cond b (found_legs meets (pages_of_cache c) old.tree) []) b.faithful ∙
      (elim old.cache.store.is_faithful as (λ b. old.cache.store.is_faithful ≡ b → cond b (found_legs meets (pages_of_cache c) old.tree) [] ≡ cond b (found_legs meets (pages_of_cache old.cache) old.tree) []) [
        | true ↦ λ f. same_found (pages_of_cache old.cache) (pages_of_cache c) (b.tree f) old.tree meets
        | false ↦ λ f. refl
      ]) refl

  pub beside_content : content (with_cache old c known) ≡ content old
  beside_content = beside_found (λ _. true)

  pub beside_sound : IsSoundIndex old → IsSoundIndex (with_cache old c known)
  beside_sound s =
      let legs = beside_content in
      record {
        faithful = b.faithful ∙ s.faithful;
        works = s.works;
        shape = s.shape;
        count = b.length s.count;
        pages = s.pages;
        stands = subst (λ l. Stands (pages_of_cache c) old.tree l s.pages) (sym legs) (still_stands (pages_of_cache old.cache) (pages_of_cache c) (b.tree s.faithful) old.tree (content old) s.pages s.stands);
        lawful = subst (λ l. All IsLeg l) (sym legs) s.lawful;
        counted = s.counted ∙ sym (ap length legs);
        features = s.features ∙ sym (ap feature_count legs);
        placed = λ f place e. subst (λ l. IsPlace old.tree l s.pages f place) (sym legs) (s.placed f place e);
      }

-- and no index is said to be spent
abbrev NotSpent : IndexFault → Type 0
NotSpent index.Memory = Unit {0}
NotSpent index.Store = Unit {0}
NotSpent (index.Damaged n) = Unit {0}
NotSpent index.StoreFull = Unit {0}
NotSpent index.Spent = ⊥

never_spent : (a b : Cache) (fault : CacheFault) → IsNotMarked a b fault → NotSpent (of_cache fault)
never_spent a b = of_each_cache (λ fault. IsNotMarked a b fault → NotSpent (of_cache fault)) (λ h. tt) (λ h. tt) (λ n h. tt) (λ h. tt) (λ h. tt)

-- and no store to be full
abbrev NotFull : IndexFault → Type 0
NotFull index.Memory = Unit {0}
NotFull index.Store = Unit {0}
NotFull (index.Damaged n) = Unit {0}
NotFull index.StoreFull = ⊥
NotFull index.Spent = Unit {0}

never_full : (a b : Cache) (fault : CacheFault) → IsNotMarked a b fault → NotFull (of_cache fault)
never_full a b = of_each_cache (λ fault. IsNotMarked a b fault → NotFull (of_cache fault)) (λ h. tt) (λ h. tt) (λ n h. tt) (λ h. h) (λ h. tt)

module _ (old : IndexView) (c : Cache) (known : List (List LeafSpan)) (m : Marks old.cache c) where
  abbrev new : IndexView
  new = with_cache old c known

  -- a page 0 without a payload had none
  first_none : IsTrue old.cache.store.is_faithful → option_map node_of (payload_of c 0) ≡ None → option_map node_of (payload_of old.cache 0) ≡ None
  first_none f e = none_before (payload_of old.cache 0) (payload_of c 0) (m.held f) (map_none node_of (payload_of c 0) e)

  beside : IsBeside old.cache c
  beside = record {
    faithful = m.store.faithful;
    length = λ e. m.count ∙ e ∙ sym m.length;
    tree = λ f. record {
      count = (let n = m.count in omega (arith, n));
      held = λ p l e. (
        (let n = m.count in omega (arith, n, l)),
        ⊎_elim
            (λ (h : 0 < p). ap (option_map node_of) (sym (m.rest f p h)) ∙ e)
            (λ (h : p ≤ 0). let z : 0 ≡ p = omega (arith, h) in ap (pages_of_cache old.cache).at (sym z) ∙ first_none f (ap (pages_of_cache c).at z ∙ e))
            (cases_lt 0 p),
      );
      rest = λ p h. ap (λ o. node_in (option_map node_of o)) (m.rest f p h);
    };
  }

  same_content : content new ≡ content old
  same_content = beside_content old c known beside

  still_sound : IsSoundIndex old → IsSoundIndex new
  still_sound = beside_sound old c known beside

  written_is : (i : IndexView) → IsTrue i.cache.store.is_faithful → written i ≡ pages_as_written i.cache
  written_is i f = ap (λ b. cond b (pages_as_written i.cache) []) f

  pub starts : (r : Result (Unit {0}) CacheFault) → OnOk r (IsTrue old.cache.store.is_faithful → IsMarked c)
      → OnErr r (IsTrue old.cache.store.is_faithful → IsClean old.cache → drop 1 (pages_as_written c) ≡ drop 1 (pages_as_written old.cache))
      → OnErr r (IsTrue old.cache.store.is_faithful → IsClean old.cache → (Faulted old.cache.store c.store → ⊥) → pages_as_written c ≡ pages_as_written old.cache)
      → OnOk r (IsTrue old.cache.store.is_faithful → (IsMarked old.cache → ⊥) → IsSynced c.store) → IfErr r (IsNotMarked old.cache c) → Starts words old new (answered (λ fault. of_cache fault) r)
  starts r marked others first synced caused = record {
    content = same_content;
    sound = still_sound;
    spent = refl;
    later = record { plan = refl; faults = m.store.faults; asked = (let a = m.asked in omega (arith, clamps, a)); faithful = λ fa. m.store.faithful ∙ fa };
    marks = each_value (λ fault. of_cache fault) (λ _. IsTrue old.cache.store.is_faithful → IsMarked c) r marked;
    marked = m.stays;
    synced = each_value (λ fault. of_cache fault) (λ _. IsTrue old.cache.store.is_faithful → (IsMarked old.cache → ⊥) → IsSynced c.store) r synced;
    works = λ e. absurd (the_fault (answered (λ fault. of_cache fault) r) NotSpent index.Spent e (each_fault (λ fault. of_cache fault) (IsNotMarked old.cache c) NotSpent (never_spent old.cache c) r caused));
    roomy = λ e. the_fault (answered (λ fault. of_cache fault) r) NotFull index.StoreFull e (each_fault (λ fault. of_cache fault) (IsNotMarked old.cache c) NotFull (never_full old.cache c) r caused);
    others = each_fault (λ fault. of_cache fault) (λ _. IsTrue old.cache.store.is_faithful → IsClean old.cache → drop 1 (written new) ≡ drop 1 (written old)) (λ _. IsTrue old.cache.store.is_faithful → IsClean old.cache → drop 1 (written new) ≡ drop 1 (written old)) (λ x h. h) r
        (on_err r (λ h fa clean. ap (drop 1) (written_is new (m.store.faithful ∙ fa)) ∙ h fa clean ∙ sym (ap (drop 1) (written_is old fa))) others);
    first = each_fault (λ fault. of_cache fault) (λ _. IsTrue old.cache.store.is_faithful → IsClean old.cache → (HasRisen old.cache.store.faults c.store.faults → ⊥) → written new ≡ written old) (λ _. IsTrue old.cache.store.is_faithful → IsClean old.cache → (HasRisen old.cache.store.faults c.store.faults → ⊥) → written new ≡ written old) (λ x h. h) r
        (on_err r (λ h fa clean risen. written_is new (m.store.faithful ∙ fa) ∙ h fa clean risen ∙ sym (written_is old fa)) first);
  }

-- why page 0 is not marked
not_marked_said : (a b : Cache) (fault : CacheFault) → IsNotMarked a b fault → Said a b (of_cache fault)
not_marked_said a b = of_each_cache (λ fault. IsNotMarked a b fault → Said a b (of_cache fault)) (λ h. tt) (λ h. h) (λ n h. tt) (λ h. h) (λ h. tt)

not_marked_allowed : (old : IndexView) (c : Cache) (fault : CacheFault) → IsNotMarked old.cache c fault → IsSoundIndex old → MayRefuse (of_cache fault)
not_marked_allowed old c cache.NoPage h s = absurd (let t = s.stands.tree_stands.numbers.page_0 in let l = h.0 in omega (arith, t, l))
not_marked_allowed old c cache.Store h s = tt
not_marked_allowed old c (cache.Damaged n) h s = s.stands.tree_stands.held 0 s.stands.tree_stands.numbers.page_0 (ap (option_map node_of) (h.1 s.faithful))
not_marked_allowed old c cache.StoreFull h s = h
not_marked_allowed old c cache.Memory h s = tt

pub mark_refusals : (old : IndexView) (c : Cache) (known : List (List LeafSpan)) (r : Result (Unit {0}) CacheFault) → old.tree.spent ≡ false → IfErr r (IsNotMarked old.cache c) → Refusals words old (with_cache old c known) (answered (λ fault. of_cache fault) r)
mark_refusals old c known r works caused =
    let said = each_fault (λ fault. of_cache fault) (IsNotMarked old.cache c) (Said old.cache c) (not_marked_said old.cache c) r caused in
    record {
      was_spent = λ e. absurd (true≢false (sym e ∙ works));
      sound = each_fault (λ fault. of_cache fault) (IsNotMarked old.cache c) (λ fault. IsSoundIndex old → MayRefuse fault) (not_marked_allowed old c) r caused;
      store = λ e. the_fault (answered (λ fault. of_cache fault) r) (Said old.cache c) index.Store e said;
      full = λ e. the_fault (answered (λ fault. of_cache fault) r) (Said old.cache c) index.StoreFull e said;
    }
