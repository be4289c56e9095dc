-- What a question about a feature answers and leaves, by what the walk of its chain does.
use Rattle.std.proofs.Common.{Result, ℕ, ◌≡◌, ◌<◌, ◌-◌, ◌^◌, min, false, List, length, map, set, get_or, sym, ap, ◌∙◌, subst, Option, Some, slice_get, IsTrue}
use Rattle.std.specs.Prelude.{IfOk, IfErr, OnOk}
use Rattle.legs.specs.Asking.{Leaves, Refusals}
use Rattle.legs.specs.Costs.{ShapeView}
use Rattle.legs.specs.Legs.{LegView}
use Rattle.pagecache.specs.Cache.{Cache}
use Rattle.tbtree.specs.Faults.{GivesRead, RefusesRead}
use Rattle.tbtree.specs.Nodes.{pages_of_cache}
use Rattle.tbtree.specs.declared.tree.Place.{Place}
use Rattle.chains.specs.Reads.{OnlyReads}
use Rattle.chains.specs.Spans.{IsKnown}
use Rattle.chains.specs.Trajectory.{HasFeature}
use Rattle.chains.specs.declared.spans.LeafSpan.{LeafSpan}
use Rattle.tbtree.specs.declared.fault.TreeFault.{TreeFault}
use Rattle.legs.specs.declared.index.IndexFault.{IndexFault}
use Rattle.boxsearch.specs.Answers.{answered, of_tree}
use Rattle.boxsearch.specs.Beside.{with_cache}
use Rattle.boxsearch.specs.Index.{IndexView, words, content, IsSoundIndex}
use Rattle.boxsearch.specs.Known.{AreKnown, Widens}
use Rattle.boxsearch.proofs.IndexLemmas.{reads_leave}
use Rattle.boxsearch.proofs.KnownLemmas.{known_after, known_of}
use Rattle.boxsearch.proofs.ResultLemmas.{of_same, on_ok}
use Rattle.boxsearch.proofs.TrackLemmas.{track_asked, track_found, track_refusals}

-- an index whose pages are only read is left
pub asked_leaves : {seen now : IndexView} → seen ≡ now → (new : Cache) (known : List (List LeafSpan)) → OnlyReads seen.cache new → Leaves words now (with_cache seen new known)
asked_leaves {seen = seen} view new known reads = subst (λ i. Leaves words i (with_cache seen new known)) view (reads_leave seen new known reads)

module _ {seen now : IndexView} (view : seen ≡ now) (f : ℕ) {o : Option Place} {place : Place} (there : o ≡ slice_get now.places f) (is : o ≡ Some place) where
  -- the place of the feature
  pub asked_place : slice_get seen.places f ≡ Some place
  asked_place = ap (λ (i : IndexView). slice_get i.places f) view ∙ sym there ∙ is

  module _ {A : Type 0} (r : Result A TreeFault) {answer : Result A IndexFault} (says : answer ≡ answered (λ fault. of_tree fault) r) where
    -- what a sound index answers
    pub asked_found : (P : List LegView → ℕ → A → Type 0)
        → (IsTrue seen.cache.store.is_faithful → (legs : List LegView) → HasFeature (pages_of_cache seen.cache) seen.tree.shape place f legs → GivesRead r (P legs f))
        → IfOk answer (λ value. IsSoundIndex now → P (content now) f value)
    asked_found P gives = of_same (λ i r. IfOk r (λ value. IsSoundIndex i → P (content i) f value)) view says (track_found seen f place seen.cache r asked_place P gives)

    -- how many pages it asks for
    pub asked_rises : (Rises : ℕ → ℕ → ℕ → Type 0) → ((a b cost : ℕ) → Rises a b cost → Rises (min a (2 ^ 64 - 1)) (min b (2 ^ 64 - 1)) cost) → (cost : ℕ → ShapeView → List LegView → ℕ) (new : ℕ)
        → (IsTrue seen.cache.store.is_faithful → (legs : List LegView) → HasFeature (pages_of_cache seen.cache) seen.tree.shape place f legs → OnOk r (Rises seen.cache.asked new (cost f seen.tree.shape legs)))
        → OnOk answer (IsSoundIndex now → Rises (min now.cache.asked (2 ^ 64 - 1)) (min new (2 ^ 64 - 1)) (cost f now.tree.shape (content now)))
    asked_rises Rises capped cost new asked =
        of_same (λ i r. OnOk r (IsSoundIndex i → Rises (min i.cache.asked (2 ^ 64 - 1)) (min new (2 ^ 64 - 1)) (cost f i.tree.shape (content i)))) view says
        (on_ok (answered (λ fault. of_tree fault) r) (λ rises s. capped seen.cache.asked new (cost f seen.tree.shape (content seen)) (rises s))
        (track_asked seen f place seen.cache r asked_place (λ legs feature. Rises seen.cache.asked new (cost feature seen.tree.shape legs)) asked))

    -- why it refuses
    pub asked_refusals : (new : Cache) (known : List (List LeafSpan)) (P : List LegView → ℕ → A → Type 0) → seen.tree.spent ≡ false
        → (IsTrue seen.cache.store.is_faithful → (legs : List LegView) → HasFeature (pages_of_cache seen.cache) seen.tree.shape place f legs → GivesRead r (P legs f))
        → IfErr r (RefusesRead seen.cache new) → Refusals words now (with_cache seen new known) answer
    asked_refusals new known P works gives caused =
        of_same (λ i r. Refusals words i (with_cache seen new known) r) view says (track_refusals seen f place new r asked_place known P works gives caused)

  module _ {V : Type 0} (items : V → List LeafSpan) (room : List V) (known : AreKnown seen.cache seen.tree.shape seen.places seen.known) (widens : Widens seen.known (map items room)) where
    -- what the walk may know of the feature
    pub asked_knows : (was : V) → f < length room → was ≡ get_or room f was → IsTrue seen.cache.store.is_faithful → IsKnown (pages_of_cache seen.cache) seen.tree.shape f place (items was)
    asked_knows = known_of items seen.cache seen.tree.shape seen.places seen.known room f place known widens asked_place

    -- what the index knows after it
    pub asked_known : (new : Cache) (v : V) → OnlyReads seen.cache new
        → ((old new : Cache) (shape : ShapeView) (g : ℕ) (place : Place) (spans : List LeafSpan) → OnlyReads old new → IsTrue old.store.is_faithful → IsKnown (pages_of_cache old) shape g place spans → IsKnown (pages_of_cache new) shape g place spans)
        → (IsTrue seen.cache.store.is_faithful → IsKnown (pages_of_cache seen.cache) seen.tree.shape f place (items v)) → AreKnown new seen.tree.shape seen.places (map items (set room f v))
    asked_known new v reads lasts =
        known_after items seen.cache seen.tree.shape seen.places seen.known room f place known widens asked_place new v reads (λ g other spans fa h. lasts seen.cache new seen.tree.shape g other spans reads fa h)
