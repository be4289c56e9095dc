-- The legs of a feature, by its place.
use Rattle.std.proofs.Common.{ℕ, ◌≡◌, ◌≤◌, ◌<◌, ◌+◌, ◌-◌, ◌^◌, min, refl, sym, ap, ◌∙◌, arith, eqb, false, cond, List, [], ◌∷◌, length, max, Some, None, slice_get, get_or, ⊎_elim, IsTrue, Result}
use Rattle.std.specs.Prelude.{IfOk, IfErr, OnOk, fold}
use Rattle.std.specs.Int.{div_ceil}
use Rattle.std.proofs.Math.Nat.{zero-div, zero-mod}
use Rattle.std.proofs.lemmas.Bool.{cases_lt, true≢false}
use Rattle.std.proofs.lemmas.Bool.Decides.{nat_tests}
use Rattle.std.proofs.lemmas.Int.{clamps}
use Rattle.std.proofs.lemmas.Option.{slice_get-get_or}
use Rattle.legs.specs.Asking.{Refusals}
use Rattle.legs.specs.Costs.{RisesBy, RisesAtMost, track_cost}
use Rattle.legs.specs.Index.{MayRefuse, legs_of, feature_count}
use Rattle.legs.specs.Legs.{LegView}
use Rattle.legs.specs.declared.index.IndexFault.TheVariants as index
use Rattle.pagecache.specs.Cache.{Cache}
use Rattle.chains.specs.Trajectory.{HasFeature}
use Rattle.tbtree.specs.Faults.{GivesRead, MayRefuseRead, RefusesRead}
use Rattle.tbtree.specs.Nodes.{pages_of_cache}
use Rattle.tbtree.specs.Stands.{no_place}
use Rattle.tbtree.specs.declared.fault.TreeFault.{TreeFault}
use Rattle.tbtree.specs.declared.tree.Place.{Place}
use Rattle.boxsearch.specs.Answers.{answered, of_tree}
use Rattle.boxsearch.specs.Index.{IndexView, words, content, IsSoundIndex}
use Rattle.boxsearch.proofs.AnswerLemmas.{each_fault, each_value, faults_of, values_of, the_fault, under, under_ok, Said, read_said, read_allowed}
use Rattle.chains.specs.declared.spans.LeafSpan.{LeafSpan}
use Rattle.boxsearch.specs.Beside.{with_cache}
use Rattle.boxsearch.proofs.PlaceLemmas.{some_none}

-- a place of a sound index is its feature's
pub has_feature : (i : IndexView) (f : ℕ) (place : Place) → IsSoundIndex i → slice_get i.places f ≡ Some place → HasFeature (pages_of_cache i.cache) i.tree.shape place f (content i)
has_feature i f place s e = record { tree = i.tree; pages = s.pages; shape_is = refl; stands = s.stands; placed = s.placed f place e }

-- a feature that is not there has no leg
fold_most : (legs : List LegView) (n m : ℕ) → m ≤ n → m ≤ fold (λ count leg. max count (leg.feature + 1)) n legs
fold_most [] n m h = h
fold_most (leg ∷ legs) n m h = fold_most legs (max n (leg.feature + 1)) m (omega arith)

fold_none : (legs : List LegView) (n f : ℕ) → fold (λ count leg. max count (leg.feature + 1)) n legs ≤ f → legs_of f legs ≡ []
fold_none [] n f h = refl
fold_none (leg ∷ legs) n f h =
    let most = fold_most legs (max n (leg.feature + 1)) (max n (leg.feature + 1)) (omega arith) in
    let other : eqb leg.feature f ≡ false = grind (arith, nat_tests) in
    ap (λ b. cond b (leg ∷ legs_of f legs) (legs_of f legs)) other ∙ fold_none legs (max n (leg.feature + 1)) f h

pub no_legs : (legs : List LegView) (f : ℕ) → feature_count legs ≤ f → legs_of f legs ≡ []
no_legs legs f h = fold_none legs 0 f h

-- a count of asks that stops at its end
pub rises_capped : (a b cost : ℕ) → RisesBy a b cost → RisesBy (min a (2 ^ 64 - 1)) (min b (2 ^ 64 - 1)) cost
rises_capped a b cost h below = (let e = h (omega (arith, clamps, below)) in omega (arith, clamps, e, below))

pub rises_capped_most : (a b bound : ℕ) → RisesAtMost a b bound → RisesAtMost (min a (2 ^ 64 - 1)) (min b (2 ^ 64 - 1)) bound
rises_capped_most a b bound h = omega (arith, clamps, h)

none_ceil : (n : ℕ) → 0 < n → div_ceil 0 n ≡ 0
none_ceil n h = (λ i. zero-div n i + min 1 (zero-mod n i))

module _ {A : Type 0} (i : IndexView) (f : ℕ) (place : Place) (c : Cache) (r : Result A TreeFault) (found : slice_get i.places f ≡ Some place) where
  pub track_found : (P : List LegView → ℕ → A → Type 0)
      → (IsTrue i.cache.store.is_faithful → (legs : List LegView) → HasFeature (pages_of_cache i.cache) i.tree.shape place f legs → GivesRead r (P legs f))
      → IfOk (answered (λ fault. of_tree fault) r) (λ value. IsSoundIndex i → P (content i) f value)
  track_found P gives =
      each_value (λ fault. of_tree fault) (λ value. IsSoundIndex i → P (content i) f value) r
      (under_ok (P (content i) f) r (λ s. values_of (P (content i) f) MayRefuseRead r (gives s.faithful (content i) (has_feature i f place s found))))

  pub track_asked : (Q : List LegView → ℕ → Type 0)
      → (IsTrue i.cache.store.is_faithful → (legs : List LegView) → HasFeature (pages_of_cache i.cache) i.tree.shape place f legs → OnOk r (Q legs f))
      → OnOk (answered (λ fault. of_tree fault) r) (IsSoundIndex i → Q (content i) f)
  track_asked Q asked =
      each_value (λ fault. of_tree fault) (λ value. IsSoundIndex i → Q (content i) f) r
      (under_ok (λ _. Q (content i) f) r (λ s. asked s.faithful (content i) (has_feature i f place s found)))

  -- why a retrieval is refused
  pub track_refusals : (known : List (List LeafSpan)) (P : List LegView → ℕ → A → Type 0) → i.tree.spent ≡ false
      → (IsTrue i.cache.store.is_faithful → (legs : List LegView) → HasFeature (pages_of_cache i.cache) i.tree.shape place f legs → GivesRead r (P legs f))
      → IfErr r (RefusesRead i.cache c) → Refusals words i (with_cache i c known) (answered (λ fault. of_tree fault) r)
  track_refusals known P works gives caused =
      let said = each_fault (λ fault. of_tree fault) (RefusesRead i.cache c) (Said i.cache c) (read_said i.cache c) r caused in
      record {
        was_spent = λ e. absurd (true≢false (sym e ∙ works));
        sound = each_fault (λ fault. of_tree fault) (λ fault. IsSoundIndex i → MayRefuseRead fault) (λ fault. IsSoundIndex i → MayRefuse fault) (λ x h s. read_allowed x (h s)) r
            (under MayRefuseRead r (λ s. faults_of (P (content i) f) MayRefuseRead r (gives s.faithful (content i) (has_feature i f place s found))));
        store = λ e. the_fault (answered (λ fault. of_tree fault) r) (Said i.cache c) index.Store e said;
        full = λ e. the_fault (answered (λ fault. of_tree fault) r) (Said i.cache c) index.StoreFull e said;
      }

-- no place, no leg
pub absent : (i : IndexView) (f : ℕ) → IsSoundIndex i → slice_get i.places f ≡ None → legs_of f (content i) ≡ []
absent i f s e =
    no_legs (content i) f
    (⊎_elim
    (λ (l : f < length i.places). absurd (some_none (get_or i.places f no_place) (sym (slice_get-get_or i.places f no_place l) ∙ e)))
    (λ (l : length i.places ≤ f). let n = s.features in omega (arith, n, l))
    (cases_lt f (length i.places)))

pub absent_cost : (i : IndexView) (f : ℕ) → IsSoundIndex i → slice_get i.places f ≡ None → track_cost f (Some i.tree.shape) (content i) ≡ 0
unfolding track_cost
absent_cost i f s e = ap (λ l. div_ceil (length l) i.tree.shape.leaf) (absent i f s e) ∙ none_ceil i.tree.shape.leaf (let least = s.shape.least_leaf in omega (arith, least))
