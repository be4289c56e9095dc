-- How great the numbers of an index are, and how many legs its places count.
use Rattle.std.proofs.Common.{ℕ, zero, suc, ◌+◌, ◌^◌, ◌<◌, ◌≤◌, ◌≡◌, ◌≢◌, ◌==◌, false, cond, max, List, [], ◌∷◌, length, refl, sym, ap, ◌∙◌, arith, ⊎_elim, eq-eqb, All, IsTrue, None, Some, option_map, slice_get}
use Rattle.std.specs.Prelude.{fold}
use Rattle.std.specs.List.{count_by, sum_by}
use Rattle.std.proofs.lemmas.Bool.{cases_eq}
use Rattle.std.proofs.lemmas.Bool.Decides.{nat_tests}
use Rattle.std.proofs.lemmas.List.Elements.{All-nil, All-cons}
use Rattle.std.proofs.lemmas.List.Sums.{sum_by-cons}
use Rattle.legs.specs.Index.{is_of}
use Rattle.legs.specs.Legs.{LegView}
use Rattle.pagecache.specs.Cache.{Cache, payload_of}
use Rattle.tbnode.specs.Form.{node_of}
use Rattle.tbtree.specs.Descent.{node_in}
use Rattle.tbtree.specs.Nodes.{pages_of_cache}
use Rattle.tbtree.specs.declared.tree.Place.{Place}
use Rattle.tbtree.proofs.LimitLemmas as tree
use Rattle.boxsearch.specs.Index.{IndexView, content, IsSoundIndex}
use Rattle.boxsearch.proofs.StartLemmas.{IsBeside}

-- the root and each place are among its pages, which are at least its leaves, and it has few levels
pub record IsBounded (index : IndexView) : Type 0 where
  pub root : index.tree.root < index.cache.count
  pub leaves : index.tree.leaves ≤ index.cache.count
  pub levels : index.tree.levels ≤ 32
  pub places : All (λ place. (place.first < index.cache.count) × (place.last < index.cache.count)) index.places

all_at : {X : Type 0} (P : X → Type 0) (xs : List X) → ((i : ℕ) (x : X) → slice_get xs i ≡ Some x → P x) → All P xs
all_at P [] h = All-nil P
all_at P (x ∷ xs) h = All-cons P x xs (h 0 x refl) (all_at P xs (λ i. h (suc i)))

module _ (index : IndexView) (s : IsSoundIndex index) where
  place_is : (f : ℕ) (place : Place) → slice_get index.places f ≡ Some place → tree.IsBoundedPlace (pages_of_cache index.cache) (content index) f place
  place_is f place e = tree.bounded_place (pages_of_cache index.cache) index.tree (content index) s.pages f place s.stands (s.placed f place e)

  pub bounded : length (content index) ≤ 2 ^ 31 → IsBounded index
  bounded few =
      let b = tree.bounded (pages_of_cache index.cache) index.tree (content index) s.pages s.shape s.stands in
      record {
        root = b.root;
        leaves = b.leaves;
        levels = b.levels few;
        places = all_at (λ (place : Place). (place.first < index.cache.count) × (place.last < index.cache.count)) index.places (λ f place e. ((place_is f place e).first, (place_is f place e).last));
      }

  pub place_counts : (f : ℕ) (place : Place) → slice_get index.places f ≡ Some place → place.legs ≡ count_by (is_of f) (content index)
  place_counts f place e = (place_is f place e).legs_are

  pub first_there : 0 < index.cache.count
  first_there = s.stands.tree_stands.numbers.page_0

  pub first_held : payload_of index.cache 0 ≢ None
  first_held e = s.stands.tree_stands.held 0 first_there (ap (option_map node_of) e)

-- how many legs n features have, from f on
in_all : ℕ → ℕ → List LegView → ℕ
in_all f zero legs = 0
in_all f (suc n) legs = count_by (is_of f) legs + in_all (suc f) n legs

by_places : (legs : List LegView) (f : ℕ) (places : List Place) → ((i : ℕ) (place : Place) → slice_get places i ≡ Some place → place.legs ≡ count_by (is_of (f + i)) legs)
    → sum_by (λ (place : Place). place.legs) places ≡ in_all f (length places) legs
unfolding in_all
by_places legs f [] h = refl
by_places legs f (place ∷ places) h =
    let here : place.legs ≡ count_by (is_of f) legs = h 0 place refl ∙ ap (λ k. count_by (is_of k) legs) (omega arith) in
    let on = by_places legs (suc f) places (λ i p e. h (suc i) p e ∙ ap (λ k. count_by (is_of k) legs) (omega arith)) in
    let c = sum_by-cons (λ (place : Place). place.legs) place places in
    omega (arith, here, on, c)

of_none : (f n : ℕ) → in_all f n [] ≡ 0
unfolding in_all
of_none f zero = refl
of_none f (suc n) = let on = of_none (suc f) n in omega (arith, on)

of_more : (f n : ℕ) (leg : LegView) (legs : List LegView) → in_all f n (leg ∷ legs) ≡ in_all f n (leg ∷ []) + in_all f n legs
unfolding in_all
of_more f zero leg legs = refl
of_more f (suc n) leg legs =
    let on = of_more (suc f) n leg legs in
    let a = sum_by-cons (λ leg. cond (is_of f leg) 1 0) leg legs in
    let b = sum_by-cons (λ leg. cond (is_of f leg) 1 0) leg [] in
    omega (arith, on, a, b)

one_of : (f : ℕ) (leg : LegView) → leg.feature ≡ f → count_by (is_of f) (leg ∷ []) ≡ 1
one_of f leg e = sum_by-cons (λ leg. cond (is_of f leg) 1 0) leg [] ∙ ap (λ b. cond b 1 0 + 0) (eq-eqb leg.feature f e)

none_of : (f : ℕ) (leg : LegView) → leg.feature ≢ f → count_by (is_of f) (leg ∷ []) ≡ 0
none_of f leg u = sum_by-cons (λ leg. cond (is_of f leg) 1 0) leg [] ∙ ap (λ b. cond b 1 0 + 0) (let other : (leg.feature == f) ≡ false = grind (arith, nat_tests, u) in other)

of_before : (f n : ℕ) (leg : LegView) → leg.feature < f → in_all f n (leg ∷ []) ≡ 0
unfolding in_all
of_before f zero leg h = refl
of_before f (suc n) leg h =
    let here = none_of f leg (λ e. (let z = e in omega (arith, z, h))) in
    let on = of_before (suc f) n leg (omega (arith, h)) in
    omega (arith, here, on)

of_one : (f n : ℕ) (leg : LegView) → f ≤ leg.feature → leg.feature < f + n → in_all f n (leg ∷ []) ≡ 1
unfolding in_all
of_one f zero leg low high = absurd (omega (arith, low, high))
of_one f (suc n) leg low high =
    ⊎_elim
    (λ (e : leg.feature ≡ f). let here = one_of f leg e in let on = of_before (suc f) n leg (omega (arith, e)) in omega (arith, here, on))
    (λ (u : leg.feature ≢ f). let here = none_of f leg u in let on = of_one (suc f) n leg (omega (arith, low, u)) (omega (arith, high)) in omega (arith, here, on))
    (cases_eq leg.feature f)

-- each leg is of one of the features
most_above : (legs : List LegView) (n m : ℕ) → m ≤ n → m ≤ fold (λ count leg. max count (leg.feature + 1)) n legs
most_above [] n m h = h
most_above (leg ∷ legs) n m h = most_above legs (max n (leg.feature + 1)) m (omega arith)

of_each : (n : ℕ) (legs : List LegView) (a : ℕ) → fold (λ count leg. max count (leg.feature + 1)) a legs ≤ n → in_all 0 n legs ≡ length legs
of_each n [] a h = of_none 0 n
of_each n (leg ∷ legs) a h =
    let b = max a (leg.feature + 1) in
    let most : leg.feature + 1 ≤ fold (λ count leg. max count (leg.feature + 1)) b legs = most_above legs b (leg.feature + 1) (omega arith) in
    let here = of_one 0 n leg (omega arith) (omega (arith, most, h)) in
    let on = of_each n legs b h in
    let c = of_more 0 n leg legs in
    omega (arith, here, on, c)

pub all_counted : (index : IndexView) → IsSoundIndex index → sum_by (λ (place : Place). place.legs) index.places ≡ length (content index)
all_counted index s =
    by_places (content index) 0 index.places (λ f place e. place_counts index s f place e ∙ ap (λ k. count_by (is_of k) (content index)) (omega arith))
    ∙ of_each (length index.places) (content index) 0 (let n = s.features in omega (arith, n))

-- pages with the payloads that they had say what they said
pub alike : (old new : Cache) → new.store.is_faithful ≡ old.store.is_faithful → new.count ≡ old.count → new.store.count ≡ old.store.count
    → (IsTrue old.store.is_faithful → (n : ℕ) → payload_of new n ≡ payload_of old n) → IsBeside old new
alike old new faithful count length payloads = record {
  faithful = faithful;
  length = λ e. count ∙ e ∙ sym length;
  tree = λ f. record {
    count = omega (arith, count);
    held = λ p l e. (omega (arith, count, l), ap (option_map node_of) (sym (payloads f p)) ∙ e);
    rest = λ p h. ap (λ o. node_in (option_map node_of o)) (payloads f p);
  };
}
