-- How great the numbers of a tree and of its places are.
use Rattle.std.proofs.Common.{ℕ, suc, ◌-◌, ◌^◌, ◌<◌, ◌≤◌, ◌≡◌, ◌==◌, true, false, cond, List, [], ◌∷◌, ◌++◌, length, map, take, refl, sym, arith, subst, ⊎_elim, Some, slice_get}
use Rattle.std.specs.List.{count_by, filter}
use Rattle.legs.specs.Index.{is_of}
use Rattle.std.proofs.Math.Nat.{pow-le-pow_left, pow-le-pow_right}
use Rattle.std.proofs.lemmas.Bool.{cases_lt}
use Rattle.legs.specs.Blocks.{begins, level, runs_after, same}
use Rattle.legs.specs.Boxes.{BoxView}
use Rattle.legs.specs.Costs.{leaves_of, leg_feature}
use Rattle.legs.specs.Legs.{LegView}
use Rattle.tbtree.specs.Insert.{Stands, IsPlace}
use Rattle.tbtree.specs.Nodes.{Pages}
use Rattle.tbtree.specs.Shape.{IsShape}
use Rattle.tbtree.specs.Stands.{NumbersStand, head_or_zero, last_or, marks, owner, pages_of}
use Rattle.tbtree.specs.declared.tree.Place.{Place}
use Rattle.tbtree.specs.declared.tree.TbTree.{TbTree}
use Rattle.tbtree.proofs.BeginLemmas.{zip-second}
use Rattle.tbtree.proofs.BoundLemmas.{few_leaves}
use Rattle.tbtree.proofs.LevelLemmas.{wide_level}
use Rattle.tbtree.proofs.PlaceLemmas.{as_many}

-- there is a page 0 and the root's page, no leaf without a page, and few levels where legs are few
pub record IsBounded (nodes : Pages LegView BoxView) (tree : TbTree)
    (legs : List LegView) : Type 0 where
  pub page_0 : 0 < nodes.count
  pub root : tree.root < nodes.count
  pub leaves : tree.leaves ≤ nodes.count
  pub levels : length legs ≤ 2 ^ 31 → tree.levels ≤ 32

-- the place of the feature f: its pages are there, and it counts the legs of the feature
pub record IsBoundedPlace (nodes : Pages LegView BoxView) (legs : List LegView) (f : ℕ)
    (place : Place) : Type 0 where
  pub first : place.first < nodes.count
  pub last : place.last < nodes.count
  pub legs_are : place.legs ≡ count_by (is_of f) legs

-- there are no more runs than elements
runs_within : {X : Type 0} (key : X → ℕ) (n : ℕ) (before xs : List X) → length (runs_after key n before xs) ≤ length xs
runs_within key n before [] = omega arith
runs_within key n before (x ∷ xs) =
    let rest = runs_after key n (before ++ x ∷ []) xs in
    let on : length rest ≤ length xs = runs_within key n (before ++ x ∷ []) xs in
    (elim (begins key n before x) as (λ b. length (cond b (take n (x ∷ filter (same key n x) xs) ∷ rest) rest) ≤ suc (length xs)) [
      | true ↦ omega (arith, on)
      | false ↦ omega (arith, on)
    ])

module _ {L : Type 0} (inner levels root count : ℕ) (rs : List (List L)) (pages : ℕ → List ℕ) (n : NumbersStand inner levels root count rs pages) where
  root_below : root < count
  root_below =
      ⊎_elim
      (λ (h : 0 < levels). let e : suc (levels - 1) ≡ levels = omega (arith, h) in (n.within (levels - 1) 0 root (n.top (levels - 1) e).1).1)
      (λ (h : levels ≤ 0). let z : levels ≡ 0 = omega (arith, h) in subst (λ p. p < count) (sym (n.empty z).1) n.page_0)
      (cases_lt 0 levels)

  -- more than 32 levels need more than 2^31 runs
  few_levels : 2 ≤ inner → length rs ≤ 2 ^ 31 → levels ≤ 32
  few_levels wide few =
      ⊎_elim
      (λ (h : 32 < levels).
      let k = levels - 2 in
      let many : 1 < length (level inner k rs) = n.below_top k (omega (arith, h)) in
      let some : 0 < length rs = ⊎_elim (λ (s : 0 < length rs). s) (λ (s : length rs ≤ 0). absurd (let w = runs_within (λ _. 0) (inner ^ k) [] rs in omega (arith, w, s, many))) (cases_lt 0 (length rs)) in
      let wider : inner ^ k < length rs = wide_level (inner ^ k) rs some many in
      let power : 2 ^ k ≤ inner ^ k = pow-le-pow_left wide k in
      let least : 2 ^ 31 ≤ 2 ^ k = pow-le-pow_right {n = 2} (omega arith) {i = 31} {j = k} (omega (arith, h)) in
      absurd (omega (arith, wider, power, least, few)))
      (λ (h : levels ≤ 32). h)
      (cases_lt 32 levels)

pub bounded : (nodes : Pages LegView BoxView) (tree : TbTree) (legs : List LegView) (pages : ℕ → List ℕ) → IsShape tree.shape → Stands nodes tree legs pages → IsBounded nodes tree legs
bounded nodes tree legs pages shape st =
    let n = st.tree_stands.numbers in
    let rs = leaves_of tree.shape legs in
    let inner = tree.shape.inner in
    record {
      page_0 = n.page_0;
      root = root_below inner tree.levels tree.root nodes.count rs pages n;
      leaves =
          (let l = st.leaves_are in
          let m = as_many inner tree.levels tree.root nodes.count rs pages n in
          let f = few_leaves inner tree.levels tree.root nodes.count rs pages n in
          omega (arith, l, m, f));
      levels = λ few. few_levels inner tree.levels tree.root nodes.count rs pages n shape.least_inner (let w = runs_within leg_feature tree.shape.leaf [] legs in omega (arith, w, few));
    }

-- each page of a feature is one of those marked
module _ (f c : ℕ) where
  last_below : (d : ℕ) (ms : List (ℕ × ℕ)) → ((i : ℕ) (m : ℕ × ℕ) → slice_get ms i ≡ Some m → m.1 < c) → d < c → last_or d (pages_of f ms) < c
  last_below d [] h l = l
  last_below d (m ∷ ms) h l =
      (elim (m.0 == f) as (λ b. last_or d (cond b (m.1 ∷ pages_of f ms) (pages_of f ms)) < c) [
        | true ↦ last_below (m.1) ms (λ i. h (suc i)) (h 0 m refl)
        | false ↦ last_below d ms (λ i. h (suc i)) l
      ])

  head_below : (ms : List (ℕ × ℕ)) → ((i : ℕ) (m : ℕ × ℕ) → slice_get ms i ≡ Some m → m.1 < c) → 0 < c → head_or_zero (pages_of f ms) < c
  head_below [] h l = l
  head_below (m ∷ ms) h l =
      (elim (m.0 == f) as (λ b. head_or_zero (cond b (m.1 ∷ pages_of f ms) (pages_of f ms)) < c) [
        | true ↦ h 0 m refl
        | false ↦ head_below ms (λ i. h (suc i)) l
      ])

pub bounded_place : (nodes : Pages LegView BoxView) (tree : TbTree) (legs : List LegView) (pages : ℕ → List ℕ) (f : ℕ) (place : Place) → Stands nodes tree legs pages → IsPlace tree legs pages f place → IsBoundedPlace nodes legs f place
bounded_place nodes tree legs pages f place st is =
    let n = st.tree_stands.numbers in
    let ms = marks leg_feature (leaves_of tree.shape legs) (pages 0) in
    let below : (i : ℕ) (m : ℕ × ℕ) → slice_get ms i ≡ Some m → m.1 < nodes.count = λ i m e. (n.within 0 i (m.1) (zip-second (map (owner leg_feature) (leaves_of tree.shape legs)) (pages 0) i m e)).1 in
    record {
      first = subst (λ p. p < nodes.count) (sym is.first) (head_below f nodes.count ms below n.page_0);
      last = subst (λ p. p < nodes.count) (sym is.last) (last_below f nodes.count 0 ms below n.page_0);
      legs_are = is.legs_are;
    }
