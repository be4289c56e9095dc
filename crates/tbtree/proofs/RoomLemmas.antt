-- Where a leg begins no run, it goes to the end of the last run of its key, which has room.
use Rattle.std.proofs.Common.{ℕ, zero, suc, ◌+◌, ◌%◌, ◌<◌, ◌≤◌, ◌≡◌, ◌≢◌, ◌==◌, ◌/◌, ◌*◌, All, true, false, cond, ◌&&◌, nat_lt, List, [], ◌∷◌, ◌++◌, take, set, length, map, refl, sym, ap, ◌∙◌, arith, append_assoc, lt-ltb, le-ltb, eq-eqb, subst, ⊎_elim, Some, slice_get}
use Rattle.std.specs.List.{filter, count_by}
use Rattle.std.proofs.lemmas.List.Sums.{length-filter, sum_by-append, sum_by-cons}
use Rattle.std.proofs.Math.Nat.{add-mod_right, mod-eq_of_lt, mul-add-mod_self_right}
use Rattle.std.proofs.lemmas.Nat.{div-add-mod', mod_below}
use Rattle.std.proofs.lemmas.Bool.{cases_lt, cases_eq, eqb-true}
use Rattle.std.proofs.lemmas.List.{take_all, length-take-le, append-nil}
use Rattle.legs.specs.Blocks.{same, begins, runs_after, runs, grown}
use Rattle.tbtree.specs.Stands.{owner}
use Rattle.legs.proofs.BlockLemmas.{step_of_multiple, runs-push, runs_after-full}
use Rattle.legs.proofs.GroupLemmas.{some_none, some_same}
use Rattle.tbtree.proofs.Widening.{get-set_same, get-set_other}

pub neq-eqb : (a b : ℕ) → a ≢ b → (a == b) ≡ false
neq-eqb a b h = (elim (a == b) as (λ v. (a == b) ≡ v → v ≡ false) [ true ↦ λ e. absurd (h (eqb-true a b e)) | false ↦ λ e. refl ]) refl

-- k more, up to the next multiple
mod_more : (c k n : ℕ) → (c + k) % n ≡ (c % n + k) % n
mod_more c k n =
    let d : c / n * n + c % n ≡ c = div-add-mod' c n in
    ap (λ a. a % n) (let e : c + k ≡ c / n * n + (c % n + k) = omega (arith, d) in e) ∙ mul-add-mod_self_right (c / n) n (c % n + k)

pub mod_below_next : (c k n : ℕ) → c % n + k < n → (c + k) % n ≡ c % n + k
mod_below_next c k n l = mod_more c k n ∙ mod-eq_of_lt l

set_set : {X : Type 0} (xs : List X) (i : ℕ) (v w : X) → set (set xs i v) i w ≡ set xs i w
set_set [] i v w = refl
set_set (x ∷ xs) zero v w = refl
set_set (x ∷ xs) (suc i) v w = ap (λ l. x ∷ l) (set_set xs i v w)

pub set_same : {X : Type 0} (xs : List X) (i : ℕ) (v : X) → slice_get xs i ≡ Some v → set xs i v ≡ xs
set_same [] i v h = refl
set_same (x ∷ xs) zero v h = ap (λ z. z ∷ xs) (sym (some_same x v h))
set_same (x ∷ xs) (suc i) v h = ap (λ l. x ∷ l) (set_same xs i v h)

module _ {X : Type 0} (key : X → ℕ) (m : ℕ) where
  abbrev pub count : ℕ → List X → ℕ
  count f xs = count_by (λ z. key z == f) xs

  pub count_cons-same : (f : ℕ) (x : X) (xs : List X) → key x ≡ f → count f (x ∷ xs) ≡ 1 + count f xs
  count_cons-same f x xs e = sum_by-cons (λ z. cond (key z == f) 1 0) x xs ∙ ap (λ b. cond b 1 0 + count f xs) (eq-eqb _ _ e)

  pub count_cons-other : (f : ℕ) (x : X) (xs : List X) → key x ≢ f → count f (x ∷ xs) ≡ count f xs
  count_cons-other f x xs e = sum_by-cons (λ z. cond (key z == f) 1 0) x xs ∙ ap (λ b. cond b 1 0 + count f xs) (neq-eqb _ _ e) ∙ omega arith

  pub count_append : (f : ℕ) (xs ys : List X) → count f (xs ++ ys) ≡ count f xs + count f ys
  count_append f xs ys = sum_by-append (λ z. cond (key z == f) 1 0) xs ys

  pub push_same : (f : ℕ) (b : List X) (x : X) → key x ≡ f → count f (b ++ x ∷ []) ≡ count f b + 1
  push_same f b x e = count_append f b (x ∷ []) ∙ ap (λ k. count f b + k) (count_cons-same f x [] e ∙ omega arith)

  pub push_other : (f : ℕ) (b : List X) (x : X) → key x ≢ f → count f (b ++ x ∷ []) ≡ count f b
  push_other f b x e = count_append f b (x ∷ []) ∙ ap (λ k. count f b + k) (count_cons-other f x [] e) ∙ omega arith

  -- elements of one key
  pub count_all_same : (f : ℕ) (ys : List X) → All (λ y. key y ≡ f) ys → count f ys ≡ length ys
  count_all_same f [] all = refl
  count_all_same f (y ∷ ys) all = (let one = count_cons-same f y ys (all 0 y (omega arith)) in let more = count_all_same f ys (λ j d l. all (suc j) d (omega (arith, l))) in omega (arith, one, more))

  pub count_all_other : (f g : ℕ) (ys : List X) → f ≢ g → All (λ y. key y ≡ f) ys → count g ys ≡ 0
  count_all_other f g [] u all = refl
  count_all_other f g (y ∷ ys) u all = count_cons-other g y ys (λ e. u (sym (all 0 y (omega arith)) ∙ e)) ∙ count_all_other f g ys u (λ j d l. all (suc j) d (omega (arith, l)))

  abbrev Has : ℕ → List X → List X → Type 0
  Has f b xs = (j : ℕ) × (r : List X) × (slice_get (runs_after key (suc m) b xs) j ≡ Some r) × (owner key r ≡ f)

  -- one step further into the list
  has_more : (f : ℕ) (b : List X) (x : X) (xs : List X) → Has f (b ++ x ∷ []) xs → Has f b (x ∷ xs)
  has_more f b x xs h =
      elim (begins key (suc m) b x) as (λ v. (j : ℕ) × (r : List X) × (slice_get (cond v (take (suc m) (x ∷ filter (same key (suc m) x) xs) ∷ runs_after key (suc m) (b ++ x ∷ []) xs) (runs_after key (suc m) (b ++ x ∷ []) xs)) j ≡ Some r) × (owner key r ≡ f)) [
        | true ↦ (suc h.0, h.1, h.2, h.3)
        | false ↦ h
      ]

  -- a multiple of n that is passed begins a run
  run_exists : (f : ℕ) (b xs : List X) (d : ℕ) → (count f b + d) % suc m ≡ 0 → d < count f xs → Has f b xs
  run_exists f b [] d e l = absurd (omega (arith, l))
  run_exists f b (x ∷ xs) d e l =
      ⊎_elim
      (λ (k : key x ≡ f). (elim d as (λ d. (count f b + d) % suc m ≡ 0 → d < count f (x ∷ xs) → Has f b (x ∷ xs)) [
        | zero ↦ λ e l.
            let c : begins key (suc m) b x ≡ true = eq-eqb _ 0 (ap (λ g. count g b % suc m) k ∙ ap (λ n. n % suc m) (omega arith) ∙ e) in (
              0,
              (take (suc m) (x ∷ filter (same key (suc m) x) xs)),
              ap (λ v. slice_get (cond v (take (suc m) (x ∷ filter (same key (suc m) x) xs) ∷ runs_after key (suc m) (b ++ x ∷ []) xs) (runs_after key (suc m) (b ++ x ∷ []) xs)) 0) c,
              k,
            )
        | suc d' ↦ λ e l.
            has_more f b x xs (run_exists f (b ++ x ∷ []) xs d'
            (ap (λ n. n % suc m) (let p = push_same f b x k in omega (arith, p)) ∙ e)
            (let p = count_cons-same f x xs k in omega (arith, p, l)))
      ]) e l)
      (λ (k : key x ≢ f).
      has_more f b x xs (run_exists f (b ++ x ∷ []) xs d
      (ap (λ n. (n + d) % suc m) (push_other f b x k) ∙ e)
      (let p = count_cons-other f x xs k in omega (arith, p, l))))
      (cases_eq (key x) f)

  -- a run of a key begins at a multiple of n
  run_count : (f : ℕ) (b xs : List X) (j : ℕ) (r : List X) → slice_get (runs_after key (suc m) b xs) j ≡ Some r → owner key r ≡ f → (c : ℕ) × (c ≤ count f xs) × ((count f b + c) % suc m ≡ 0)
  run_count f b [] j r e o = absurd (some_none r (sym e))
  run_count f b (x ∷ xs) j r e o =
      let further : (j : ℕ) → slice_get (runs_after key (suc m) (b ++ x ∷ []) xs) j ≡ Some r → (c : ℕ) × (c ≤ count f (x ∷ xs)) × ((count f b + c) % suc m ≡ 0) = λ j e.
      let h = run_count f (b ++ x ∷ []) xs j r e o in
      ⊎_elim
      (λ (k : key x ≡ f). (1 + h.0, (let p = count_cons-same f x xs k in omega (arith, p, h.1)), ap (λ n. n % suc m) (let p = push_same f b x k in omega (arith, p)) ∙ h.2))
      (λ (k : key x ≢ f). (h.0, (let p = count_cons-other f x xs k in omega (arith, p, h.1)), ap (λ n. (n + h.0) % suc m) (sym (push_other f b x k)) ∙ h.2))
      (cases_eq (key x) f) in
      (elim (begins key (suc m) b x) as (λ v. begins key (suc m) b x ≡ v → slice_get (cond v (take (suc m) (x ∷ filter (same key (suc m) x) xs) ∷ runs_after key (suc m) (b ++ x ∷ []) xs) (runs_after key (suc m) (b ++ x ∷ []) xs)) j ≡ Some r → (c : ℕ) × (c ≤ count f (x ∷ xs)) × ((count f b + c) % suc m ≡ 0)) [
        | true ↦ λ v. elim j as (λ j. slice_get (take (suc m) (x ∷ filter (same key (suc m) x) xs) ∷ runs_after key (suc m) (b ++ x ∷ []) xs) j ≡ Some r → (c : ℕ) × (c ≤ count f (x ∷ xs)) × ((count f b + c) % suc m ≡ 0)) [
          | zero ↦ λ e.
              let k : key x ≡ f = ap (owner key) (some_same _ r e) ∙ o in
              (0, omega arith, ap (λ n. n % suc m) (omega arith) ∙ ap (λ g. count g b % suc m) (sym k) ∙ eqb-true _ 0 v)
          | suc j' ↦ λ e. further j' e
        ]
        | false ↦ λ v e. further j e
      ]) refl e

  grown_other : (y : X) (r : List X) → owner key r ≢ key y → grown key (suc m) y r ≡ r
  grown_other y [] h = refl
  grown_other y (x ∷ xs) h = ap (λ b. cond (b && nat_lt (length (x ∷ xs)) (suc m)) ((x ∷ xs) ++ y ∷ []) (x ∷ xs)) (neq-eqb (key y) (key x) (λ e. h (sym e)))

  grown_full : (y x : X) (xs : List X) → suc m ≤ length (x ∷ xs) → grown key (suc m) y (x ∷ xs) ≡ x ∷ xs
  grown_full y x xs h =
      ap (λ v. cond (same key (suc m) x y && v) ((x ∷ xs) ++ y ∷ []) (x ∷ xs)) (le-ltb _ _ h)
      ∙ (elim (same key (suc m) x y) as (λ b. cond (b && false) ((x ∷ xs) ++ y ∷ []) (x ∷ xs) ≡ x ∷ xs) [ true ↦ refl | false ↦ refl ])

  grown_room : (y x : X) (xs : List X) → key x ≡ key y → length (x ∷ xs) < suc m → grown key (suc m) y (x ∷ xs) ≡ (x ∷ xs) ++ y ∷ []
  grown_room y x xs k h =
      ap (λ b. cond (b && nat_lt (length (x ∷ xs)) (suc m)) ((x ∷ xs) ++ y ∷ []) (x ∷ xs)) (eq-eqb (key y) (key x) (sym k))
      ∙ ap (λ b. cond b ((x ∷ xs) ++ y ∷ []) (x ∷ xs)) (lt-ltb _ _ h)

  none_grown : (y : X) (rs : List (List X)) → ((j : ℕ) (r : List X) → slice_get rs j ≡ Some r → owner key r ≢ key y) → map (grown key (suc m) y) rs ≡ rs
  none_grown y [] h = refl
  none_grown y (r ∷ rs) h = λ i. grown_other y r (h 0 r refl) i ∷ none_grown y rs (λ j q e. h (suc j) q e) i

  true_false : true ≡ false → ⊥
  true_false e = subst (λ b. cond b (Unit {0}) ⊥) e tt

  -- the run of x has room, where no run of its key follows and y begins none
  room : (before xs : List X) (x y : X) → key x ≡ key y → begins key (suc m) before x ≡ true → begins key (suc m) (before ++ x ∷ xs) y ≡ false
      → ((j : ℕ) (r : List X) → slice_get (runs_after key (suc m) (before ++ x ∷ []) xs) j ≡ Some r → owner key r ≢ key y) → length (filter (same key (suc m) x) xs) < m
  room before xs x y k v n none =
      let F = filter (same key (suc m) x) xs in
      let lf : length F ≡ count (key x) xs = length-filter (same key (suc m) x) xs in
      let z : count (key x) before % suc m ≡ 0 = eqb-true _ 0 v in
      ⊎_elim (λ l. l)
      (λ (l : m ≤ length F). ⊎_elim
      (λ (e : length F ≡ m).
      let c : count (key x) (before ++ x ∷ xs) ≡ count (key x) before + suc m = count_append (key x) before (x ∷ xs) ∙ ap (λ n. count (key x) before + n) (count_cons-same (key x) x xs refl ∙ omega (arith, lf, e)) in
      let t : begins key (suc m) (before ++ x ∷ xs) y ≡ true = eq-eqb _ 0 (ap (λ f. count f (before ++ x ∷ xs) % suc m) (sym k) ∙ ap (λ n. n % suc m) c ∙ add-mod_right (count (key x) before) (suc m) ∙ z) in
      absurd (true_false (sym t ∙ n)))
      (λ (e : length F ≢ m).
      let h = run_exists (key x) (before ++ x ∷ []) xs m (ap (λ n. n % suc m) (let p = push_same (key x) before x refl in omega (arith, p)) ∙ add-mod_right (count (key x) before) (suc m) ∙ z) (omega (arith, lf, l, e)) in
      absurd (none h.0 h.1 h.2 (h.3 ∙ k)))
      (cases_eq (length F) m))
      (cases_lt (length F) m)

  grow_last : (before xs : List X) (y : X) (i : ℕ) (r : List X) → begins key (suc m) (before ++ xs) y ≡ false → slice_get (runs_after key (suc m) before xs) i ≡ Some r → owner key r ≡ key y
      → ((j : ℕ) (q : List X) → i < j → slice_get (runs_after key (suc m) before xs) j ≡ Some q → owner key q ≢ key y)
      → map (grown key (suc m) y) (runs_after key (suc m) before xs) ≡ set (runs_after key (suc m) before xs) i (r ++ y ∷ [])
  grow_last before [] y i r n e o none = absurd (some_none r (sym e))
  grow_last before (x ∷ xs) y i r n e o none =
      let F = filter (same key (suc m) x) xs in
      let R = take (suc m) (x ∷ F) in
      let rest = runs_after key (suc m) (before ++ x ∷ []) xs in
      let n' : begins key (suc m) ((before ++ x ∷ []) ++ xs) y ≡ false = ap (λ l. begins key (suc m) l y) (append_assoc before (x ∷ []) xs) ∙ n in
      (elim (begins key (suc m) before x) as (λ v. begins key (suc m) before x ≡ v → slice_get (cond v (R ∷ rest) rest) i ≡ Some r
      → ((j : ℕ) (q : List X) → i < j → slice_get (cond v (R ∷ rest) rest) j ≡ Some q → owner key q ≢ key y)
      → map (grown key (suc m) y) (cond v (R ∷ rest) rest) ≡ set (cond v (R ∷ rest) rest) i (r ++ y ∷ [])) [
        | true ↦ λ v. elim i as (λ i. slice_get (R ∷ rest) i ≡ Some r → ((j : ℕ) (q : List X) → i < j → slice_get (R ∷ rest) j ≡ Some q → owner key q ≢ key y) → map (grown key (suc m) y) (R ∷ rest) ≡ set (R ∷ rest) i (r ++ y ∷ [])) [
          | zero ↦ λ e none.
              let q : R ≡ r = some_same R r e in
              let k : key x ≡ key y = ap (owner key) q ∙ o in
              let none' : (j : ℕ) (r : List X) → slice_get rest j ≡ Some r → owner key r ≢ key y = λ j r e. none (suc j) r (omega arith) e in
              let l : length F < m = room before xs x y k v n none' in
              let t : take m F ≡ F = take_all m F (omega (arith, l)) in
              let g : grown key (suc m) y (x ∷ take m F) ≡ (x ∷ take m F) ++ y ∷ [] = grown_room y x (take m F) k (let u = ap length t in omega (arith, u, l)) in
              λ i. (g ∙ ap (λ l. l ++ y ∷ []) q) i ∷ none_grown y rest none' i
          | suc i' ↦ λ e none.
              let on : map (grown key (suc m) y) rest ≡ set rest i' (r ++ y ∷ []) = grow_last (before ++ x ∷ []) xs y i' r n' e o (λ j q l a. none (suc j) q (omega (arith, l)) a) in
              let g : grown key (suc m) y (x ∷ take m F) ≡ x ∷ take m F = ⊎_elim
              (λ (k : key x ≡ key y).
              let h = run_count (key x) (before ++ x ∷ []) xs i' r e (o ∙ sym k) in
              let z : count (key x) before % suc m ≡ 0 = eqb-true _ 0 v in
              let w : suc m ≤ 1 + h.0 = step_of_multiple (count (key x) before) (1 + h.0) (suc m) z (ap (λ n. n % suc m) (let p = push_same (key x) before x refl in omega (arith, p)) ∙ h.2) (omega arith) (omega arith) in
              let lf : length F ≡ count (key x) xs = length-filter (same key (suc m) x) xs in
              let lt : length (take m F) ≡ m = length-take-le m F (omega (arith, w, lf, h.1)) in
              grown_full y x (take m F) (omega (arith, lt)))
              (λ (k : key x ≢ key y). grown_other y (x ∷ take m F) k)
              (cases_eq (key x) (key y)) in
              λ i. g i ∷ on i
        ]
        | false ↦ λ v e none. grow_last (before ++ x ∷ []) xs y i r n' e o none
      ]) refl e none

-- a leg that begins no run goes to the end of the last run of its key
pub runs_last : {X : Type 0} (key : X → ℕ) (n : ℕ) (xs : List X) (y : X) (i : ℕ) (r : List X) → 0 < n → begins key n xs y ≡ false → slice_get (runs key n xs) i ≡ Some r → owner key r ≡ key y
    → ((j : ℕ) (q : List X) → i < j → slice_get (runs key n xs) j ≡ Some q → owner key q ≢ key y) → runs key n (xs ++ y ∷ []) ≡ set (runs key n xs) i (r ++ y ∷ [])
runs_last key zero xs y i r h n e o none = absurd (omega (arith, h))
runs_last key (suc m) xs y i r h n e o none =
    runs-push key (suc m) xs y h ∙ ap (λ b. map (grown key (suc m) y) (runs key (suc m) xs) ++ cond b ((y ∷ []) ∷ []) []) n
    ∙ append-nil (map (grown key (suc m) y) (runs key (suc m) xs)) ∙ grow_last key m [] xs y i r n e o none

-- legs of one key that begin no run go there one after another
pub runs_grown : {X : Type 0} (key : X → ℕ) (m : ℕ) (xs ys : List X) (i f : ℕ) (x : X) (r : List X) → All (λ y. key y ≡ f) ys → (0 < length ys → 0 < count key m f xs % suc m) → count key m f xs % suc m + length ys ≤ suc m
    → slice_get (runs key (suc m) xs) i ≡ Some (x ∷ r) → key x ≡ f → ((j : ℕ) (q : List X) → i < j → slice_get (runs key (suc m) xs) j ≡ Some q → owner key q ≢ f)
    → runs key (suc m) (xs ++ ys) ≡ set (runs key (suc m) xs) i ((x ∷ r) ++ ys)
runs_grown key m xs [] i f x r all there room e o none = ap (runs key (suc m)) (append-nil xs) ∙ sym (ap (set (runs key (suc m) xs) i) (append-nil (x ∷ r)) ∙ set_same (runs key (suc m) xs) i (x ∷ r) e)
runs_grown {X} key m xs (y ∷ ys) i f x r all there room e o none =
    let n = suc m in
    let c = count key m f xs in
    let rs = runs key n xs in
    let rs' = set rs i ((x ∷ r) ++ y ∷ []) in
    let k : key y ≡ f = all 0 y (omega arith) in
    let above : 0 < c % n = there (omega arith) in
    let no : begins key n xs y ≡ false = neq-eqb _ 0 (λ (u : count key m (key y) xs % n ≡ 0). let z : c % n ≡ 0 = ap (λ g. count key m g xs % n) (sym k) ∙ u in omega (arith, z, above)) in
    let one : runs key n (xs ++ y ∷ []) ≡ rs' = runs_last key n xs y i (x ∷ r) (omega arith) no e (o ∙ sym k) (λ j q l a u. none j q l a (u ∙ k)) in
    let more : count key m f (xs ++ y ∷ []) ≡ c + 1 = push_same key m f xs y k in
    let next : c % n + 1 < n → count key m f (xs ++ y ∷ []) % n ≡ c % n + 1 = λ l. ap (λ a. a % n) more ∙ mod_below_next c 1 n l in
    let there' : 0 < length ys → 0 < count key m f (xs ++ y ∷ []) % n = λ l. let z = next (omega (arith, l, room)) in omega (arith, z) in
    let room' : count key m f (xs ++ y ∷ []) % n + length ys ≤ n = ⊎_elim
    (λ (l : 0 < length ys). let z = next (omega (arith, l, room)) in omega (arith, z, room))
    (λ (l : length ys ≤ 0). let z = mod_below (count key m f (xs ++ y ∷ [])) n (omega arith) in omega (arith, l, z))
    (cases_lt 0 (length ys)) in
    let at : slice_get (runs key n (xs ++ y ∷ [])) i ≡ Some (x ∷ (r ++ y ∷ [])) = ap (λ l. slice_get l i) one ∙ get-set_same rs i ((x ∷ r) ++ y ∷ []) (x ∷ r) e in
    let none' : (j : ℕ) (q : List X) → i < j → slice_get (runs key n (xs ++ y ∷ [])) j ≡ Some q → owner key q ≢ f =
    λ j q l a. none j q l (sym (get-set_other rs i j ((x ∷ r) ++ y ∷ []) (λ u. omega (arith, l, u))) ∙ ap (λ l. slice_get l j) (sym one) ∙ a) in
    ap (runs key n) (sym (append_assoc xs (y ∷ []) ys))
    ∙ runs_grown key m (xs ++ y ∷ []) ys i f x (r ++ y ∷ []) (λ j d l. all (suc j) d (omega (arith, l))) there' room' at o none'
    ∙ ap (λ l. set l i ((x ∷ (r ++ y ∷ [])) ++ ys)) one
    ∙ set_set rs i ((x ∷ r) ++ y ∷ []) ((x ∷ (r ++ y ∷ [])) ++ ys)
    ∙ ap (λ l. set rs i (x ∷ l)) (append_assoc r (y ∷ []) ys)

-- a leg that begins a run begins it at the end, and no other changes
pub runs_begun : {X : Type 0} (key : X → ℕ) (n : ℕ) (xs : List X) (y : X) → 0 < n → begins key n xs y ≡ true → runs key n (xs ++ y ∷ []) ≡ runs key n xs ++ (y ∷ []) ∷ []
runs_begun key zero xs y h b = absurd (omega (arith, h))
runs_begun key (suc m) xs y h b =
    runs-push key (suc m) xs y h ∙ ap (λ v. map (grown key (suc m) y) (runs key (suc m) xs) ++ cond v ((y ∷ []) ∷ []) []) b
    ∙ ap (λ l. l ++ (y ∷ []) ∷ []) (runs_after-full key m [] xs y b)

-- where several fit, one does too
pub fits : (leaf count many : ℕ) → 0 < leaf → (1 < many → count % leaf + many ≤ leaf) → count % leaf + many ≤ leaf
fits leaf count many some room =
    let below : count % leaf < leaf = mod_below count leaf some in
    ⊎_elim
    room
    (λ (few : many ≤ 1). omega (arith, few, below))
    (cases_lt 1 many)
