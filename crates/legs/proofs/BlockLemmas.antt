-- What one more element does to the blocks.
use Rattle.std.proofs.Common.{ℕ, zero, suc, ◌+◌, ◌*◌, ◌/◌, ◌%◌, ◌<◌, ◌≤◌, ◌≡◌, ◌==◌, true, false, cond, ◌&&◌, nat_lt, List, [], ◌∷◌, ◌++◌, take, length, map, refl, sym, ap, ◌∙◌, arith, append_assoc, length-append, ⊎_elim}
use Rattle.std.specs.List.{filter, count_by}
use Rattle.std.proofs.lemmas.List.Sums.{length-filter, sum_by-append, sum_by-cons}
use Rattle.std.proofs.lemmas.Nat.{div-add-mod'}
use Rattle.std.proofs.Math.Nat.{mod-eq_of_lt, mul-add-mod_self_right}
use Rattle.std.proofs.lemmas.Bool.{cases_lt, lt-ltb, le-ltb, eqb-true}
use Rattle.std.specs.Cmp.{nat_eq_equiv}
use Rattle.std.proofs.lemmas.List.Elements.{filter-append}
use Rattle.std.proofs.lemmas.List.{take_all, take-append-le, length-take-le, append-nil, take-map, length-map, map-append}
use Rattle.legs.specs.Blocks.{same, begins, runs_after, runs, grown, begun}

module _ {X : Type 0} where
  -- the first m elements of F, and y after them where there is room
  take_push : (m : ℕ) (F : List X) (y : X)
      → take m (F ++ y ∷ [])
      ≡ cond (nat_lt (suc (length (take m F))) (suc m)) (take m F ++ y ∷ []) (take m F)
  take_push m F y =
      ⊎_elim
      (λ h.
      let l : length (F ++ y ∷ []) ≤ m = omega (arith, length-append F (y ∷ [])) in
      let t : take m F ≡ F = take_all m F (omega arith) in
      let b : nat_lt (suc (length F)) (suc m) ≡ true =
      lt-ltb (suc (length F)) (suc m) (omega arith) in
      rw (t, b) (take_all m (F ++ y ∷ []) l))
      (λ h.
      let e : length (take m F) ≡ m = length-take-le m F h in
      let b : nat_lt (suc (length (take m F))) (suc m) ≡ false =
      le-ltb (suc (length (take m F))) (suc m) (omega arith) in
      rw b (take-append-le m F (y ∷ []) h))
      (cases_lt (length F) m)

module _ {X : Type 0} (key : X → ℕ) (m : ℕ) where
  head_grown : (x y : X) (xs : List X)
      → take (suc m) (x ∷ filter (same key (suc m) x) (xs ++ y ∷ []))
      ≡ grown key (suc m) y (take (suc m) (x ∷ filter (same key (suc m) x) xs))
  head_grown x y xs =
      let F = filter (same key (suc m) x) xs in
      let f : filter (same key (suc m) x) (xs ++ y ∷ [])
      ≡ F ++ cond (same key (suc m) x y) (y ∷ []) [] =
      filter-append (same key (suc m) x) xs (y ∷ []) in
      ap (λ l. x ∷ take m l) f ∙
      (elim (same key (suc m) x y) as
      (λ b. x ∷ take m (F ++ cond b (y ∷ []) [])
      ≡ cond (b && nat_lt (suc (length (take m F))) (suc m)) (x ∷ (take m F ++ y ∷ []))
      (x ∷ take m F)) [
        | true ↦ ap (λ l. x ∷ l) (take_push m F y) ∙
            (elim (nat_lt (suc (length (take m F))) (suc m)) as
            (λ b. x ∷ cond b (take m F ++ y ∷ []) (take m F)
            ≡ cond b (x ∷ (take m F ++ y ∷ [])) (x ∷ take m F)) [ true ↦ refl | false ↦ refl ])
        | false ↦ ap (λ l. x ∷ take m l) (append-nil F)
      ])

  alone : (y : X) → take (suc m) (y ∷ []) ≡ y ∷ []
  alone y = ap (λ l. y ∷ l) (take_all m [] (omega arith))

  -- an element more in what was filled before
  pub runs_after-push : (before xs : List X) (y : X)
      → runs_after key (suc m) before (xs ++ y ∷ [])
      ≡ map (grown key (suc m) y) (runs_after key (suc m) before xs)
      ++ begun key (suc m) (before ++ xs) y
  runs_after-push before [] y =
      ap (λ r. cond (begins key (suc m) before y) (r ∷ []) []) (alone y) ∙ ap
      (λ b. begun key (suc m) b y) (sym (append-nil before))
  runs_after-push before (x ∷ xs) y =
      let on : runs_after key (suc m) (before ++ x ∷ []) (xs ++ y ∷ [])
      ≡ map (grown key (suc m) y) (runs_after key (suc m) (before ++ x ∷ []) xs)
      ++ begun key (suc m) (before ++ x ∷ xs) y =
      runs_after-push (before ++ x ∷ []) xs y ∙ ap
      (λ b. map (grown key (suc m) y) (runs_after key (suc m) (before ++ x ∷ []) xs)
      ++ begun key (suc m) b y) (append_assoc before (x ∷ []) xs) in
      (elim (begins key (suc m) before x) as (λ b.
      cond b (take (suc m) (x ∷ filter (same key (suc m) x) (xs ++ y ∷ []))
      ∷ runs_after key (suc m) (before ++ x ∷ []) (xs ++ y ∷ [])) (runs_after key (suc m)
      (before ++ x ∷ []) (xs ++ y ∷ []))
      ≡ map (grown key (suc m) y)
      (cond b (take (suc m) (x ∷ filter (same key (suc m) x) xs)
      ∷ runs_after key (suc m) (before ++ x ∷ []) xs) (runs_after key (suc m) (before ++ x ∷ [])
      xs)) ++ begun key (suc m) (before ++ x ∷ xs) y) [
        | true ↦ λ i. head_grown x y xs i ∷ on i
        | false ↦ on
      ])

-- an element more in a list
pub runs-push : {X : Type 0} (key : X → ℕ) (n : ℕ) (xs : List X) (y : X) → 0 < n
    → runs key n (xs ++ y ∷ []) ≡ map (grown key n y) (runs key n xs) ++ begun key n xs y
runs-push key zero xs y h = absurd (omega arith)
runs-push key (suc m) xs y h = runs_after-push key m [] xs y

-- where c and c + d are multiples of k and d is not 0, d is at least k
pub step_of_multiple : (c d k : ℕ) → c % k ≡ 0 → (c + d) % k ≡ 0 → 0 < d → 0 < k → k ≤ d
step_of_multiple c d k e f h z =
    let q : c / k * k + c % k ≡ c = div-add-mod' c k in
    let split : (c / k * k + d) % k ≡ d % k = mul-add-mod_self_right (c / k) k d in
    let same_sum : c / k * k + d ≡ c + d = omega (arith, q, e) in
    let g : d % k ≡ 0 = sym split ∙ ap (λ n. n % k) same_sum ∙ f in
    ⊎_elim (λ l. absurd (let r : d % k ≡ d = mod-eq_of_lt l in omega (arith, r, g))) (λ l. l)
    (cases_lt d k)

module _ {X : Type 0} (key : X → ℕ) (m : ℕ) where
  full_head : (before xs : List X) (x y : X) → begins key (suc m) before x ≡ true
      → begins key (suc m) (before ++ x ∷ xs) y ≡ true
      → grown key (suc m) y (take (suc m) (x ∷ filter (same key (suc m) x) xs))
      ≡ take (suc m) (x ∷ filter (same key (suc m) x) xs)
  full_head before xs x y b e =
      (elim (same key (suc m) x y) as
      (λ s. same key (suc m) x y ≡ s
      → cond (s && nat_lt (suc (length (take m (filter (same key (suc m) x) xs)))) (suc m))
      (x ∷ (take m (filter (same key (suc m) x) xs) ++ y ∷ []))
      (x ∷ take m (filter (same key (suc m) x) xs))
      ≡ x ∷ take m (filter (same key (suc m) x) xs)) [
        | true ↦ λ s.
            let k : key y ≡ key x = eqb-true (key y) (key x) s in
            let p = same key (suc m) x in
            let c : count_by p before % suc m ≡ 0 = eqb-true _ 0 b in
            let t : count_by p (before ++ x ∷ xs) % suc m ≡ 0 =
            ap (λ j. count_by (λ z. key z == j) (before ++ x ∷ xs) % suc m) (sym k) ∙
            eqb-true _ 0 e in
            let one : cond (p x) 1 0 ≡ 1 = ap (λ v. cond v 1 0) (nat_eq_equiv.refl (key x)) in
            let sum' : count_by p (before ++ x ∷ xs)
            ≡ count_by p before + (1 + length (filter p xs)) =
            sum_by-append (λ z. cond (p z) 1 0) before (x ∷ xs) ∙ ap (λ v. count_by p before + v)
            (sum_by-cons (λ z. cond (p z) 1 0) x xs ∙ ap (λ v. v + count_by p xs) one ∙ ap
            (λ v. 1 + v) (sym (length-filter p xs))) in
            let room : suc m ≤ 1 + length (filter p xs) =
            step_of_multiple (count_by p before) (1 + length (filter p xs)) (suc m) c
            (ap (λ v. v % suc m) (sym sum') ∙ t) (omega arith) (omega arith) in
            let l : length (take m (filter p xs)) ≡ m =
            length-take-le m (filter p xs) (omega (arith, room)) in
            let f : nat_lt (suc (length (take m (filter p xs)))) (suc m) ≡ false =
            le-ltb (suc (length (take m (filter p xs)))) (suc m) (omega (arith, l)) in
            ap (λ v. cond v (x ∷ (take m (filter p xs) ++ y ∷ [])) (x ∷ take m (filter p xs))) f
        | false ↦ λ s. refl
      ]) refl

  -- where y begins a run, no run of its key has room
  pub runs_after-full : (before xs : List X) (y : X) → begins key (suc m) (before ++ xs) y ≡ true
      → map (grown key (suc m) y) (runs_after key (suc m) before xs)
      ≡ runs_after key (suc m) before xs
  runs_after-full before [] y e = refl
  runs_after-full before (x ∷ xs) y e =
      let on = runs_after-full (before ++ x ∷ []) xs y
      (ap (λ l. begins key (suc m) l y) (append_assoc before (x ∷ []) xs) ∙ e) in
      (elim (begins key (suc m) before x) as (λ b. begins key (suc m) before x ≡ b →
      map (grown key (suc m) y)
      (cond b (take (suc m) (x ∷ filter (same key (suc m) x) xs)
      ∷ runs_after key (suc m) (before ++ x ∷ []) xs) (runs_after key (suc m)
      (before ++ x ∷ []) xs))
      ≡ cond b (take (suc m) (x ∷ filter (same key (suc m) x) xs)
      ∷ runs_after key (suc m) (before ++ x ∷ []) xs) (runs_after key (suc m)
      (before ++ x ∷ []) xs)) [
        | true ↦ λ b i. full_head before xs x y b e i ∷ on i
        | false ↦ λ b. on
      ]) refl

-- what holds of each element holds of all
pub all_pass : {X : Type 0} (xs : List X) → filter (λ _. true) xs ≡ xs
all_pass [] = refl
all_pass (x ∷ xs) = ap (λ l. x ∷ l) (all_pass xs)

-- how many elements there are of which something always holds
pub count_all : {X : Type 0} (xs : List X) → count_by (λ _. true) xs ≡ length xs
count_all xs = sym (length-filter (λ _. true) xs) ∙ ap length (all_pass xs)

-- what changes each element changes no grouping
pub groups-map : {X Y : Type 0} (f : X → Y) (n : ℕ) (before xs : List X)
    → runs_after (λ _. 0) n (map f before) (map f xs)
    ≡ map (map f) (runs_after (λ _. 0) n before xs)
groups-map f n before [] = refl
groups-map f n before (x ∷ xs) =
    let c : count_by (λ _. true) (map f before) ≡ count_by (λ _. true) before =
    count_all (map f before) ∙ length-map before f ∙ sym (count_all before) in
    let t : take n (f x ∷ filter (λ _. true) (map f xs))
    ≡ map f (take n (x ∷ filter (λ _. true) xs)) =
    ap (λ l. take n (f x ∷ l)) (all_pass (map f xs) ∙ ap (map f) (sym (all_pass xs))) ∙ take-map f n
    (x ∷ filter (λ _. true) xs) in
    let on : runs_after (λ _. 0) n (map f before ++ f x ∷ []) (map f xs)
    ≡ map (map f) (runs_after (λ _. 0) n (before ++ x ∷ []) xs) =
    ap (λ l. runs_after (λ _. 0) n l (map f xs)) (sym (map-append f before (x ∷ []))) ∙ groups-map f
    n (before ++ x ∷ []) xs in
    ap (λ k. cond (k % n == 0)
    (take n (f x ∷ filter (λ _. true) (map f xs))
    ∷ runs_after (λ _. 0) n (map f before ++ f x ∷ []) (map f xs)) (runs_after (λ _. 0) n
    (map f before ++ f x ∷ []) (map f xs))) c
    ∙ (elim (count_by (λ _. true) before % n == 0) as (λ b.
    cond b (take n (f x ∷ filter (λ _. true) (map f xs))
    ∷ runs_after (λ _. 0) n (map f before ++ f x ∷ []) (map f xs)) (runs_after (λ _. 0) n
    (map f before ++ f x ∷ []) (map f xs))
    ≡ map (map f)
    (cond b (take n (x ∷ filter (λ _. true) xs) ∷ runs_after (λ _. 0) n (before ++ x ∷ []) xs)
    (runs_after (λ _. 0) n (before ++ x ∷ []) xs))) [
      | true ↦ λ i. t i ∷ on i
      | false ↦ on
    ])
