-- No count is past its type: pages are few, and with them leaves, levels and legs.
use Rattle.std.proofs.Common.{ℕ, zero, suc, ◌+◌, ◌*◌, ◌%◌, ◌<◌, ◌≤◌, ◌≡◌, ◌≢◌, ◌==◌, ◌||◌, eqb, true, false, cond, List, [], ◌∷◌, ◌++◌, length, take, refl, sym, ap, ◌∙◌, arith, subst, ⊎_elim, Some, slice_get, eq-eqb, length-take}
use Rattle.std.specs.List.{AllByRecursion, IsDistinct, list_any, filter, count_by}
use Rattle.std.proofs.lemmas.Bool.{eqb-true, cases_eq}
use Rattle.std.proofs.Math.Nat.{mod-eq_of_lt, add-mod_right}
use Rattle.std.proofs.lemmas.Nat.{mul-le}
use Rattle.std.proofs.lemmas.Map.Steps.{length-le_from_distinct_below}
use Rattle.legs.specs.Blocks.{runs, runs_after, begins, same}
use Rattle.tbtree.specs.Stands.{NumbersStand}
use Rattle.legs.proofs.GroupLemmas.{some_none, some_same}
use Rattle.tbtree.proofs.RoomLemmas.{neq-eqb, push_same, push_other, count_cons-same, count_cons-other}

all_rec : (P : ℕ → Type 0) (xs : List ℕ) → ((i a : ℕ) → slice_get xs i ≡ Some a → P a) → AllByRecursion P xs
all_rec P [] h = tt
all_rec P (x ∷ xs) h = (h 0 x refl, all_rec P xs (λ i. h (suc i)))

distinct : (xs : List ℕ) → ((i j a : ℕ) → slice_get xs i ≡ Some a → slice_get xs j ≡ Some a → i ≡ j) → IsDistinct eqb xs
unfolding IsDistinct
distinct [] h = tt
distinct (x ∷ xs) h = (
  all_rec (λ y. (x == y) ≡ false) xs (λ i a e. neq-eqb x a (λ u. (let z : 0 ≡ suc i = h 0 (suc i) x refl (e ∙ ap Some (sym u)) in omega (arith, z)))),
  distinct xs (λ i j a e f. (let z : suc i ≡ suc j = h (suc i) (suc j) a e f in omega (arith, z))),
)

any_at : (q : ℕ) (xs : List ℕ) → list_any (eqb q) xs ≡ true → (i : ℕ) × (slice_get xs i ≡ Some q)
any_at q [] e = absurd (subst (λ b. cond b ⊥ (Unit {0})) e tt)
any_at q (x ∷ xs) e =
    (elim (q == x) as (λ b. (q == x) ≡ b → (b || list_any (eqb q) xs) ≡ true → (i : ℕ) × (slice_get (x ∷ xs) i ≡ Some q)) [
      | true ↦ λ h e. (0, ap Some (sym (eqb-true q x h)))
      | false ↦ λ h e. let r = any_at q xs e in (suc r.0, r.1)
    ]) refl e

-- pages of their own from 1 on and below count are less than count
pub few_pages : (xs : List ℕ) (count : ℕ) → 0 < count → ((i a : ℕ) → slice_get xs i ≡ Some a → (0 < a) × (a < count)) → ((i j a : ℕ) → slice_get xs i ≡ Some a → slice_get xs j ≡ Some a → i ≡ j) → length xs < count
few_pages xs count h within apart =
    let below : (i a : ℕ) → slice_get (0 ∷ xs) i ≡ Some a → a < count = λ i a. elim i as (λ i. slice_get (0 ∷ xs) i ≡ Some a → a < count) [ zero ↦ λ e. (let z : 0 ≡ a = some_same 0 a e in omega (arith, z, h)) | suc i ↦ λ e. (within i a e).1 ] in
    let one : (i j a : ℕ) → slice_get (0 ∷ xs) i ≡ Some a → slice_get (0 ∷ xs) j ≡ Some a → i ≡ j = λ i j a.
    elim i as (λ i. slice_get (0 ∷ xs) i ≡ Some a → slice_get (0 ∷ xs) j ≡ Some a → i ≡ j) [
      | zero ↦ elim j as (λ j. slice_get (0 ∷ xs) 0 ≡ Some a → slice_get (0 ∷ xs) j ≡ Some a → 0 ≡ j) [ zero ↦ λ e f. refl | suc j ↦ λ e f. absurd (let z : 0 ≡ a = some_same 0 a e in let w = (within j a f).0 in omega (arith, z, w)) ]
      | suc i ↦ elim j as (λ j. slice_get (0 ∷ xs) (suc i) ≡ Some a → slice_get (0 ∷ xs) j ≡ Some a → suc i ≡ j) [ zero ↦ λ e f. absurd (let z : 0 ≡ a = some_same 0 a f in let w = (within i a e).0 in omega (arith, z, w)) | suc j ↦ λ e f. ap suc (apart i j a e f) ]
    ] in
    let l : length (0 ∷ xs) ≤ count = length-le_from_distinct_below (0 ∷ xs) count (distinct (0 ∷ xs) one) (λ q e. let r = any_at q (0 ∷ xs) e in below r.0 q r.1) in
    omega (arith, l)

module _ {L : Type 0} (inner levels root count : ℕ) (rs : List (List L)) (pages : ℕ → List ℕ) (n : NumbersStand inner levels root count rs pages) where
  pub few_leaves : length (pages 0) < count
  few_leaves = few_pages (pages 0) count n.page_0 (n.within 0) (λ i j a e f. (n.apart 0 i 0 j a e f).1)

module _ {X : Type 0} (key : X → ℕ) (m : ℕ) where
  -- a run has at most n elements
  pub run_short : (b xs : List X) (i : ℕ) (r : List X) → slice_get (runs_after key (suc m) b xs) i ≡ Some r → length r ≤ suc m
  run_short b [] i r e = absurd (some_none r (sym e))
  run_short b (x ∷ xs) i r e =
      let R = take (suc m) (x ∷ filter (same key (suc m) x) xs) in
      let rest = runs_after key (suc m) (b ++ x ∷ []) xs in
      (elim (begins key (suc m) b x) as (λ v. slice_get (cond v (R ∷ rest) rest) i ≡ Some r → length r ≤ suc m) [
        | true ↦ elim i as (λ i. slice_get (R ∷ rest) i ≡ Some r → length r ≤ suc m) [ zero ↦ λ e. (let u = ap length (some_same R r e) in let t = length-take (suc m) (x ∷ filter (same key (suc m) x) xs) in omega (arith, u, t)) | suc i ↦ λ e. run_short (b ++ x ∷ []) xs i r e ]
        | false ↦ λ e. run_short (b ++ x ∷ []) xs i r e
      ]) e

  abbrev count : ℕ → List X → ℕ
  count f xs = count_by (λ z. key z == f) xs

  more_runs : (b : List X) (x : X) (xs : List X) → length (runs_after key (suc m) (b ++ x ∷ []) xs) ≤ length (runs_after key (suc m) b (x ∷ xs))
  more_runs b x xs =
      let R = take (suc m) (x ∷ filter (same key (suc m) x) xs) in
      let rest = runs_after key (suc m) (b ++ x ∷ []) xs in
      elim (begins key (suc m) b x) as (λ v. length rest ≤ length (cond v (R ∷ rest) rest)) [ true ↦ omega arith | false ↦ omega arith ]

  -- what is left of a key fits into the room of its last run and the runs to come
  count_after : (f : ℕ) (b xs : List X) (c : ℕ) → c ≤ m → (count f b + c) % suc m ≡ 0 → count f xs ≤ c + length (runs_after key (suc m) b xs) * suc m
  count_after f b [] c l e = omega arith
  count_after f b (x ∷ xs) c l e =
      let rest = length (runs_after key (suc m) (b ++ x ∷ []) xs) in
      let all = length (runs_after key (suc m) b (x ∷ xs)) in
      let more : rest ≤ all = more_runs b x xs in
      let wide : rest * suc m ≤ all * suc m = mul-le rest (suc m) all (suc m) more (omega arith) in
      ⊎_elim
      (λ (k : key x ≡ f).
      let p = push_same key m f b x k in
      let q = count_cons-same key m f x xs k in
      (elim c as (λ c. c ≤ m → (count f b + c) % suc m ≡ 0 → count f (x ∷ xs) ≤ c + all * suc m) [
        | zero ↦ λ l e.
            let v : begins key (suc m) b x ≡ true = eq-eqb _ 0 (ap (λ g. count g b % suc m) k ∙ ap (λ n. n % suc m) (omega arith) ∙ e) in
            let z : all ≡ suc rest = ap (λ v. length (cond v (take (suc m) (x ∷ filter (same key (suc m) x) xs) ∷ runs_after key (suc m) (b ++ x ∷ []) xs) (runs_after key (suc m) (b ++ x ∷ []) xs))) v in
            let w : all * suc m ≡ suc rest * suc m = ap (λ k. k * suc m) z in
            let w' : suc rest * suc m ≡ suc m + rest * suc m = omega arith in
            let h : count f xs ≤ m + rest * suc m = count_after f (b ++ x ∷ []) xs m (omega arith) (ap (λ n. n % suc m) (omega (arith, p)) ∙ add-mod_right (count f b + 0) (suc m) ∙ e) in
            omega (arith, q, h, w, w')
        | suc c' ↦ λ l e.
            let h : count f xs ≤ c' + rest * suc m = count_after f (b ++ x ∷ []) xs c' (omega (arith, l)) (ap (λ n. n % suc m) (omega (arith, p)) ∙ e) in
            omega (arith, q, h, wide)
      ]) l e)
      (λ (k : key x ≢ f).
      let q = count_cons-other key m f x xs k in
      let h : count f xs ≤ c + rest * suc m = count_after f (b ++ x ∷ []) xs c l (ap (λ n. (n + c) % suc m) (push_other key m f b x k) ∙ e) in
      omega (arith, q, h, wide))
      (cases_eq (key x) f)

  pub few_of_key : (f : ℕ) (xs : List X) → count f xs ≤ length (runs key (suc m) xs) * suc m
  few_of_key f xs = (let h = count_after f [] xs 0 (omega arith) (mod-eq_of_lt (omega arith)) in omega (arith, h))
