-- Groups of n consecutive elements, one after another.
use Rattle.std.proofs.Common.{ℕ, zero, suc, ◌+◌, ◌-◌, ◌*◌, ◌<◌, ◌≤◌, ◌≡◌, true, false, cond, List, [], ◌∷◌, ◌++◌, take, drop, length, refl, sym, ap, ◌∙◌, arith, length-drop, mul_assoc, lt-ltb, le-ltb, subst, ⊎_elim, Some, None, slice_get, inl, inr}
use Rattle.std.specs.List.{filter}
use Rattle.std.proofs.lemmas.Nat.{mul-le}
use Rattle.std.proofs.lemmas.Bool.{cases_lt}
use Rattle.std.proofs.lemmas.List.{length-take, take_all, drop_all, drop-take, length-take-le}
use Rattle.std.proofs.lemmas.Grind.{div_ceil_times}
use Rattle.std.proofs.lemmas.Option.{slice_get_within}
use Rattle.std.specs.Int.{div_ceil}
use Rattle.legs.specs.Blocks.{runs_after, groups, block, same, begins, joined}
use Rattle.std.specs.Prelude.{min}
use Rattle.legs.proofs.GroupLemmas.{some_none, some_same, slot, group_at, group_is, group_within, group_beyond, joined_blocks, same_by_get}

module _ {X : Type 0} where
  -- to leave out n elements and then s is to leave out both at once
  pub drop_drop : (n s : ℕ) (xs : List X) → drop (n + s) xs ≡ drop s (drop n xs)
  drop_drop zero s xs = let e : 0 + s ≡ s = omega arith in ap (λ k. drop k xs) e
  drop_drop (suc n) s [] = drop_all (suc n + s) [] (omega arith) ∙ sym (drop_all s [] (omega arith))
  drop_drop (suc n) s (x ∷ xs) = let e : suc n + s ≡ suc (n + s) =
      omega arith in ap (λ k. drop k (x ∷ xs)) e ∙ drop_drop n s xs

  slot_later : (n s : ℕ) (xs : List X) → slot n (n + s) xs ≡ slot n s (drop n xs)
  slot_later n s xs =
      let d : length (drop n xs) ≡ length xs - n = length-drop n xs in
      let t : drop (n + s) xs ≡ drop s (drop n xs) = drop_drop n s xs in
      ⊎_elim
      (λ (h : n + s < length xs). ap (λ b. cond b (Some (take n (drop (n + s) xs))) None)
      (lt-ltb (n + s) (length xs) h) ∙ ap (λ l. Some (take n l)) t ∙ sym
      (ap (λ b. cond b (Some (take n (drop s (drop n xs)))) None)
      (lt-ltb s (length (drop n xs)) (omega (arith, h, d)))))
      (λ (h : length xs ≤ n + s). ap (λ b. cond b (Some (take n (drop (n + s) xs))) None)
      (le-ltb (n + s) (length xs) h) ∙ sym
      (ap (λ b. cond b (Some (take n (drop s (drop n xs)))) None)
      (le-ltb s (length (drop n xs)) (omega (arith, h, d)))))
      (cases_lt (n + s) (length xs))

  -- the first group, and those of what is left
  pub groups_step : (n : ℕ) (xs : List X) → 0 < n → 0 < length xs
      → groups n xs ≡ take n xs ∷ groups n (drop n xs)
  groups_step n xs h l = same_by_get (groups n xs) (take n xs ∷ groups n (drop n xs)) at
    where
      at : (i : ℕ) → slice_get (groups n xs) i ≡ slice_get (take n xs ∷ groups n (drop n xs)) i
      at zero = group_at n xs 0 h ∙ (let e : 0 * n ≡ 0 = omega arith in ap (λ k. slot n k xs) e) ∙
          ap (λ b. cond b (Some (take n xs)) None) (lt-ltb 0 (length xs) l)
      at (suc i) =
          group_at n xs (suc i) h ∙
          (let e : suc i * n ≡ n + i * n = omega arith in ap (λ k. slot n k xs) e) ∙ slot_later n
          (i * n) xs ∙ sym (group_at n (drop n xs) i h)

  -- a group that is there is the block of its number
  pub group_below : (n : ℕ) (xs : List X) (j : ℕ) → 0 < n → j < length (groups n xs)
      → slice_get (groups n xs) j ≡ Some (block n j xs)
  group_below n xs j h l =
      group_at n xs j h ∙ ap (λ b. cond b (Some (block n j xs)) None)
      (lt-ltb _ _ (group_beyond n xs j h l))

  -- nothing has no groups
  pub no_groups : (n : ℕ) (xs : List X) → 0 < n → length xs ≡ 0 → groups n xs ≡ []
  no_groups n [] h l = refl
  no_groups n (x ∷ xs) h l = absurd (omega (arith, l))

  -- where there is no group there is nothing
  pub from_none : (n : ℕ) (xs : List X) → 0 < n → length (groups n xs) ≡ 0 → length xs ≡ 0
  from_none n xs h l =
      ⊎_elim (λ (k : 0 < length xs). absurd
      (let g = ap length (groups_step n xs h k) in omega (arith, g, l))) (λ k. omega
      (arith, k)) (cases_lt 0 (length xs))

  -- where there is a group there is an element
  pub from_some : (n : ℕ) (xs : List X) → 0 < n → 0 < length (groups n xs) → 0 < length xs
  from_some n xs h l =
      ⊎_elim (λ k. k)
      (λ k. absurd (let g = ap length (no_groups n xs h (omega (arith, k))) in omega (arith, g, l)))
      (cases_lt 0 (length xs))

  -- groups of what is left, and of what is taken
  pub groups_drop : (i n : ℕ) (xs : List X) → 0 < n
      → drop i (groups n xs) ≡ groups n (drop (i * n) xs)
  groups_drop zero n xs h = let e : 0 ≡ 0 * n = omega arith in ap (λ k. groups n (drop k xs)) e
  groups_drop (suc i) n xs h =
      let e : n + i * n ≡ suc i * n = omega arith in
      ⊎_elim
      (λ (l : 0 < length xs). ap (drop (suc i)) (groups_step n xs h l) ∙ groups_drop i n (drop n xs)
      h ∙ ap (groups n) (sym (drop_drop n (i * n) xs)) ∙ ap (λ k. groups n (drop k xs)) e)
      (λ (l : length xs ≤ 0). ap (drop (suc i)) (no_groups n xs h (omega (arith, l))) ∙ sym
      (no_groups n (drop (suc i * n) xs) h (length-drop (suc i * n) xs ∙ omega (arith, l))))
      (cases_lt 0 (length xs))

  -- the first i groups are those of the first i blocks
  pub groups_take : (i n : ℕ) (xs : List X) → 0 < n
      → take i (groups n xs) ≡ groups n (take (i * n) xs)
  groups_take zero n xs h = let e : 0 ≡ 0 * n = omega arith in ap (λ k. groups n (take k xs)) e
  groups_take (suc i) n xs h =
      let e : n + i * n ≡ suc i * n = omega arith in
      ⊎_elim
      (λ (l : 0 < length xs).
      let some : 0 < length (take (n + i * n) xs) =
      omega (arith, l, h, length-take (n + i * n) xs) in
      ap (take (suc i)) (groups_step n xs h l)
      ∙ ap (λ t. take n xs ∷ t) (groups_take i n (drop n xs) h)
      ∙ (λ k. take_more n (i * n) xs k ∷ groups n (sym (drop-take n (i * n) xs) k))
      ∙ sym (groups_step n (take (n + i * n) xs) h some)
      ∙ ap (λ k. groups n (take k xs)) e)
      (λ (l : length xs ≤ 0). ap (take (suc i)) (no_groups n xs h (omega (arith, l))) ∙ sym
      (no_groups n (take (suc i * n) xs) h (omega (arith, l, length-take (suc i * n) xs))))
      (cases_lt 0 (length xs))
    where
      take_more : (n m : ℕ) (xs : List X) → take n xs ≡ take n (take (n + m) xs)
      take_more zero m xs = refl
      take_more (suc n) m [] = sym (ap (take (suc n)) (take_all (suc n + m) [] (omega arith)))
      take_more (suc n) m (x ∷ xs) = let e : suc n + m ≡ suc (n + m) =
          omega arith in ap (λ l. x ∷ l) (take_more n m xs) ∙ ap
          (λ k. take (suc n) (take k (x ∷ xs))) (sym e)

  -- the groups in a block
  pub block_groups : (inner n j : ℕ) (xs : List X) → 0 < n
      → block inner j (groups n xs) ≡ groups n (block (inner * n) j xs)
  block_groups inner n j xs h =
      let s : j * inner * n ≡ j * (inner * n) = mul_assoc j inner n in
      ap (take inner) (groups_drop (j * inner) n xs h) ∙ groups_take inner n
      (drop (j * inner * n) xs) h ∙ ap (λ k. groups n (take (inner * n) (drop k xs))) s

-- numbers that are above the same numbers
pub same_count : (a b : ℕ) → ((j : ℕ) → j < a → j < b) → ((j : ℕ) → j < b → j < a) → a ≡ b
same_count a b f g =
    ⊎_elim (λ (l : a < b). absurd (let w : a < a = g a l in omega (arith, w)))
    (λ (l : b ≤ a). ⊎_elim (λ (k : b < a). absurd (let w : b < b = f b k in omega (arith, w)))
    (λ (k : a ≤ b). omega (arith, k, l)) (cases_lt b a))
    (cases_lt a b)

module _ {X : Type 0} where
  -- the groups are as many as the elements by n, rounded up
  pub groups_ceil : (n : ℕ) (xs : List X) → 0 < n → length (groups n xs) ≡ div_ceil (length xs) n
  groups_ceil n xs h =
      let q = div_ceil (length xs) n in
      let t = div_ceil_times (length xs) n h in
      same_count _ _
      (λ j l. let b = group_beyond n xs j h l in
      ⊎_elim (λ (k : j < q). k)
      (λ (k : q ≤ j). absurd
      (let m = mul-le q n j n k (omega arith) in omega (arith, b, m, t.0))) (cases_lt j q))
      (λ j l. group_within n xs j h
      (let m = mul-le (suc j) n q n (omega (arith, l)) (omega arith) in let s : suc j * n
      ≡ j * n + n = omega arith in omega (arith, m, s, t.1)))

  -- each element is a group of one
  pub groups_of_one : (xs : List X) → length (groups 1 xs) ≡ length xs
  groups_of_one xs =
      same_count _ _
      (λ j l. let b = group_beyond 1 xs j (omega arith) l in let s : j * 1
      ≡ j = omega arith in omega (arith, b, s))
      (λ j l. group_within 1 xs j (omega arith)
      (let s : j * 1 ≡ j = omega arith in omega (arith, l, s)))

  -- the groups, one after another
  pub joined_groups : (n : ℕ) (xs : List X) → 0 < n → joined (groups n xs) ≡ xs
  joined_groups n xs h =
      let g = length (groups n xs) in
      sym (ap joined (take_all g (groups n xs) (omega arith)))
      ∙ joined_blocks g n 0 xs h
      ∙ ap (λ z. take (g * n) (drop z xs)) (let z : 0 * n ≡ 0 = omega arith in z)
      ∙ take_all (g * n) xs
      (⊎_elim (λ (l : g * n < length xs). absurd
      (let w = group_within n xs g h l in omega (arith, w))) (λ l. l) (cases_lt
      (g * n) (length xs)))

  -- how long the j-th group is
  pub length_group : (n : ℕ) (xs : List X) (j : ℕ) (g : List X) → 0 < n
      → slice_get (groups n xs) j ≡ Some g → length g ≡ min n (length xs - j * n)
  length_group n xs j g h e =
      let l : j * n < length xs = group_beyond n xs j h (slice_get_within (groups n xs) j g e) in
      let is : g ≡ block n j xs = some_same g (block n j xs) (sym e ∙ group_is n xs j h l) in
      let rest : length (drop (j * n) xs) ≡ length xs - j * n = length-drop (j * n) xs in
      ap length is
      ∙ ⊎_elim
      (λ (k : n ≤ length (drop (j * n) xs)). length-take-le n (drop (j * n) xs) k ∙ omega
      (arith, k, rest))
      (λ (k : length (drop (j * n) xs) < n). ap length
      (take_all n (drop (j * n) xs) (omega (arith, k))) ∙ omega (arith, k, rest))
      (⊎_elim (λ (k : length (drop (j * n) xs) < n). inr k) (λ k. inl k)
      (cases_lt (length (drop (j * n) xs)) n))

cons_nil : {X : Type 0} (x : X) (xs : List X) → x ∷ xs ≡ [] → ⊥
cons_nil {X} x xs e =
    subst (λ (l : List X). elim l as (λ _. Type 0) [ [] ↦ ⊥ | y ∷ ys ↦ Unit {0} ]) e tt

-- no run is empty, and no group
run_some : {X : Type 0} (key : X → ℕ) (m : ℕ) (b xs : List X) (i : ℕ)
    → slice_get (runs_after key (suc m) b xs) i ≡ Some [] → ⊥
run_some key m b [] i e = some_none _ (sym e)
run_some {X} key m b (x ∷ xs) i e =
    let R = take m (filter (same key (suc m) x) xs) in
    (elim (begins key (suc m) b x) as
    (λ v. slice_get
    (cond v ((x ∷ R) ∷ runs_after key (suc m) (b ++ x ∷ []) xs)
    (runs_after key (suc m) (b ++ x ∷ []) xs)) i ≡ Some [] → ⊥) [
      | true ↦ elim i as
          (λ i. slice_get ((x ∷ R) ∷ runs_after key (suc m) (b ++ x ∷ []) xs) i ≡ Some [] → ⊥) [
            | zero ↦ λ e. cons_nil x R (some_same (x ∷ R) [] e)
            | suc i' ↦ λ e. run_some key m
                (b ++ x ∷ []) xs i' e
          ]
      | false ↦ λ e. run_some key m (b ++ x ∷ []) xs i e
    ]) e

-- no group is empty
pub filled_groups : {X : Type 0} (n : ℕ) (xs : List X) → 0 < n → (i : ℕ)
    → slice_get (groups n xs) i ≡ Some [] → ⊥
filled_groups zero xs h i e = absurd (omega (arith, h))
filled_groups (suc m) xs h i e = run_some (λ _. 0) m [] xs i e
