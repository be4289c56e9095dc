-- Groups of n consecutive elements, by their places.
use Rattle.std.proofs.Common.{ℕ, zero, suc, ◌+◌, ◌-◌, ◌*◌, ◌/◌, ◌%◌, ◌<◌, ◌≤◌, ◌≡◌, ◌≢◌, ◌==◌, true, false, cond, nat_lt, List, [], ◌∷◌, ◌++◌, take, drop, set, length, refl, sym, ap, ◌∙◌, arith, length-append, length-drop, lt-ltb, le-ltb, eq-eqb, subst, ⊎_elim, Option, Some, None, slice_get, get_or}
use Rattle.std.specs.List.{filter, count_by}
use Rattle.std.proofs.lemmas.Nat.{div-add-mod', mod_below}
use Rattle.std.proofs.Math.Nat.{add-mod_right, mod-eq_of_lt}
use Rattle.std.proofs.lemmas.Bool.{cases_lt, eqb-true}
use Rattle.std.proofs.lemmas.List.{take_all, take-append-le, drop-append-le, drop_all, drop-set-add, drop-set-lt, take-set-le, drop_more, drop-drop}
use Rattle.std.proofs.lemmas.Option.{slice_get_within, slice_get-get_or, get_or_from_slice_get}
use Rattle.legs.specs.Blocks.{runs_after, groups, block, joined}
use Rattle.legs.proofs.BlockLemmas.{step_of_multiple, count_all, all_pass}

-- a value is not none
pub some_none : {Y : Type 0} (y : Y) → Some y ≡ None → ⊥
some_none {Y} y e =
    subst (λ (o : Option Y). elim o as (λ _. Type 0) [ Some _ ↦ Unit {0} | None ↦ ⊥ ]) e tt

-- two values are the same where they are so as `Some`
pub some_same : {Y : Type 0} (x y : Y) → Some x ≡ Some y → x ≡ y
some_same {Y} x y e = ap (λ (o : Option Y). elim o as (λ _. Y) [ Some z ↦ z | None ↦ x ]) e

module _ {X : Type 0} where
  -- the n elements at s, if s is within
  abbrev pub slot : ℕ → ℕ → List X → Option (List X)
  slot n s xs = cond (nat_lt s (length xs)) (Some (take n (drop s xs))) None

  slot_more : (n s : ℕ) (x : X) (xs : List X) → slot n s xs ≡ slot n (suc s) (x ∷ xs)
  slot_more n s x xs =
      ap (λ b. cond b (Some (take n (drop s xs))) None)
      (⊎_elim (λ h. lt-ltb _ _ h ∙ sym (lt-ltb _ _ (omega (arith, h))))
      (λ h. le-ltb _ _ h ∙ sym (le-ltb _ _ (omega (arith, h)))) (cases_lt s (length xs)))

  group_after : (m : ℕ) (before xs : List X) (r j s : ℕ) → (length before + r) % suc m ≡ 0 → r ≤ m
      → r + j * suc m ≡ s → slice_get (runs_after (λ _. 0) (suc m) before xs) j ≡ slot (suc m) s xs
  group_after m before [] r j s e l q =
      ap (λ b. cond b (Some (take (suc m) (drop s []))) None) (sym (le-ltb s 0 (omega arith)))
  group_after m before (x ∷ xs) zero zero zero e l q =
      let b : (count_by (λ _. true) before % suc m == 0) ≡ true =
      eq-eqb _ 0 (ap (λ n. n % suc m) (count_all before ∙ omega arith) ∙ e) in
      ap (λ b. slice_get
      (cond b (take (suc m) (x ∷ filter (λ _. true) xs)
      ∷ runs_after (λ _. 0) (suc m) (before ++ x ∷ []) xs) (runs_after (λ _. 0) (suc m)
      (before ++ x ∷ []) xs)) 0) b
      ∙ ap (λ l. Some (take (suc m) (x ∷ l))) (all_pass xs)
      ∙ ap (λ b. cond b (Some (take (suc m) (x ∷ xs))) None)
      (sym (lt-ltb 0 (suc (length xs)) (omega arith)))
  group_after m before (x ∷ xs) zero zero (suc s) e l q = absurd (omega (arith, q))
  group_after m before (x ∷ xs) zero (suc j) zero e l q = absurd (omega (arith, q))
  group_after m before (x ∷ xs) zero (suc j) (suc s) e l q =
      let b : (count_by (λ _. true) before % suc m == 0) ≡ true =
      eq-eqb _ 0 (ap (λ n. n % suc m) (count_all before ∙ omega arith) ∙ e) in
      let w : (length (before ++ x ∷ []) + m) % suc m ≡ 0 =
      ap (λ n. n % suc m) (omega (arith, length-append before (x ∷ []))) ∙ add-mod_right
      (length before + 0) (suc m) ∙ e in
      ap (λ b. slice_get
      (cond b (take (suc m) (x ∷ filter (λ _. true) xs)
      ∷ runs_after (λ _. 0) (suc m) (before ++ x ∷ []) xs) (runs_after (λ _. 0) (suc m)
      (before ++ x ∷ []) xs)) (suc j)) b
      ∙ group_after m (before ++ x ∷ []) xs m j s w (omega arith) (omega (arith, q))
      ∙ slot_more (suc m) s x xs
  group_after m before (x ∷ xs) (suc r) j zero e l q = absurd (omega (arith, q))
  group_after m before (x ∷ xs) (suc r) j (suc s) e l q =
      let w : (length (before ++ x ∷ []) + r) % suc m ≡ 0 =
      ap (λ n. n % suc m) (omega (arith, length-append before (x ∷ []))) ∙ e in
      (elim (count_by (λ _. true) before % suc m == 0) as
      (λ b. (count_by (λ _. true) before % suc m == 0) ≡ b
      → slice_get
      (cond b (take (suc m) (x ∷ filter (λ _. true) xs)
      ∷ runs_after (λ _. 0) (suc m) (before ++ x ∷ []) xs) (runs_after (λ _. 0) (suc m)
      (before ++ x ∷ []) xs)) j ≡ slot (suc m) (suc s) (x ∷ xs)) [
        | true ↦ λ b.
            let z : length before % suc m ≡ 0 =
            ap (λ n. n % suc m) (sym (count_all before)) ∙ eqb-true _ 0 b in
            absurd (let k : suc m
            ≤ suc r = step_of_multiple (length before) (suc r) (suc m) z e (omega arith)
            (omega arith) in omega (arith, k, l))
        | false ↦ λ b. group_after m (before ++ x ∷ []) xs r j s w (omega (arith, l))
            (omega (arith, q)) ∙ slot_more (suc m) s x xs
      ]) refl

  -- the j-th group, where there is one
  pub group_at : (n : ℕ) (xs : List X) (j : ℕ) → 0 < n
      → slice_get (groups n xs) j ≡ cond (nat_lt (j * n) (length xs)) (Some (block n j xs)) None
  group_at zero xs j h = absurd (omega (arith, h))
  group_at (suc m) xs j h =
      group_after m [] xs 0 j (j * suc m) (mod-eq_of_lt (omega arith)) (omega arith) (omega arith)

  -- group j of a list is its block j, if that begins within the list
  pub group_is : (n : ℕ) (xs : List X) (j : ℕ) → 0 < n → j * n < length xs
      → slice_get (groups n xs) j ≡ Some (block n j xs)
  group_is n xs j h l =
      group_at n xs j h ∙ ap (λ b. cond b (Some (block n j xs)) None) (lt-ltb _ _ l)

  -- there is a group j if block j begins within the list
  pub group_within : (n : ℕ) (xs : List X) (j : ℕ) → 0 < n → j * n < length xs
      → j < length (groups n xs)
  group_within n xs j h l = slice_get_within (groups n xs) j _ (group_is n xs j h l)

  -- and only then
  pub group_beyond : (n : ℕ) (xs : List X) (j : ℕ) → 0 < n → j < length (groups n xs)
      → j * n < length xs
  group_beyond n xs j h l =
      ⊎_elim (λ k. k)
      (λ k. absurd
      (some_none _
      (sym (slice_get-get_or (groups n xs) j [] l) ∙ group_at n xs j h ∙ ap
      (λ b. cond b (Some (block n j xs)) None)
      (le-ltb _ _ k)))) (cases_lt (j * n) (length xs))

  -- the groups are as many as the elements by n, rounded up
  pub length-groups : (m : ℕ) (xs : List X) → length (groups (suc m) xs) ≡ (length xs + m) / suc m
  length-groups m xs =
      let g = length (groups (suc m) xs) in
      let q = (length xs + m) / suc m in
      let s : q * suc m + (length xs + m) % suc m ≡ length xs + m =
      div-add-mod' (length xs + m) (suc m) in
      let r : (length xs + m) % suc m < suc m = mod_below (length xs + m) (suc m) (omega arith) in
      ⊎_elim
      (λ (l : g < q). absurd (
      let p : suc g * suc m ≤ q * suc m = grind arith in
      let k : g < g =
      group_within (suc m) xs g (omega arith) (omega (arith, p, s, r)) in omega (arith, k)))
      (λ (l : q ≤ g). ⊎_elim
      (λ (k : q < g). absurd
      (let b : q * suc m
      < length xs = group_beyond (suc m) xs q (omega arith) k in omega (arith, b, s, r)))
      (λ (k : g ≤ q). omega (arith, k, l))
      (cases_lt q g))
      (cases_lt g q)

  -- what one more element at the end does to the blocks
  pub block_push-at : (n : ℕ) (xs : List X) (y : X) (j : ℕ) → 0 < n → j ≡ length xs / n
      → block n j (xs ++ y ∷ []) ≡ block n j xs ++ y ∷ []
  block_push-at n xs y j h e =
      let s : j * n + length xs % n ≡ length xs =
      ap (λ q. q * n + length xs % n) e ∙ div-add-mod' (length xs) n in
      let r : length xs % n < n = mod_below (length xs) n h in
      let d : length (drop (j * n) xs) ≡ length xs % n =
      length-drop (j * n) xs ∙ omega (arith, s) in
      let w : length (drop (j * n) xs ++ y ∷ []) ≡ length xs % n + 1 =
      length-append (drop (j * n) xs) (y ∷ []) ∙ ap (λ k. k + 1) d in
      ap (take n) (drop-append-le (j * n) xs (y ∷ []) (omega (arith, s)))
      ∙ take_all n (drop (j * n) xs ++ y ∷ []) (omega (arith, w, r))
      ∙ ap (λ l. l ++ y ∷ []) (sym (take_all n (drop (j * n) xs) (omega (arith, d, r))))

  -- an element at the end changes no block but the last
  pub block_push-other : (n : ℕ) (xs : List X) (y : X) (j : ℕ) → 0 < n → j ≢ length xs / n
      → block n j (xs ++ y ∷ []) ≡ block n j xs
  block_push-other n xs y j h e =
      let q = length xs / n in
      let s : q * n + length xs % n ≡ length xs = div-add-mod' (length xs) n in
      let r : length xs % n < n = mod_below (length xs) n h in
      ⊎_elim
      (λ (l : j < q).
      let p : suc j * n ≤ q * n = grind arith in
      ap (take n) (drop-append-le (j * n) xs (y ∷ []) (omega (arith, s, p)))
      ∙ take-append-le n (drop (j * n) xs) (y ∷ [])
      (let d = length-drop (j * n) xs in omega (arith, s, p, d)))
      (λ (l : q ≤ j).
      let k : suc q ≤ j = omega (arith, l, e) in
      let p : suc q * n ≤ j * n = grind arith in
      ap (take n)
      (drop_all (j * n) (xs ++ y ∷ [])
      (let d = length-append xs (y ∷ []) in omega (arith, s, r, p, d)) ∙ sym
      (drop_all (j * n) xs (omega (arith, s, r, p)))))
      (cases_lt j q)

  -- what one changed element does to the blocks
  take-set_below : (n : ℕ) (xs : List X) (i : ℕ) (v : X) → take n (set xs i v) ≡ set (take n xs) i v
  take-set_below zero xs i v = refl
  take-set_below (suc n) [] i v = refl
  take-set_below (suc n) (x ∷ xs) zero v = refl
  take-set_below (suc n) (x ∷ xs) (suc i) v = ap (λ l. x ∷ l) (take-set_below n xs i v)

  -- an element that is changed is changed in its block
  pub block_set-at : (n : ℕ) (xs : List X) (i : ℕ) (v : X)
      → block n (i / n) (set xs i v) ≡ set (block n (i / n) xs) (i % n) v
  block_set-at n xs i v =
      ap (λ k. take n (drop (i / n * n) (set xs k v))) (sym (div-add-mod' i n))
      ∙ ap (take n) (drop-set-add (i / n * n) xs (i % n) v)
      ∙ take-set_below n (drop (i / n * n) xs) (i % n) v

  -- and in no other block
  pub block_set-other : (n : ℕ) (xs : List X) (i : ℕ) (v : X) (j : ℕ) → 0 < n → j ≢ i / n
      → block n j (set xs i v) ≡ block n j xs
  block_set-other n xs i v j h e =
      let q = i / n in
      let s : q * n + i % n ≡ i = div-add-mod' i n in
      let r : i % n < n = mod_below i n h in
      ⊎_elim
      (λ (l : j < q).
      let p : suc j * n ≤ q * n = grind arith in
      let t : j * n + (i - j * n) ≡ i = omega (arith, s, p) in
      ap (λ k. take n (drop (j * n) (set xs k v))) (sym t)
      ∙ ap (take n) (drop-set-add (j * n) xs (i - j * n) v)
      ∙ take-set-le n (drop (j * n) xs) (i - j * n) v (omega (arith, s, p)))
      (λ (l : q ≤ j).
      let k : suc q ≤ j = omega (arith, l, e) in
      let p : suc q * n ≤ j * n = grind arith in
      ap (take n) (drop-set-lt (j * n) xs i v (omega (arith, s, r, p))))
      (cases_lt j q)

  -- a place within a block
  pub get-take : (n : ℕ) (xs : List X) (i : ℕ) → i < n → slice_get (take n xs) i ≡ slice_get xs i
  get-take zero xs i h = absurd (omega (arith, h))
  get-take (suc n) [] i h = refl
  get-take (suc n) (x ∷ xs) zero h = refl
  get-take (suc n) (x ∷ xs) (suc i) h = get-take n xs i (omega (arith, h))

  -- an element behind the first n, by its number in the whole list
  pub get-drop : (n : ℕ) (xs : List X) (i k : ℕ) → n + i ≡ k
      → slice_get (drop n xs) i ≡ slice_get xs k
  get-drop zero xs i k h = ap (slice_get xs) (omega (arith, h))
  get-drop (suc n) [] i k h = refl
  get-drop (suc n) (x ∷ xs) i zero h = absurd (omega (arith, h))
  get-drop (suc n) (x ∷ xs) i (suc k) h = get-drop n xs i k (omega (arith, h))

  -- an element of a block, by its number in the whole list
  pub get-block : (n : ℕ) (xs : List X) (i : ℕ) → 0 < n
      → slice_get (block n (i / n) xs) (i % n) ≡ slice_get xs i
  get-block n xs i h =
      get-take n (drop (i / n * n) xs) (i % n) (mod_below i n h) ∙ get-drop (i / n * n) xs (i % n) i
      (div-add-mod' i n)

  -- lists with the same elements
  pub same_by_get : (xs ys : List X) → ((i : ℕ) → slice_get xs i ≡ slice_get ys i) → xs ≡ ys
  same_by_get [] [] h = refl
  same_by_get [] (y ∷ ys) h = absurd (some_none y (sym (h 0)))
  same_by_get (x ∷ xs) [] h = absurd (some_none x (h 0))
  same_by_get (x ∷ xs) (y ∷ ys) h =
      λ i. some_same x y (h 0) i ∷ same_by_get xs ys (λ i. h (suc i)) i

-- A block of c * m elements joins c consecutive blocks of m: a level's groups join the blocks of the level below.
module _ {X : Type 0} where
  take_add : (a b k : ℕ) (l : List X) → a + b ≡ k → take k l ≡ take a l ++ take b (drop a l)
  take_add zero b k l e = ap (λ k. take k l) (omega (arith, e))
  take_add (suc a) b zero l e = absurd (omega (arith, e))
  take_add (suc a) b (suc k) [] e = sym (take_all b [] (omega arith))
  take_add (suc a) b (suc k) (x ∷ l) e = ap (λ r. x ∷ r) (take_add a b k l (omega (arith, e)))

  -- the elements of c groups from group j on are those of that stretch of the list
  pub joined_blocks : (c m j : ℕ) (xs : List X) → 0 < m
      → joined (take c (drop j (groups m xs))) ≡ take (c * m) (drop (j * m) xs)
  joined_blocks zero m j xs h = let z : 0 ≡ 0 * m =
      omega arith in ap (λ k. take k (drop (j * m) xs)) z
  joined_blocks (suc c) m j xs h =
      ⊎_elim
      (λ (l : j < length (groups m xs)).
      let b : j * m < length xs = group_beyond m xs j h l in
      let g : get_or (groups m xs) j [] ≡ block m j xs =
      get_or_from_slice_get (groups m xs) j (block m j xs) [] (group_is m xs j h b) in
      let t : (j + 1) * m ≡ j * m + m = omega arith in
      ap (λ l. joined (take (suc c) l)) (drop_more (groups m xs) j [] l)
      ∙ ap (λ g. g ++ joined (take c (drop (j + 1) (groups m xs)))) g
      ∙ ap (λ r. block m j xs ++ r)
      (joined_blocks c m (j + 1) xs h ∙ ap (λ k. take (c * m) (drop k xs)) t ∙ ap (take (c * m))
      (sym (drop-drop m (j * m) xs)))
      ∙ sym (take_add m (c * m) (suc c * m) (drop (j * m) xs) (omega arith)))
      (λ (l : length (groups m xs) ≤ j).
      let b : length xs ≤ j * m =
      ⊎_elim (λ (k : j * m < length xs). absurd
      (let w : j < length (groups m xs) = group_within m xs j h k in omega (arith, w, l))) (λ
      (k : length xs ≤ j * m). k) (cases_lt (j * m) (length xs)) in
      ap (λ l. joined (take (suc c) l)) (drop_all j (groups m xs) l)
      ∙ sym (ap (take (suc c * m)) (drop_all (j * m) xs b) ∙ take_all (suc c * m) [] (omega arith)))
      (cases_lt j (length (groups m xs)))
