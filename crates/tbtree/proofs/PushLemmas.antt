-- What a new element at the end does to the groups.
use Rattle.std.proofs.Common.{ℕ, suc, ◌+◌, ◌*◌, ◌/◌, ◌%◌, ◌<◌, ◌≤◌, ◌≡◌, ◌≢◌, cond, nat_lt, List, [], ◌∷◌, ◌++◌, take, set, length, refl, sym, ap, ◌∙◌, arith, lt-ltb, le-ltb, ⊎_elim, Some, None, slice_get}
use Rattle.std.proofs.lemmas.Nat.{div-add-mod', mod_below}
use Rattle.std.proofs.lemmas.Bool.{cases_eq, cases_lt}
use Rattle.std.proofs.lemmas.List.{length_push, drop_all, take_all}
use Rattle.legs.specs.Blocks.{groups, block}
use Rattle.legs.proofs.GroupLemmas.{group_at, group_is, group_within, group_beyond, block_push-at, block_push-other, same_by_get}
use Rattle.tbtree.proofs.Widening.{get-set_same, get-set_other}
use Rattle.tbtree.proofs.BeginLemmas.{get-push_last, get-push_other}

-- no multiple of n but q * n is from q * n on and below (q + 1) * n
apart_multiple : (j q n r N : ℕ) → q * n + r ≡ N → r < n → j ≢ q → j * n ≢ N
apart_multiple j q n r N s l e u =
    ⊎_elim
    (λ (k : j < q). let p : suc j * n ≤ q * n = grind arith in omega (arith, p, s, l, u))
    (λ (k : q ≤ j). let k' : suc q ≤ j = omega (arith, k, e) in let p : suc q * n ≤ j * n = grind arith in omega (arith, p, s, l, u))
    (cases_lt j q)

module _ {X : Type 0} (n : ℕ) (xs : List X) where
  -- all groups are full
  pub groups_full : 0 < n → length xs % n ≡ 0 → length (groups n xs) ≡ length xs / n
  groups_full h m =
      let N = length xs in
      let q = N / n in
      let s : q * n + N % n ≡ N = div-add-mod' N n in
      let g = length (groups n xs) in
      ⊎_elim
      (λ (l : g < q). absurd (let p : suc g * n ≤ q * n = grind arith in let k : g < g = group_within n xs g h (omega (arith, p, s, m, h)) in omega (arith, k)))
      (λ (l : q ≤ g). ⊎_elim
      (λ (k : q < g). absurd (let b : q * n < N = group_beyond n xs q h k in omega (arith, b, s, m)))
      (λ (k : g ≤ q). omega (arith, k, l))
      (cases_lt q g))
      (cases_lt g q)

module _ {X : Type 0} (n : ℕ) (xs : List X) (y : X) where
  others : (h : 0 < n) (j : ℕ) → j ≢ length xs / n → slice_get (groups n (xs ++ y ∷ [])) j ≡ slice_get (groups n xs) j
  others h j e =
      let N = length xs in
      let ne : j * n ≢ N = apart_multiple j (N / n) n (N % n) N (div-add-mod' N n) (mod_below N n h) e in
      let b : nat_lt (j * n) (length (xs ++ y ∷ [])) ≡ nat_lt (j * n) N = ⊎_elim
      (λ (l : j * n < N). lt-ltb _ _ (let p = length_push xs y in omega (arith, p, l)) ∙ sym (lt-ltb _ _ l))
      (λ (l : N ≤ j * n). le-ltb _ _ (let p = length_push xs y in omega (arith, p, l, ne)) ∙ sym (le-ltb _ _ l))
      (cases_lt (j * n) N) in
      group_at n (xs ++ y ∷ []) j h ∙ ap (λ b. cond b (Some (block n j (xs ++ y ∷ []))) None) b
      ∙ ap (λ l. cond (nat_lt (j * n) N) (Some l) None) (block_push-other n xs y j h e) ∙ sym (group_at n xs j h)

  at_end : (h : 0 < n) → slice_get (groups n (xs ++ y ∷ [])) (length xs / n) ≡ Some (block n (length xs / n) xs ++ y ∷ [])
  at_end h =
      let N = length xs in
      let s : N / n * n + N % n ≡ N = div-add-mod' N n in
      group_is n (xs ++ y ∷ []) (N / n) h (let p = length_push xs y in omega (arith, p, s)) ∙ ap Some (block_push-at n xs y (N / n) h refl)

  -- the last group has room
  pub groups_push-same : 0 < n → 0 < length xs % n → groups n (xs ++ y ∷ []) ≡ set (groups n xs) (length xs / n) (block n (length xs / n) xs ++ y ∷ [])
  groups_push-same h m =
      let N = length xs in
      let s : N / n * n + N % n ≡ N = div-add-mod' N n in
      let g : slice_get (groups n xs) (N / n) ≡ Some (block n (N / n) xs) = group_is n xs (N / n) h (omega (arith, s, m)) in
      same_by_get _ _ (λ j. ⊎_elim
      (λ (e : j ≡ N / n). ap (slice_get (groups n (xs ++ y ∷ []))) e ∙ at_end h ∙ sym (ap (slice_get (set (groups n xs) (N / n) (block n (N / n) xs ++ y ∷ []))) e ∙ get-set_same (groups n xs) (N / n) _ _ g))
      (λ (e : j ≢ N / n). others h j e ∙ sym (get-set_other (groups n xs) (N / n) j _ e))
      (cases_eq j (N / n)))

  -- all groups are full: a new one is begun
  pub groups_push-new : 0 < n → length xs % n ≡ 0 → groups n (xs ++ y ∷ []) ≡ groups n xs ++ (y ∷ []) ∷ []
  groups_push-new h m =
      let N = length xs in
      let q = N / n in
      let s : q * n + N % n ≡ N = div-add-mod' N n in
      let lg : q ≡ length (groups n xs) = sym (groups_full n xs h m) in
      let none : block n q xs ≡ [] = ap (take n) (drop_all (q * n) xs (omega (arith, s, m))) ∙ take_all n [] (omega arith) in
      same_by_get _ _ (λ j. ⊎_elim
      (λ (e : j ≡ q). ap (slice_get (groups n (xs ++ y ∷ []))) e ∙ at_end h ∙ ap (λ l. Some (l ++ y ∷ [])) none ∙ sym (get-push_last (groups n xs) (y ∷ []) j (e ∙ lg)))
      (λ (e : j ≢ q). others h j e ∙ sym (get-push_other (groups n xs) (y ∷ []) j (λ u. e (u ∙ sym lg))))
      (cases_eq j q))
