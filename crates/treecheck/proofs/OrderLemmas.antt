-- The legs and leaves of all features together.
use Rattle.std.proofs.Common.{◌≡◌, ℕ, zero, suc, ◌+◌, ◌-◌, ◌<◌, ◌≤◌, List, [], ◌∷◌, length, get_or, Some, None, slice_get, refl, sym, ap, ◌∙◌, arith, subst, ⊎_elim}
use Rattle.std.specs.List.{range_with_len}
use Rattle.std.proofs.lemmas.Bool.{cases_lt}
use Rattle.std.proofs.lemmas.Option.{slice_get-get_or}
use Rattle.tbtree.specs.Turn.{IsPast, IsRising}
use Rattle.treecheck.proofs.WalkLemmas.{same_some}

pub length_range : (a n : ℕ) → length (range_with_len a n) ≡ n
length_range a zero = refl
length_range a (suc n) = ap (λ n. suc n) (length_range (a + 1) n)

-- numbers that are their places
pub range_from : (a : ℕ) (xs : List ℕ) → ((j x : ℕ) → slice_get xs j ≡ Some x → x ≡ a + j) → xs ≡ range_with_len a (length xs)
range_from a [] h = refl
range_from a (x ∷ xs) h =
    let first : x ≡ a = (let e = h 0 x refl in omega (arith, e)) in
    let rest : xs ≡ range_with_len (a + 1) (length xs) = range_from (a + 1) xs (λ j y e. (let s = h (suc j) y e in omega (arith, s))) in
    λ i. first i ∷ rest i

pub range_at : (a n : ℕ) (xs : List ℕ) (j x : ℕ) → xs ≡ range_with_len a n → slice_get xs j ≡ Some x → x ≡ a + j
range_at a n xs j x e g = at a n j x (ap (λ l. slice_get l j) (sym e) ∙ g)
  where
    at : (a n j x : ℕ) → slice_get (range_with_len a n) j ≡ Some x → x ≡ a + j
    at a zero j x g = let none : None ≡ Some x = g in absurd (cc)
    at a (suc n) zero x g = let s : a ≡ x = same_some a x g in omega (arith, s)
    at a (suc n) (suc j) x g = let s = at (a + 1) n j x g in omega (arith, s)

pub past_range : (b a n : ℕ) → b < a → IsPast (λ m. m) b (range_with_len a n)
past_range b a zero l = tt
past_range b a (suc n) l = (l, past_range b (a + 1) n (omega (arith, l)))

pub rising_range : (a n : ℕ) → IsRising (λ m. m) (range_with_len a n)
rising_range a zero = tt
rising_range a (suc n) = (past_range a (a + 1) n (omega arith), rising_range (a + 1) n)

-- what holds of places below i, and of place i, holds of those below i + 1
pub below_more : {X : Type 0} (P : ℕ → X → Type 0) (xs : List X) (i : ℕ) (x : X) → slice_get xs i ≡ Some x → P i x → ((j : ℕ) (y : X) → j < i → slice_get xs j ≡ Some y → P j y)
    → (j : ℕ) (y : X) → j < i + 1 → slice_get xs j ≡ Some y → P j y
below_more P xs i x e p h j y l g =
    ⊎_elim (λ (k : j < i). h j y k g)
    (λ (k : i ≤ j). let s : i ≡ j = omega (arith, k, l) in subst (λ j. P j y) s (subst (P i) (same_some x y (sym e ∙ ap (slice_get xs) s ∙ g)) p))
    (cases_lt j i)

pub at_less : {X : Type 0} (xs : List X) (i : ℕ) (x : X) → slice_get xs i ≡ Some x → i < length xs
at_less [] i x e = let none : None ≡ Some x = e in absurd (cc)
at_less (y ∷ xs) zero x e = omega arith
at_less (y ∷ xs) (suc i) x e = (let l = at_less xs i x e in omega (arith, l))

module _ {X : Type 0} (num : X → ℕ) where
  past_lower : (a b : ℕ) (xs : List X) → b ≤ a → IsPast num a xs → IsPast num b xs
  past_lower a b [] l h = tt
  past_lower a b (x ∷ xs) l h = (omega (arith, l, h.0), past_lower a b xs l h.1)

  -- numbers each of which is above the one before it
  pub rising_from : (xs : List X) → ((j : ℕ) (a b : X) → slice_get xs j ≡ Some a → slice_get xs (suc j) ≡ Some b → num a < num b) → IsRising num xs
  rising_from [] h = tt
  rising_from (x ∷ []) h = (tt, tt)
  rising_from (x ∷ y ∷ xs) h =
      let on = rising_from (y ∷ xs) (λ j. h (suc j)) in
      let l = h 0 x y refl refl in
      ((l, past_lower (num y) (num x) xs (omega (arith, l)) on.0), on)

  pub rising_next : (xs : List X) (j : ℕ) (a b : X) → IsRising num xs → slice_get xs j ≡ Some a → slice_get xs (suc j) ≡ Some b → num a < num b
  rising_next [] j a b r e g = let none : None ≡ Some a = e in absurd (cc)
  rising_next (x ∷ []) zero a b r e g = let none : None ≡ Some b = g in absurd (cc)
  rising_next (x ∷ []) (suc j) a b r e g = let none : None ≡ Some a = e in absurd (cc)
  rising_next (x ∷ y ∷ xs) zero a b r e g = let p = r.0.0 in let s : num x ≡ num a = ap num (same_some x a e) in let t : num y ≡ num b = ap num (same_some y b g) in omega (arith, p, s, t)
  rising_next (x ∷ y ∷ xs) (suc j) a b r e g = rising_next (y ∷ xs) j a b r.1 e g

  -- so far each number is above the one before it
  abbrev pub IsRisingBelow : ℕ → List X → Type 0
  IsRisingBelow i xs = (j : ℕ) (a b : X) → suc j < i → slice_get xs j ≡ Some a → slice_get xs (suc j) ≡ Some b → num a < num b

  pub rising_more : (xs : List X) (i : ℕ) (d : X) → 1 ≤ i → i < length xs → num (get_or xs (i - 1) d) < num (get_or xs i d) → IsRisingBelow i xs → IsRisingBelow (i + 1) xs
  rising_more xs i d one l up h j a b k e g =
      ⊎_elim (λ (m : suc j < i). h j a b m e g)
      (λ (m : i ≤ suc j).
      let s : i ≡ suc j = omega (arith, m, k) in
      let here : get_or xs i d ≡ b = same_some (get_or xs i d) b (sym (slice_get-get_or xs i d l) ∙ ap (slice_get xs) s ∙ g) in
      let t : i - 1 ≡ j = omega (arith, s) in
      let before : get_or xs (i - 1) d ≡ a = same_some (get_or xs (i - 1) d) a (sym (slice_get-get_or xs (i - 1) d (omega (arith, l))) ∙ ap (slice_get xs) t ∙ e) in
      let p : num (get_or xs i d) ≡ num b = ap num here in
      let q : num (get_or xs (i - 1) d) ≡ num a = ap num before in
      omega (arith, up, p, q))
      (cases_lt (suc j) i)

  pub rising_all : (xs : List X) (i : ℕ) → length xs ≤ i → IsRisingBelow i xs → IsRising num xs
  rising_all xs i l h = rising_from xs (λ j a b e g. h j a b (let k = at_less xs (suc j) b g in omega (arith, k, l)) e g)

  pub not_rising : (xs : List X) (i : ℕ) (d : X) → 1 ≤ i → i < length xs → num (get_or xs i d) ≤ num (get_or xs (i - 1) d) → IsRising num xs → ⊥
  not_rising xs i d one l down r =
      let j = i - 1 in
      let s : i ≡ suc j = omega (arith, one) in
      let up = rising_next xs j (get_or xs j d) (get_or xs i d) r (slice_get-get_or xs j d (omega (arith, l))) (ap (slice_get xs) (sym s) ∙ slice_get-get_or xs i d l) in
      omega (arith, up, down)

  pub rising_step : (xs : List X) (i : ℕ) (x y : X) → 1 ≤ i → slice_get xs (i - 1) ≡ Some x → slice_get xs i ≡ Some y → num x < num y → IsRisingBelow i xs → IsRisingBelow (i + 1) xs
  rising_step xs i x y one p q up h j a b k e g =
      ⊎_elim (λ (m : suc j < i). h j a b m e g)
      (λ (m : i ≤ suc j).
      let s : i ≡ suc j = omega (arith, m, k) in
      let t : i - 1 ≡ j = omega (arith, s) in
      let v : num y ≡ num b = ap num (same_some y b (sym q ∙ ap (slice_get xs) s ∙ g)) in
      let u : num x ≡ num a = ap num (same_some x a (sym p ∙ ap (slice_get xs) t ∙ e)) in
      omega (arith, up, u, v))
      (cases_lt (suc j) i)

  pub no_rise : (xs : List X) (i : ℕ) (x y : X) → 1 ≤ i → slice_get xs (i - 1) ≡ Some x → slice_get xs i ≡ Some y → num y ≤ num x → IsRising num xs → ⊥
  no_rise xs i x y one p q down r = let s : i ≡ suc (i - 1) = omega (arith, one) in let up = rising_next xs (i - 1) x y r p (ap (slice_get xs) (sym s) ∙ q) in omega (arith, up, down)
