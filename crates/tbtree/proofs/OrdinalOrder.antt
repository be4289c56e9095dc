-- Legs in order of their ordinals are the list's.
use Rattle.std.proofs.Common.{◌≡◌, ℕ, suc, ◌+◌, ◌<◌, ◌≤◌, ◌==◌, Bool, true, false, cond, List, [], ◌∷◌, map, Some, slice_get, refl, sym, ap, ◌∙◌, arith, ⊎_elim}
use Rattle.std.specs.List.{filter, count_by, sum_by, All}
use Rattle.std.specs.List.Sorted.{IsPermutation, IsNonDecreasingBy}
use Rattle.std.specs.Cmp.{nat_eq_equiv}
use Rattle.std.proofs.lemmas.Bool.{cases_lt, eqb-true}
use Rattle.std.proofs.lemmas.List.Sums.{sum_by-cons}
use Rattle.std.proofs.lemmas.List.Elements.{All-head, All-tail, All-nil, All-cons, All-filter}
use Rattle.std.proofs.lemmas.List.Sorted.{sum_by-IsPermutation, All-permutation}
use Rattle.legs.proofs.GroupLemmas.{some_same}

abbrev pub AreAbove : ℕ → List ℕ → Type 0
AreAbove a [] = Unit {0}
AreAbove a (x ∷ xs) = (a ≤ x) × AreAbove a xs

abbrev pub IsUp : List ℕ → Type 0
IsUp [] = Unit {0}
IsUp (x ∷ xs) = AreAbove x xs × IsUp xs

abbrev pub times : ℕ → List ℕ → ℕ
times n xs = count_by (λ m. m == n) xs

abbrev pub weight : Bool → ℕ
weight b = cond b 1 0

times-cons : (n x : ℕ) (xs : List ℕ) → times n (x ∷ xs) ≡ weight (x == n) + times n xs
times-cons n x xs = sum_by-cons (λ m. weight (m == n)) x xs

one : (x : ℕ) → weight (x == x) ≡ 1
one x = ap weight (nat_eq_equiv.refl x)

other : (x n : ℕ) → n < x → weight (x == n) ≡ 0
other x n h =
    (elim (x == n) as (λ b. (x == n) ≡ b → weight b ≡ 0) [
      | true ↦ λ e. absurd (let f : x ≡ n = eqb-true x n e in omega arith)
      | false ↦ λ e. refl
    ]) refl

none : (n a : ℕ) (xs : List ℕ) → n < a → AreAbove a xs → times n xs ≡ 0
none n a [] l h = refl
none n a (x ∷ xs) l h = let o = other x n (omega (arith, h.0)) in let i = none n a xs l h.1 in omega (arith, times-cons n x xs, o, i)

not_below : (a b : ℕ) (xs ys : List ℕ) → IsUp (b ∷ ys) → times a (a ∷ xs) ≡ times a (b ∷ ys) → b ≤ a
not_below a b xs ys u e =
    ⊎_elim
    (λ l. absurd (
    let n = none a b ys l u.0 in let o = other b a l in let p = one a in
    omega (arith, e, times-cons a a xs, times-cons a b ys, n, o, p)))
    (λ l. l)
    (cases_lt a b)

pub same_in_order : (xs ys : List ℕ) → IsUp xs → IsUp ys → ((n : ℕ) → times n xs ≡ times n ys) → xs ≡ ys
same_in_order [] [] u v e = refl
same_in_order [] (y ∷ ys) u v e = absurd (let p = one y in omega (arith, e y, times-cons y y ys, p))
same_in_order (x ∷ xs) [] u v e = absurd (let p = one x in omega (arith, e x, times-cons x x xs, p))
same_in_order (x ∷ xs) (y ∷ ys) u v e =
    let s = not_below x y xs ys v (e x) in
    let t = not_below y x ys xs u (sym (e y)) in
    let q : x ≡ y = omega arith in
    let on : xs ≡ ys = same_in_order xs ys u.1 v.1 (λ n.
    let f = ap (λ k. weight (k == n)) q in
    omega (arith, e n, times-cons n x xs, times-cons n y ys, f)) in
    λ i. q i ∷ on i

pub lower : (a b : ℕ) (xs : List ℕ) → b ≤ a → AreAbove a xs → AreAbove b xs
lower a b [] l h = tt
lower a b (x ∷ xs) l h = (omega (arith, l, h.0), lower a b xs l h.1)

pub all_from_get : {X : Type 0} (P : X → Type 0) (xs : List X) → ((i : ℕ) (x : X) → slice_get xs i ≡ Some x → P x) → All P xs
all_from_get P [] h = All-nil P
all_from_get P (x ∷ xs) h = All-cons P x xs (h 0 x refl) (all_from_get P xs (λ i. h (suc i)))

module _ {L : Type 0} (ordinal : L → ℕ) where
  -- each element's number is its place
  abbrev pub IsPlaced : List L → L → Type 0
  IsPlaced content l = slice_get content (ordinal l) ≡ Some l

  same_by_ordinals : (content xs ys : List L) → All (IsPlaced content) xs → All (IsPlaced content) ys → map ordinal xs ≡ map ordinal ys → xs ≡ ys
  same_by_ordinals content [] [] p q e = refl
  same_by_ordinals content [] (y ∷ ys) p q e = absurd cc
  same_by_ordinals content (x ∷ xs) [] p q e = absurd cc
  same_by_ordinals content (x ∷ xs) (y ∷ ys) p q e =
      let h : ordinal x ≡ ordinal y = cc in
      let i : x ≡ y = some_same x y (sym (All-head (IsPlaced content) x xs p) ∙ ap (slice_get content) h ∙ All-head (IsPlaced content) y ys q) in
      let rest : map ordinal xs ≡ map ordinal ys = cc in
      let on : xs ≡ ys = same_by_ordinals content xs ys (All-tail (IsPlaced content) x xs p) (All-tail (IsPlaced content) y ys q) rest in
      λ j. i j ∷ on j

  abbrev at : ℕ → L → ℕ
  at n l = weight (ordinal l == n)

  times-map : (n : ℕ) (ls : List L) → times n (map ordinal ls) ≡ sum_by (at n) ls
  times-map n [] = refl
  times-map n (l ∷ ls) =
      let a = sum_by-cons (λ m. weight (m == n)) (ordinal l) (map ordinal ls) in
      let b = sum_by-cons (at n) l ls in
      let c = times-map n ls in
      omega (arith, a, b, c)

  above : (a : ℕ) (ls : List L) → All (λ l. a ≤ ordinal l) ls → AreAbove a (map ordinal ls)
  above a [] h = tt
  above a (l ∷ ls) h = (All-head (λ l. a ≤ ordinal l) l ls h, above a ls (All-tail (λ l. a ≤ ordinal l) l ls h))

  pub up_from_sorted : (ls : List L) → IsNonDecreasingBy ordinal ls → IsUp (map ordinal ls)
  up_from_sorted [] h = tt
  up_from_sorted (l ∷ ls) h = (above (ordinal l) ls (λ k d b. h 0 (suc k) d (omega arith) (omega (arith, b))), up_from_sorted ls (λ i j d a b. h (suc i) (suc j) d (omega (arith, a)) (omega (arith, b))))

  -- elements whose numbers count up from k, and what is filtered out of them
  up_from_placed : (p : L → Bool) (k : ℕ) (ls : List L) → ((i : ℕ) (l : L) → slice_get ls i ≡ Some l → ordinal l ≡ k + i) → AreAbove k (map ordinal (filter p ls)) × IsUp (map ordinal (filter p ls))
  up_from_placed p k [] h = (tt, tt)
  up_from_placed p k (l ∷ ls) h =
      let on = up_from_placed p (suc k) ls (λ i m e. h (suc i) m e ∙ omega arith) in
      let here : ordinal l ≡ k + 0 = h 0 l refl in
      let low : AreAbove k (map ordinal (filter p ls)) = lower (suc k) k (map ordinal (filter p ls)) (omega arith) on.0 in
      let mine : AreAbove (ordinal l) (map ordinal (filter p ls)) = lower (suc k) (ordinal l) (map ordinal (filter p ls)) (omega (arith, here)) on.0 in
      elim (p l) as (λ v. AreAbove k (map ordinal (cond v (l ∷ filter p ls) (filter p ls))) × IsUp (map ordinal (cond v (l ∷ filter p ls) (filter p ls)))) [
        | true ↦ ((omega (arith, here), low), (mine, on.1))
        | false ↦ (low, on.1)
      ]

  -- in order, what is filtered out of a list whose elements have their places as numbers
  pub in_order : (p : L → Bool) (content found : List L) → ((i : ℕ) (l : L) → slice_get content i ≡ Some l → ordinal l ≡ i) → IsPermutation (filter p content) found → IsUp (map ordinal found) → found ≡ filter p content
  in_order p content found h m s =
      let placed : All (IsPlaced content) content = all_from_get (IsPlaced content) content (λ i l e. ap (slice_get content) (h i l e) ∙ e) in
      let kept : All (IsPlaced content) (filter p content) = All-filter p (IsPlaced content) content placed in
      same_by_ordinals content found (filter p content) (All-permutation (IsPlaced content) (filter p content) found m kept) kept
      (same_in_order (map ordinal found) (map ordinal (filter p content)) s (up_from_placed p 0 content (λ i l e. h i l e ∙ omega arith)).1
      (λ n. times-map n found ∙ sum_by-IsPermutation (at n) (filter p content) found m ∙ sym (times-map n (filter p content))))
