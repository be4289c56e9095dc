-- Lists whose elements' numbers rise.
use Rattle.std.proofs.Common.{◌≡◌, ◌≢◌, ℕ, zero, suc, ◌+◌, ◌<◌, ◌≤◌, ◌==◌, Bool, true, false, cond, List, [], ◌∷◌, length, map, Some, slice_get, refl, sym, ap, ◌∙◌, arith, subst, ⊎_elim, eq-eqb}
use Rattle.std.specs.List.{filter, sum_by, All}
use Rattle.std.specs.List.Sorted.{IsPermutation, IsNonDecreasingBy}
use Rattle.std.proofs.lemmas.Bool.{cases_eq}
use Rattle.std.proofs.lemmas.List.Sums.{sum_by-cons}
use Rattle.std.proofs.lemmas.List.Elements.{All-head, All-tail, All-nil, All-cons}
use Rattle.std.proofs.lemmas.List.Sorted.{sum_by-IsPermutation, All-permutation}
use Rattle.tbtree.specs.Turn.{IsPast, IsRising}
use Rattle.legs.proofs.BlockLemmas.{all_pass}
use Rattle.legs.proofs.GroupLemmas.{some_none, some_same}
use Rattle.tbtree.proofs.KeyRuns.{is}
use Rattle.tbtree.proofs.OrdinalOrder.{AreAbove, IsUp, same_in_order, all_from_get, times, weight, up_from_sorted}
use Rattle.tbtree.proofs.RoomLemmas.{neq-eqb}
use Rattle.tbtree.proofs.Widening.{cons_head, cons_tail, nil_cons}

module _ {X : Type 0} where
  -- the element is one of the list
  abbrev pub IsIn : List X → X → Type 0
  IsIn xs x = (i : ℕ) × (slice_get xs i ≡ Some x)

  pub get_few : (xs : List X) (i : ℕ) (x : X) → slice_get xs i ≡ Some x → i < length xs
  get_few [] i x e = absurd (some_none x (sym e))
  get_few (y ∷ xs) zero x e = omega arith
  get_few (y ∷ xs) (suc i) x e = (let l = get_few xs i x e in omega (arith, l))

  pub all_in : (xs : List X) → All (IsIn xs) xs
  all_in xs = all_from_get (IsIn xs) xs (λ i x e. (i, e))

  pub in_filter : (p : X → Bool) (xs : List X) (i : ℕ) (x : X) → slice_get xs i ≡ Some x → p x ≡ true → IsIn (filter p xs) x
  in_filter p [] i x e t = absurd (some_none x (sym e))
  in_filter p (y ∷ ys) zero x e t =
      let s : p y ≡ true = ap p (some_same y x e) ∙ t in
      (0, ap (λ b. slice_get (cond b (y ∷ filter p ys) (filter p ys)) 0) s ∙ e)
  in_filter p (y ∷ ys) (suc i) x e t =
      let r = in_filter p ys i x e t in
      elim (p y) as (λ b. IsIn (cond b (y ∷ filter p ys) (filter p ys)) x) [ true ↦ (suc r.0, r.1) | false ↦ r ]

  module _ (own : X → ℕ) where
    pub own_first : (f : ℕ) (x : X) (xs : List X) → own x ≡ f → filter (is own f) (x ∷ xs) ≡ x ∷ filter (is own f) xs
    own_first f x xs e = ap (λ b. cond b (x ∷ filter (is own f) xs) (filter (is own f) xs)) (eq-eqb _ _ e)

    pub not_own : (f : ℕ) (x : X) (xs : List X) → own x ≢ f → filter (is own f) (x ∷ xs) ≡ filter (is own f) xs
    not_own f x xs u = ap (λ b. cond b (x ∷ filter (is own f) xs) (filter (is own f) xs)) (neq-eqb _ _ u)

module _ {X : Type 0} (num : X → ℕ) where
  pub past_lower : (a b : ℕ) (xs : List X) → b ≤ a → IsPast num a xs → IsPast num b xs
  past_lower a b [] l h = tt
  past_lower a b (x ∷ xs) l h = (omega (arith, l, h.0), past_lower a b xs l h.1)

  past_above : (a : ℕ) (xs : List X) → IsPast num a xs → AreAbove a (map num xs)
  past_above a [] h = tt
  past_above a (x ∷ xs) h = (omega (arith, h.0), past_above a xs h.1)

  pub rising_up : (xs : List X) → IsRising num xs → IsUp (map num xs)
  rising_up [] h = tt
  rising_up (x ∷ xs) h = (past_above (num x) xs h.0, rising_up xs h.1)

  pub past_get : (a : ℕ) (xs : List X) (i : ℕ) (x : X) → IsPast num a xs → slice_get xs i ≡ Some x → a < num x
  past_get a [] i x h e = absurd (some_none x (sym e))
  past_get a (y ∷ ys) zero x h e = subst (λ z. a < num z) (some_same y x e) h.0
  past_get a (y ∷ ys) (suc i) x h e = past_get a ys i x h.1 e

  -- a number stands once
  pub rising_once : (xs : List X) (i j : ℕ) (a b : X) → IsRising num xs → slice_get xs i ≡ Some a → slice_get xs j ≡ Some b → num a ≡ num b → i ≡ j
  rising_once [] i j a b h e f n = absurd (some_none a (sym e))
  rising_once (x ∷ xs) zero zero a b h e f n = refl
  rising_once (x ∷ xs) zero (suc j) a b h e f n = absurd (let l = past_get (num x) xs j b h.0 f in let s : num x ≡ num a = ap num (some_same x a e) in omega (arith, l, s, n))
  rising_once (x ∷ xs) (suc i) zero a b h e f n = absurd (let l = past_get (num x) xs i a h.0 e in let s : num x ≡ num b = ap num (some_same x b f) in omega (arith, l, s, n))
  rising_once (x ∷ xs) (suc i) (suc j) a b h e f n = ap suc (rising_once xs i j a b h.1 e f n)

  past_filter : (a : ℕ) (p : X → Bool) (xs : List X) (x : X) (zs : List X) → IsPast num a xs → filter p xs ≡ x ∷ zs → a < num x
  past_filter a p [] x zs h e = absurd (nil_cons x zs e)
  past_filter a p (y ∷ ys) x zs h e =
      (elim (p y) as (λ b. cond b (y ∷ filter p ys) (filter p ys) ≡ x ∷ zs → a < num x) [
        | true ↦ λ e. subst (λ z. a < num z) (cons_head y x (filter p ys) zs e) h.0
        | false ↦ λ e. past_filter a p ys x zs h.1 e
      ]) e

  above_filter : (a : ℕ) (p : X → Bool) (xs : List X) (x : X) (zs : List X) → AreAbove a (map num xs) → filter p xs ≡ x ∷ zs → a ≤ num x
  above_filter a p [] x zs h e = absurd (nil_cons x zs e)
  above_filter a p (y ∷ ys) x zs h e =
      (elim (p y) as (λ b. cond b (y ∷ filter p ys) (filter p ys) ≡ x ∷ zs → a ≤ num x) [
        | true ↦ λ e. subst (λ z. a ≤ num z) (cons_head y x (filter p ys) zs e) h.0
        | false ↦ λ e. above_filter a p ys x zs h.1 e
      ]) e

  filter_above : (a : ℕ) (p : X → Bool) (xs : List X) → AreAbove a (map num xs) → AreAbove a (map num (filter p xs))
  filter_above a p [] h = tt
  filter_above a p (x ∷ xs) h =
      elim (p x) as (λ b. AreAbove a (map num (cond b (x ∷ filter p xs) (filter p xs)))) [ true ↦ (h.0, filter_above a p xs h.1) | false ↦ filter_above a p xs h.1 ]

  pub filter_up : (p : X → Bool) (xs : List X) → IsUp (map num xs) → IsUp (map num (filter p xs))
  filter_up p [] h = tt
  filter_up p (x ∷ xs) h =
      elim (p x) as (λ b. IsUp (map num (cond b (x ∷ filter p xs) (filter p xs)))) [ true ↦ (filter_above (num x) p xs h.0, filter_up p xs h.1) | false ↦ filter_up p xs h.1 ]

  -- lists that have the same elements of each owner are the same, where one is in order and the other one rises
  pub one_order : (own : X → ℕ) (xs ys : List X) → IsUp (map num xs) → IsRising num ys → ((f : ℕ) → filter (is own f) xs ≡ filter (is own f) ys) → xs ≡ ys
  one_order own [] [] u r h = refl
  one_order own [] (y ∷ ys) u r h = absurd (nil_cons y (filter (is own (own y)) ys) (h (own y) ∙ own_first own (own y) y ys refl))
  one_order own (x ∷ xs) [] u r h = absurd (nil_cons x (filter (is own (own x)) xs) (sym (h (own x)) ∙ own_first own (own x) x xs refl))
  one_order own (x ∷ xs) (y ∷ ys) u r h =
      ⊎_elim
      (λ (e : own x ≡ own y).
      let f = own y in
      let both : x ∷ filter (is own f) xs ≡ y ∷ filter (is own f) ys = sym (own_first own f x xs e) ∙ h f ∙ own_first own f y ys refl in
      let head : x ≡ y = cons_head x y (filter (is own f) xs) (filter (is own f) ys) both in
      let rest : xs ≡ ys = one_order own xs ys u.1 r.1 (λ g. ⊎_elim
      (λ (s : f ≡ g). subst (λ g. filter (is own g) xs ≡ filter (is own g) ys) s (cons_tail x y (filter (is own f) xs) (filter (is own f) ys) both))
      (λ (s : f ≢ g). sym (not_own own g x xs (λ t. s (sym e ∙ t))) ∙ h g ∙ not_own own g y ys s)
      (cases_eq f g)) in
      λ i. head i ∷ rest i)
      (λ (e : own x ≢ own y).
      let later : filter (is own (own x)) ys ≡ x ∷ filter (is own (own x)) xs = sym (not_own own (own x) y ys (λ t. e (sym t))) ∙ sym (h (own x)) ∙ own_first own (own x) x xs refl in
      let earlier : filter (is own (own y)) xs ≡ y ∷ filter (is own (own y)) ys = sym (not_own own (own y) x xs e) ∙ h (own y) ∙ own_first own (own y) y ys refl in
      let a = past_filter (num y) (is own (own x)) ys x (filter (is own (own x)) xs) r.0 later in
      let b = above_filter (num x) (is own (own y)) xs y (filter (is own (own y)) ys) u.0 earlier in
      absurd (omega (arith, a, b)))
      (cases_eq (own x) (own y))

  -- elements of a rising list are told by their numbers
  same_by_numbers : (zs : List X) → IsRising num zs → (xs ys : List X) → All (IsIn zs) xs → All (IsIn zs) ys → map num xs ≡ map num ys → xs ≡ ys
  same_by_numbers zs r [] [] p q e = refl
  same_by_numbers zs r [] (y ∷ ys) p q e = absurd cc
  same_by_numbers zs r (x ∷ xs) [] p q e = absurd cc
  same_by_numbers zs r (x ∷ xs) (y ∷ ys) p q e =
      let a = All-head (IsIn zs) x xs p in
      let b = All-head (IsIn zs) y ys q in
      let n : num x ≡ num y = cc in
      let i : a.0 ≡ b.0 = rising_once zs a.0 b.0 x y r a.1 b.1 n in
      let head : x ≡ y = some_same x y (sym a.1 ∙ ap (slice_get zs) i ∙ b.1) in
      let on : map num xs ≡ map num ys = cc in
      let rest : xs ≡ ys = same_by_numbers zs r xs ys (All-tail (IsIn zs) x xs p) (All-tail (IsIn zs) y ys q) on in
      λ i. head i ∷ rest i

  abbrev mark : (X → Bool) → ℕ → X → ℕ
  mark p n x = cond (p x) (weight (num x == n)) 0

  times-filter : (p : X → Bool) (n : ℕ) (xs : List X) → times n (map num (filter p xs)) ≡ sum_by (mark p n) xs
  times-filter p n [] = refl
  times-filter p n (x ∷ xs) =
      let on = times-filter p n xs in
      let c = sum_by-cons (mark p n) x xs in
      (elim (p x) as (λ b. p x ≡ b → times n (map num (cond b (x ∷ filter p xs) (filter p xs))) ≡ cond b (weight (num x == n)) 0 + sum_by (mark p n) xs) [
        | true ↦ λ _. let d = sum_by-cons (λ m. weight (m == n)) (num x) (map num (filter p xs)) in omega (arith, d, on)
        | false ↦ λ _. omega (arith, on)
      ]) refl ∙ sym c

  -- what is filtered out of a list that was put in order is in order
  pub own_order : (p : X → Bool) (zs xs ys : List X) → IsRising num zs → IsPermutation xs ys → filter p xs ≡ zs → IsUp (map num ys) → filter p ys ≡ zs
  own_order p zs xs ys r m e u =
      let Q : X → Type 0 = λ x. p x ≡ true → IsIn zs x in
      let all : All Q xs = all_from_get Q xs (λ i x g t. subst (λ zs. IsIn zs x) e (in_filter p xs i x g t)) in
      let moved : All Q ys = All-permutation Q xs ys m all in
      let kept : All (IsIn zs) (filter p ys) = all_kept p zs ys moved in
      same_by_numbers zs r (filter p ys) zs kept (all_in zs)
      (same_in_order (map num (filter p ys)) (map num zs) (filter_up p ys u) (rising_up zs r)
      (λ n. times-filter p n ys ∙ sum_by-IsPermutation (mark p n) xs ys m ∙ sym (times-filter p n xs) ∙ ap (λ l. times n (map num l)) e))
    where
      all_kept : (p : X → Bool) (zs ys : List X) → All (λ x. p x ≡ true → IsIn zs x) ys → All (IsIn zs) (filter p ys)
      all_kept p zs [] h = All-nil (IsIn zs)
      all_kept p zs (y ∷ ys) h =
          let on = all_kept p zs ys (All-tail (λ x. p x ≡ true → IsIn zs x) y ys h) in
          (elim (p y) as (λ b. p y ≡ b → All (IsIn zs) (cond b (y ∷ filter p ys) (filter p ys))) [
            | true ↦ λ t. All-cons (IsIn zs) y (filter p ys) (All-head (λ x. p x ≡ true → IsIn zs x) y ys h t) on
            | false ↦ λ t. on
          ]) refl

-- a rising list is the only order of its elements in which none is below the one before it
pub in_order_once : (num : ℕ → ℕ) (zs xs : List ℕ) → IsRising num zs → IsPermutation zs xs → IsNonDecreasingBy num xs → xs ≡ zs
in_order_once num zs xs r m s = sym (all_pass xs) ∙ own_order num (λ _. true) zs zs xs r m (all_pass zs) (up_from_sorted num xs s)
