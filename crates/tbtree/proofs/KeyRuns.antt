-- The runs of a list, one after another, have its elements.
use Rattle.std.proofs.Common.{ℕ, zero, suc, ◌+◌, ◌%◌, ◌<◌, ◌≤◌, ◌≡◌, ◌≢◌, ◌==◌, Bool, true, false, cond, List, [], ◌∷◌, ◌++◌, take, drop, refl, sym, ap, ◌∙◌, arith, subst, ⊎_elim, eq-eqb}
use Rattle.std.specs.List.{filter, count_by}
use Rattle.std.specs.List.Sorted.{IsPermutation}
use Rattle.std.specs.Cmp.{nat_eq_equiv}
use Rattle.std.proofs.Math.Nat.{add-mod_right, mod-eq_of_lt}
use Rattle.std.proofs.lemmas.Bool.{cases_eq, eqb-true}
use Rattle.std.proofs.lemmas.List.{take-append-drop}
use Rattle.std.proofs.lemmas.List.Elements.{filter-append}
use Rattle.std.proofs.lemmas.List.Sorted.{IsPermutation-refl, IsPermutation-cons, IsPermutation-trans, IsPermutation-sym, IsPermutation-middle}
use Rattle.legs.specs.Blocks.{begins, runs_after, runs, joined}
use Rattle.legs.proofs.BlockLemmas.{step_of_multiple}
use Rattle.tbtree.proofs.RoomLemmas.{neq-eqb, push_same, push_other}
use Rattle.tbtree.proofs.Widening.{cons_head, cons_tail, nil_cons}

module _ {X : Type 0} where
  -- a filter within a filter
  pub filter-filter : (p q : X → Bool) (xs : List X) → filter p (filter q xs) ≡ filter q (filter p xs)
  filter-filter p q [] = refl
  filter-filter p q (x ∷ xs) =
      (elim (q x) as (λ v. q x ≡ v → filter p (cond v (x ∷ filter q xs) (filter q xs)) ≡ filter q (cond (p x) (x ∷ filter p xs) (filter p xs))) [
        | true ↦ λ e. (elim (p x) as (λ w. cond w (x ∷ filter p (filter q xs)) (filter p (filter q xs)) ≡ filter q (cond w (x ∷ filter p xs) (filter p xs))) [
          | true ↦ ap (λ l. x ∷ l) (filter-filter p q xs) ∙ sym (ap (λ v. cond v (x ∷ filter q (filter p xs)) (filter q (filter p xs))) e)
          | false ↦ filter-filter p q xs
        ])
        | false ↦ λ e. (elim (p x) as (λ w. filter p (filter q xs) ≡ filter q (cond w (x ∷ filter p xs) (filter p xs))) [
          | true ↦ filter-filter p q xs ∙ sym (ap (λ v. cond v (x ∷ filter q (filter p xs)) (filter q (filter p xs))) e)
          | false ↦ filter-filter p q xs
        ])
      ]) refl

  filter-take : (p : X → Bool) (k : ℕ) (xs : List X) → filter p (take k (filter p xs)) ≡ take k (filter p xs)
  filter-take p zero xs = refl
  filter-take p (suc k) [] = refl
  filter-take p (suc k) (x ∷ xs) =
      (elim (p x) as (λ v. p x ≡ v → filter p (take (suc k) (cond v (x ∷ filter p xs) (filter p xs))) ≡ take (suc k) (cond v (x ∷ filter p xs) (filter p xs))) [
        | true ↦ λ e. ap (λ v. cond v (x ∷ filter p (take k (filter p xs))) (filter p (take k (filter p xs)))) e ∙ ap (λ l. x ∷ l) (filter-take p k xs)
        | false ↦ λ e. filter-take p (suc k) xs
      ]) refl

module _ {X : Type 0} (key : X → ℕ) where
  abbrev pub is : ℕ → X → Bool
  is f z = key z == f

  none_of : (f g k : ℕ) (xs : List X) → g ≢ f → filter (is f) (take k (filter (is g) xs)) ≡ []
  none_of f g zero xs u = refl
  none_of f g (suc k) [] u = refl
  none_of f g (suc k) (x ∷ xs) u =
      (elim (is g x) as (λ v. is g x ≡ v → filter (is f) (take (suc k) (cond v (x ∷ filter (is g) xs) (filter (is g) xs))) ≡ []) [
        | true ↦ λ e. ap (λ v. cond v (x ∷ filter (is f) (take k (filter (is g) xs))) (filter (is f) (take k (filter (is g) xs)))) (neq-eqb (key x) f (λ (w : key x ≡ f). u (sym (eqb-true (key x) g e) ∙ w))) ∙ none_of f g k xs u
        | false ↦ λ e. none_of f g (suc k) xs u
      ]) refl

  abbrev count : ℕ → List X → ℕ
  count f xs = count_by (is f) xs

  -- d more elements of the key belong to runs that were begun
  of_key : (m f d : ℕ) (b xs : List X) → d < suc m → (count f b + d) % suc m ≡ 0 → filter (is f) (joined (runs_after key (suc m) b xs)) ≡ drop d (filter (is f) xs)
  of_key m f zero b [] l e = refl
  of_key m f (suc d) b [] l e = refl
  of_key m f d b (x ∷ xs) l e =
      let rest = runs_after key (suc m) (b ++ x ∷ []) xs in
      let run = take (suc m) (x ∷ filter (is (key x)) xs) in
      ⊎_elim
      (λ (k : key x ≡ f).
      let t : is f x ≡ true = eq-eqb _ _ k in
      let right : (n : ℕ) → drop n (filter (is f) (x ∷ xs)) ≡ drop n (x ∷ filter (is f) xs) = λ n. ap (λ v. drop n (cond v (x ∷ filter (is f) xs) (filter (is f) xs))) t in
      (elim d as (λ d. d < suc m → (count f b + d) % suc m ≡ 0 → filter (is f) (joined (cond (begins key (suc m) b x) (run ∷ rest) rest)) ≡ drop d (filter (is f) (x ∷ xs))) [
        | zero ↦ λ l e.
            let c : begins key (suc m) b x ≡ true = eq-eqb _ 0 (ap (λ g. count g b % suc m) k ∙ ap (λ n. n % suc m) (omega arith) ∙ e) in
            let w : (count f (b ++ x ∷ []) + m) % suc m ≡ 0 = (let p = push_same key m f b x k in ap (λ n. n % suc m) (omega (arith, p))) ∙ add-mod_right (count f b + 0) (suc m) ∙ e in
            let on : filter (is f) (joined rest) ≡ drop m (filter (is f) xs) = of_key m f m (b ++ x ∷ []) xs (omega arith) w in
            let whole : filter (is f) run ≡ x ∷ take m (filter (is f) xs) =
            ap (λ v. cond v (x ∷ filter (is f) (take m (filter (is (key x)) xs))) (filter (is f) (take m (filter (is (key x)) xs)))) t
            ∙ ap (λ g. x ∷ filter (is f) (take m (filter (is g) xs))) k ∙ ap (λ l. x ∷ l) (filter-take (is f) m xs) in
            ap (λ v. filter (is f) (joined (cond v (run ∷ rest) rest))) c
            ∙ filter-append (is f) run (joined rest)
            ∙ ap (λ l. l ++ filter (is f) (joined rest)) whole
            ∙ ap (λ l. x ∷ (take m (filter (is f) xs) ++ l)) on
            ∙ ap (λ l. x ∷ l) (take-append-drop m (filter (is f) xs))
            ∙ sym (right 0)
        | suc d' ↦ λ l e.
            let no : begins key (suc m) b x ≡ false = neq-eqb _ 0 (λ (z : count (key x) b % suc m ≡ 0).
            let z' : count f b % suc m ≡ 0 = ap (λ g. count g b % suc m) (sym k) ∙ z in
            let s : suc m ≤ suc d' = step_of_multiple (count f b) (suc d') (suc m) z' e (omega arith) (omega arith) in omega (arith, s, l)) in
            let w : (count f (b ++ x ∷ []) + d') % suc m ≡ 0 = (let p = push_same key m f b x k in ap (λ n. n % suc m) (omega (arith, p))) ∙ e in
            ap (λ v. filter (is f) (joined (cond v (run ∷ rest) rest))) no
            ∙ of_key m f d' (b ++ x ∷ []) xs (omega (arith, l)) w
            ∙ sym (right (suc d'))
      ]) l e)
      (λ (k : key x ≢ f).
      let t : is f x ≡ false = neq-eqb _ _ k in
      let w : (count f (b ++ x ∷ []) + d) % suc m ≡ 0 = (let p = push_other key m f b x k in ap (λ n. (n + d) % suc m) p) ∙ e in
      let on : filter (is f) (joined rest) ≡ drop d (filter (is f) xs) = of_key m f d (b ++ x ∷ []) xs l w in
      let empty : filter (is f) run ≡ [] =
      ap (λ v. cond v (x ∷ filter (is f) (take m (filter (is (key x)) xs))) (filter (is f) (take m (filter (is (key x)) xs)))) t ∙ none_of f (key x) m xs k in
      (elim (begins key (suc m) b x) as (λ v. filter (is f) (joined (cond v (run ∷ rest) rest)) ≡ drop d (filter (is f) xs)) [
        | true ↦ filter-append (is f) run (joined rest) ∙ ap (λ l. l ++ filter (is f) (joined rest)) empty ∙ on
        | false ↦ on
      ])
      ∙ sym (ap (λ v. drop d (cond v (x ∷ filter (is f) xs) (filter (is f) xs))) t))
      (cases_eq (key x) f)

  pub of_key_runs : (n f : ℕ) (xs : List X) → 0 < n → filter (is f) (joined (runs key n xs)) ≡ filter (is f) xs
  of_key_runs zero f xs h = absurd (omega (arith, h))
  of_key_runs (suc m) f xs h = of_key m f 0 [] xs h (mod-eq_of_lt h)

  -- a list without its first element of a key
  without : ℕ → List X → List X
  without f [] = []
  without f (x ∷ xs) = cond (is f x) xs (x ∷ without f xs)

  first_out : (f : ℕ) (x : X) (ls ys : List X) → filter (is f) ys ≡ x ∷ ls → IsPermutation ys (x ∷ without f ys)
  unfolding without
  first_out f x ls [] e = absurd (nil_cons x ls e)
  first_out f x ls (y ∷ ys) e =
      (elim (is f y) as (λ v. cond v (y ∷ filter (is f) ys) (filter (is f) ys) ≡ x ∷ ls → IsPermutation (y ∷ ys) (x ∷ cond v ys (y ∷ without f ys))) [
        | true ↦ λ e. subst (λ z. IsPermutation (y ∷ ys) (z ∷ ys)) (cons_head y x (filter (is f) ys) ls e) (IsPermutation-refl (y ∷ ys))
        | false ↦ λ e. IsPermutation-trans (y ∷ ys) (y ∷ x ∷ without f ys) (x ∷ y ∷ without f ys) (IsPermutation-cons y ys (x ∷ without f ys) (first_out f x ls ys e)) (IsPermutation-middle (y ∷ []) x (without f ys))
      ]) e

  without_same : (f : ℕ) (x : X) (ls ys : List X) → filter (is f) ys ≡ x ∷ ls → filter (is f) (without f ys) ≡ ls
  unfolding without
  without_same f x ls [] e = absurd (nil_cons x ls e)
  without_same f x ls (y ∷ ys) e =
      (elim (is f y) as (λ v. is f y ≡ v → cond v (y ∷ filter (is f) ys) (filter (is f) ys) ≡ x ∷ ls → filter (is f) (cond v ys (y ∷ without f ys)) ≡ ls) [
        | true ↦ λ t e. cons_tail y x (filter (is f) ys) ls e
        | false ↦ λ t e. ap (λ v. cond v (y ∷ filter (is f) (without f ys)) (filter (is f) (without f ys))) t ∙ without_same f x ls ys e
      ]) refl e

  without_other : (f g : ℕ) (ys : List X) → f ≢ g → filter (is g) (without f ys) ≡ filter (is g) ys
  unfolding without
  without_other f g [] u = refl
  without_other f g (y ∷ ys) u =
      (elim (is f y) as (λ v. is f y ≡ v → filter (is g) (cond v ys (y ∷ without f ys)) ≡ cond (is g y) (y ∷ filter (is g) ys) (filter (is g) ys)) [
        | true ↦ λ t. sym (ap (λ v. cond v (y ∷ filter (is g) ys) (filter (is g) ys)) (neq-eqb (key y) g (λ (w : key y ≡ g). u (sym (eqb-true (key y) f t) ∙ w))))
        | false ↦ λ t. ap (λ l. cond (is g y) (y ∷ l) l) (without_other f g ys u)
      ]) refl

  -- lists that have the same elements of each key, in order
  pub gathered : (xs ys : List X) → ((f : ℕ) → filter (is f) xs ≡ filter (is f) ys) → IsPermutation xs ys
  gathered [] [] h = IsPermutation-refl []
  gathered [] (y ∷ ys) h = absurd (nil_cons y (filter (is (key y)) ys) (h (key y) ∙ ap (λ v. cond v (y ∷ filter (is (key y)) ys) (filter (is (key y)) ys)) (nat_eq_equiv.refl (key y))))
  gathered (x ∷ xs) ys h =
      let f = key x in
      let head : (g : ℕ) (v : Bool) → is g x ≡ v → filter (is g) ys ≡ cond v (x ∷ filter (is g) xs) (filter (is g) xs) = λ g v t. sym (h g) ∙ ap (λ v. cond v (x ∷ filter (is g) xs) (filter (is g) xs)) t in
      let out : filter (is f) ys ≡ x ∷ filter (is f) xs = head f true (nat_eq_equiv.refl f) in
      let on : IsPermutation xs (without f ys) = gathered xs (without f ys) (λ g. ⊎_elim
      (λ (e : f ≡ g). subst (λ g. filter (is g) xs ≡ filter (is g) (without f ys)) e (sym (without_same f x (filter (is f) xs) ys out)))
      (λ (u : f ≢ g). sym (without_other f g ys u ∙ head g false (neq-eqb f g u)))
      (cases_eq f g)) in
      IsPermutation-trans (x ∷ xs) (x ∷ without f ys) ys (IsPermutation-cons x xs (without f ys) on) (IsPermutation-sym ys (x ∷ without f ys) (first_out f x (filter (is f) xs) ys out))

  -- what is filtered out of the runs
  pub runs_permuted : (n : ℕ) (p : X → Bool) (xs : List X) → 0 < n → IsPermutation (filter p (joined (runs key n xs))) (filter p xs)
  runs_permuted n p xs h = gathered _ _ (λ f. filter-filter (is f) p (joined (runs key n xs)) ∙ ap (filter p) (of_key_runs n f xs h) ∙ filter-filter p (is f) xs)
