-- Some element, each element and the first element, over a list in parts.
use Rattle.std.proofs.Common.{ℕ, zero, suc, ◌<◌, ◌≡◌, ◌∙◌, ap, sym, refl, subst, Bool, true, false, cond, ◌||◌, ◌⊎◌, inl, inr, List, [], ◌∷◌, ◌++◌, length, get_or, Option, Some, None, arith}
use Rattle.std.specs.List.{All, Any, filter, find, list_any}
use Rattle.std.specs.Option.{option_or}
use Rattle.std.specs.Prelude.{reverse, is_some}
use Rattle.std.proofs.lemmas.List.{reverse-append}
use Rattle.std.proofs.lemmas.List.Folds.{find-append, list_any-append}

or_swap : (a b : Bool) → (a || (b || false)) ≡ (b || a)
or_swap true true = refl
or_swap true false = refl
or_swap false true = refl
or_swap false false = refl

module _ {X : Type 0} where
  -- some element
  pub Any-nil : (P : X → Type 0) → Any P [] → ⊥
  Any-nil P some = omega (arith, some.2)

  pub Any-here : (P : X → Type 0) (x : X) (xs : List X) → P x → Any P (x ∷ xs)
  Any-here P x xs p = (0, x, omega arith, refl, p)

  pub Any-after : (P : X → Type 0) (x : X) (xs : List X) → Any P xs → Any P (x ∷ xs)
  Any-after P x xs some = (suc some.0, some.1, omega (arith, some.2), some.3, some.4)

  pub Any-cons : (P : X → Type 0) (x : X) (xs : List X) → Any P (x ∷ xs) → P x ⊎ Any P xs
  Any-cons P x xs some = by some.0 some.1 some.2 some.3 some.4
    where
      by : (k : ℕ) (y : X) → k < length (x ∷ xs) → get_or (x ∷ xs) k y ≡ y → P y → P x ⊎ Any P xs
      by zero y l e p = inl (subst P (sym e) p)
      by (suc k) y l e p = inr (k, y, omega arith, e, p)

  pub Any-one : (P : X → Type 0) (x : X) → Any P (x ∷ []) → P x
  Any-one P x some = elim (Any-cons P x [] some) [ inl p ↦ p | inr none ↦ absurd (Any-nil P none) ]

  pub Any-weaker : (P Q : X → Type 0) (xs : List X) → ((x : X) → P x → Q x) → Any P xs → Any Q xs
  Any-weaker P Q xs f some = (some.0, some.1, some.2, some.3, f some.1 some.4)

  pub Any-first : (P : X → Type 0) (xs ys : List X) → Any P xs → Any P (xs ++ ys)
  Any-first P [] ys some = absurd (Any-nil P some)
  Any-first P (x ∷ xs) ys some = elim (Any-cons P x xs some) [ inl p ↦ Any-here P x (xs ++ ys) p | inr more ↦ Any-after P x (xs ++ ys) (Any-first P xs ys more) ]

  pub Any-second : (P : X → Type 0) (xs ys : List X) → Any P ys → Any P (xs ++ ys)
  Any-second P [] ys some = some
  Any-second P (x ∷ xs) ys some = Any-after P x (xs ++ ys) (Any-second P xs ys some)

  pub Any-parts : (P : X → Type 0) (xs ys : List X) → Any P (xs ++ ys) → Any P xs ⊎ Any P ys
  Any-parts P [] ys some = inr some
  Any-parts P (x ∷ xs) ys some = elim (Any-cons P x (xs ++ ys) some) [
    | inl p ↦ inl (Any-here P x xs p)
    | inr more ↦ elim (Any-parts P xs ys more) [ inl one ↦ inl (Any-after P x xs one) | inr two ↦ inr two ]
  ]

  pub Any-unfiltered : (P : X → Type 0) (p : X → Bool) (xs : List X) → Any P (filter p xs) → Any P xs
  Any-unfiltered P p [] some = some
  Any-unfiltered P p (x ∷ xs) some = by (p x) (Any-unfiltered P p xs) some
    where
      by : (b : Bool) → (Any P (filter p xs) → Any P xs) → Any P (cond b (x ∷ filter p xs) (filter p xs)) → Any P (x ∷ xs)
      by true rest some = elim (Any-cons P x (filter p xs) some) [ inl q ↦ Any-here P x xs q | inr more ↦ Any-after P x xs (rest more) ]
      by false rest some = Any-after P x xs (rest some)

  pub Any-filter : (P : X → Type 0) (p : X → Bool) (xs : List X) → ((x : X) → P x → p x ≡ true) → Any P xs → Any P (filter p xs)
  Any-filter P p [] kept some = some
  Any-filter P p (x ∷ xs) kept some = elim (Any-cons P x xs some) [
    | inl q ↦ subst (λ (b : Bool). Any P (cond b (x ∷ filter p xs) (filter p xs))) (sym (kept x q)) (Any-here P x (filter p xs) q)
    | inr more ↦ by (p x) (Any-filter P p xs kept more)
  ]
    where
      by : (b : Bool) → Any P (filter p xs) → Any P (cond b (x ∷ filter p xs) (filter p xs))
      by true more = Any-after P x (filter p xs) more
      by false more = more

  -- each element
  pub All-cons : (P : X → Type 0) (x : X) (xs : List X) → P x → All P xs → All P (x ∷ xs)
  All-cons P x xs p all = by
    where
      by : (k : ℕ) (d : X) → k < length (x ∷ xs) → P (get_or (x ∷ xs) k d)
      by zero d l = p
      by (suc k) d l = all k d (omega arith)

  pub All-none : (P : X → Type 0) → All P []
  All-none P = λ k d l. absurd (omega arith)

  pub All-head : (P : X → Type 0) (x : X) (xs : List X) → All P (x ∷ xs) → P x
  All-head P x xs all = all 0 x (omega arith)

  pub All-tail : (P : X → Type 0) (x : X) (xs : List X) → All P (x ∷ xs) → All P xs
  All-tail P x xs all = λ k d l. all (suc k) d (omega arith)

  pub All-first : (P : X → Type 0) (xs ys : List X) → All P (xs ++ ys) → All P xs
  All-first P [] ys all = All-none P
  All-first P (x ∷ xs) ys all = All-cons P x xs (All-head P x (xs ++ ys) all) (All-first P xs ys (All-tail P x (xs ++ ys) all))

  pub All-second : (P : X → Type 0) (xs ys : List X) → All P (xs ++ ys) → All P ys
  All-second P [] ys all = all
  All-second P (x ∷ xs) ys all = All-second P xs ys (All-tail P x (xs ++ ys) all)

  pub All-unfiltered : (P : X → Type 0) (p : X → Bool) (xs : List X) → ((x : X) → p x ≡ false → P x) → All P (filter p xs) → All P xs
  All-unfiltered P p [] dropped all = all
  All-unfiltered P p (x ∷ xs) dropped all = by (p x) refl (All-unfiltered P p xs dropped) all
    where
      by : (b : Bool) → p x ≡ b → (All P (filter p xs) → All P xs) → All P (cond b (x ∷ filter p xs) (filter p xs)) → All P (x ∷ xs)
      by true e rest all = All-cons P x xs (All-head P x (filter p xs) all) (rest (All-tail P x (filter p xs) all))
      by false e rest all = All-cons P x xs (dropped x e) (rest all)

  -- the first element, and the last
  pub or_none : (o : Option X) → option_or o None ≡ o
  or_none None = refl
  or_none (Some x) = refl

  pub or_some : (o q : Option X) → is_some o ≡ true → option_or o q ≡ o
  or_some None q e = cc
  or_some (Some x) q e = refl

  pub or_else : (o q : Option X) → is_some o ≡ false → option_or o q ≡ q
  or_else None q e = refl
  or_else (Some x) q e = cc

  pub none_of : (o : Option X) → is_some o ≡ false → o ≡ None
  none_of None e = refl
  none_of (Some x) e = cc

  pub is_some-find : (p : X → Bool) (xs : List X) → is_some (find p xs) ≡ list_any p xs
  is_some-find p [] = refl
  is_some-find p (x ∷ xs) = by (p x) (is_some-find p xs)
    where
      by : (b : Bool) → is_some (find p xs) ≡ list_any p xs → is_some (cond b (Some x) (find p xs)) ≡ (b || list_any p xs)
      by true e = refl
      by false e = e

  reverse-cons : (x : X) (xs : List X) → reverse (x ∷ xs) ≡ reverse xs ++ x ∷ []
  reverse-cons x xs = reverse-append (x ∷ []) xs

  list_any-reverse : (p : X → Bool) (xs : List X) → list_any p (reverse xs) ≡ list_any p xs
  list_any-reverse p [] = refl
  list_any-reverse p (x ∷ xs) =
      ap (list_any p) (reverse-cons x xs) ∙ list_any-append p (reverse xs) (x ∷ []) ∙ ap (λ b. b || (p x || false)) (list_any-reverse p xs)
      ∙ or_swap (list_any p xs) (p x)

  pub is_some-find-reverse : (p : X → Bool) (xs : List X) → is_some (find p (reverse xs)) ≡ list_any p xs
  is_some-find-reverse p xs = is_some-find p (reverse xs) ∙ list_any-reverse p xs

  pub find-filter : (p : X → Bool) (xs : List X) → find p (filter p xs) ≡ find p xs
  find-filter p [] = refl
  find-filter p (x ∷ xs) = by (p x) refl (find-filter p xs)
    where
      by : (b : Bool) → p x ≡ b → find p (filter p xs) ≡ find p xs → find p (cond b (x ∷ filter p xs) (filter p xs)) ≡ cond b (Some x) (find p xs)
      by true e rest = ap (λ b. cond b (Some x) (find p (filter p xs))) e
      by false e rest = rest

  pub find-reverse-append : (p : X → Bool) (xs ys : List X) → find p (reverse (xs ++ ys)) ≡ option_or (find p (reverse ys)) (find p (reverse xs))
  find-reverse-append p xs ys = ap (find p) (reverse-append xs ys) ∙ find-append p (reverse ys) (reverse xs)

  pub find-reverse-filter : (p : X → Bool) (xs : List X) → find p (reverse (filter p xs)) ≡ find p (reverse xs)
  find-reverse-filter p [] = refl
  find-reverse-filter p (x ∷ xs) =
      by (p x) refl (find-reverse-filter p xs) ∙ sym (find-append p (reverse xs) (x ∷ [])) ∙ sym (ap (find p) (reverse-cons x xs))
    where
      by : (b : Bool) → p x ≡ b → find p (reverse (filter p xs)) ≡ find p (reverse xs)
          → find p (reverse (cond b (x ∷ filter p xs) (filter p xs))) ≡ option_or (find p (reverse xs)) (find p (x ∷ []))
      by true e rest =
          ap (find p) (reverse-cons x (filter p xs)) ∙ find-append p (reverse (filter p xs)) (x ∷ []) ∙ ap (λ o. option_or o (find p (x ∷ []))) rest
      by false e rest =
          rest ∙ sym (ap (λ b. option_or (find p (reverse xs)) (cond b (Some x) None)) e ∙ or_none (find p (reverse xs)))
