-- The elements of a list that pass a test, from the first one to the last.
use Rattle.std.proofs.Common.{ℕ, zero, suc, ◌≡◌, ◌<◌, ◌≤◌, Bool, true, false, cond, List, [], ◌∷◌, ◌++◌, drop, take, length, refl, sym, ap, ◌∙◌, arith, subst, Some, slice_get}
use Rattle.std.specs.List.{All, filter}
use Rattle.std.specs.Option.{option_map_or}
use Rattle.chains.proofs.AgainLemmas.{there_at}
use Rattle.legs.proofs.GroupLemmas.{some_none, some_same}
use Rattle.chains.proofs.KeepLemmas.{drop_at}

module _ {X : Type 0} where
  cons_nil : (x : X) (xs : List X) → x ∷ xs ≡ [] → ⊥
  cons_nil x xs e = cc

  -- what holds of all holds of one
  pub all_at : (P : X → Type 0) (xs : List X) (i : ℕ) (x : X) → All P xs → slice_get xs i ≡ Some x → P x
  all_at P [] i x all e = absurd (some_none x (sym e))
  all_at P (y ∷ ys) zero x all e = subst P (some_same y x e) (all 0 y (omega arith))
  all_at P (y ∷ ys) (suc i) x all e = all_at P ys i x (λ k d l. all (suc k) d (omega (arith, l))) e

  -- the first l elements, and what is behind them
  pub get_taken : (xs : List X) (i l : ℕ) → i < l → slice_get (take l xs) i ≡ slice_get xs i
  get_taken [] i zero h = absurd (omega (arith, h))
  get_taken [] i (suc l) h = refl
  get_taken (x ∷ xs) i zero h = absurd (omega (arith, h))
  get_taken (x ∷ xs) zero (suc l) h = refl
  get_taken (x ∷ xs) (suc i) (suc l) h = get_taken xs i l (omega (arith, h))

  pub past_taken : (xs : List X) (l : ℕ) → drop l (take l xs) ≡ []
  past_taken [] zero = refl
  past_taken [] (suc l) = refl
  past_taken (x ∷ xs) zero = refl
  past_taken (x ∷ xs) (suc l) = past_taken xs l

  module _ (p : X → Bool) where
    -- a test at a place that is there
    pub passes_at : (xs : List X) (i : ℕ) (r : Bool) → i < length xs → r ≡ option_map_or p (slice_get xs i) false → (x : X) × (slice_get xs i ≡ Some x) × (p x ≡ r)
    passes_at xs i r h e = let t = there_at xs i h in (t.0, t.1, sym (e ∙ ap (λ o. option_map_or p o false) t.1))

    -- none passes among the first ones, and one more does not
    pub front_on : (xs : List X) (i : ℕ) (x : X) → slice_get xs i ≡ Some x → p x ≡ false → filter p (take i xs) ≡ [] → filter p (take (suc i) xs) ≡ []
    front_on [] i x e n h = absurd (some_none x (sym e))
    front_on (y ∷ xs) zero x e n h = ap (λ b. cond b (y ∷ []) []) (ap p (some_same y x e) ∙ n)
    front_on (y ∷ xs) (suc i) x e n h = by (p y) (front_on xs i x e n) h
      where
        by : (b : Bool) → (filter p (take i xs) ≡ [] → filter p (take (suc i) xs) ≡ []) → cond b (y ∷ filter p (take i xs)) (filter p (take i xs)) ≡ []
            → cond b (y ∷ filter p (take (suc i) xs)) (filter p (take (suc i) xs)) ≡ []
        by true rest h = absurd (cons_nil y (filter p (take i xs)) h)
        by false rest h = rest h

    -- nor among the last ones
    pub back_on : (xs : List X) (i : ℕ) (x : X) → slice_get xs i ≡ Some x → p x ≡ false → filter p (drop (suc i) xs) ≡ [] → filter p (drop i xs) ≡ []
    back_on xs i x e n h =
        ap (filter p) (drop_at xs i x e) ∙ ap (λ b. cond b (x ∷ filter p (drop (suc i) xs)) (filter p (drop (suc i) xs))) n ∙ h

    -- the last one that passes
    back_part : (xs : List X) (l : ℕ) (b : X) → slice_get xs l ≡ Some b → p b ≡ true → filter p (drop (suc l) xs) ≡ [] → filter p xs ≡ filter p (take l xs) ++ b ∷ []
    back_part [] l b e t h = absurd (some_none b (sym e))
    back_part (y ∷ xs) zero b e t h =
        ap (λ v. cond v (y ∷ filter p xs) (filter p xs)) (ap p (some_same y b e) ∙ t) ∙ ap (λ l. y ∷ l) h ∙ ap (λ z. z ∷ []) (some_same y b e)
    back_part (y ∷ xs) (suc l) b e t h = by (p y) (back_part xs l b e t h)
      where
        by : (v : Bool) → filter p xs ≡ filter p (take l xs) ++ b ∷ [] → cond v (y ∷ filter p xs) (filter p xs) ≡ cond v (y ∷ filter p (take l xs)) (filter p (take l xs)) ++ b ∷ []
        by true rest = ap (λ l. y ∷ l) rest
        by false rest = rest

    -- the first one that passes, and the last one behind it
    pub kept_ends : (xs : List X) (f l : ℕ) (a b : X) → f < l → slice_get xs f ≡ Some a → slice_get xs l ≡ Some b → p a ≡ true → p b ≡ true
        → filter p (take f xs) ≡ [] → filter p (drop (suc l) xs) ≡ [] → filter p xs ≡ a ∷ (filter p (drop (suc f) (take l xs)) ++ b ∷ [])
    kept_ends [] f l a b less e g s t none rest = absurd (some_none a (sym e))
    kept_ends (y ∷ xs) f zero a b less e g s t none rest = absurd (omega (arith, less))
    kept_ends (y ∷ xs) zero (suc l) a b less e g s t none rest =
        ap (λ v. cond v (y ∷ filter p xs) (filter p xs)) (ap p (some_same y a e) ∙ s)
        ∙ ap (λ l. y ∷ l) (back_part xs l b g t rest) ∙ ap (λ z. z ∷ (filter p (take l xs) ++ b ∷ [])) (some_same y a e)
    kept_ends (y ∷ xs) (suc f) (suc l) a b less e g s t none rest = by (p y) (kept_ends xs f l a b (omega (arith, less)) e g s t) none
      where
        by : (v : Bool) → (filter p (take f xs) ≡ [] → filter p (drop (suc l) xs) ≡ [] → filter p xs ≡ a ∷ (filter p (drop (suc f) (take l xs)) ++ b ∷ []))
            → cond v (y ∷ filter p (take f xs)) (filter p (take f xs)) ≡ []
            → cond v (y ∷ filter p xs) (filter p xs) ≡ a ∷ (filter p (drop (suc f) (take l xs)) ++ b ∷ [])
        by true more h = absurd (cons_nil y (filter p (take f xs)) h)
        by false more h = more h rest

    -- the first one is not before the last one: there is one alone
    pub kept_single : (xs : List X) (f l : ℕ) (b : X) → l ≤ f → slice_get xs l ≡ Some b → p b ≡ true
        → filter p (take f xs) ≡ [] → filter p (drop (suc l) xs) ≡ [] → filter p xs ≡ b ∷ []
    kept_single [] f l b less g t none rest = absurd (some_none b (sym g))
    kept_single (y ∷ xs) f zero b less g t none rest =
        ap (λ v. cond v (y ∷ filter p xs) (filter p xs)) (ap p (some_same y b g) ∙ t) ∙ ap (λ l. y ∷ l) rest ∙ ap (λ z. z ∷ []) (some_same y b g)
    kept_single (y ∷ xs) zero (suc l) b less g t none rest = absurd (omega (arith, less))
    kept_single (y ∷ xs) (suc f) (suc l) b less g t none rest = by (p y) (kept_single xs f l b (omega (arith, less)) g t) none
      where
        by : (v : Bool) → (filter p (take f xs) ≡ [] → filter p (drop (suc l) xs) ≡ [] → filter p xs ≡ b ∷ [])
            → cond v (y ∷ filter p (take f xs)) (filter p (take f xs)) ≡ [] → cond v (y ∷ filter p xs) (filter p xs) ≡ b ∷ []
        by true more h = absurd (cons_nil y (filter p (take f xs)) h)
        by false more h = more h rest

  -- a place that is there is within
  pub got_within : (xs : List X) (i : ℕ) (x : X) → slice_get xs i ≡ Some x → i < length xs
  got_within [] i x e = absurd (some_none x (sym e))
  got_within (y ∷ xs) zero x e = omega arith
  got_within (y ∷ xs) (suc i) x e = let l = got_within xs i x e in omega (arith, l)
