-- Lists by their owners, one after another: each owner's elements are those of its list.
use Rattle.std.proofs.Common.{◌≡◌, ◌≢◌, ℕ, zero, suc, ◌+◌, ◌<◌, ◌≤◌, true, List, [], ◌∷◌, ◌++◌, length, map, Some, slice_get, refl, sym, ap, ◌∙◌, arith, subst}
use Rattle.std.specs.List.{filter, flat_map, range_with_len}
use Rattle.std.specs.List.Sorted.{IsPermutation}
use Rattle.std.proofs.lemmas.List.Concat.{flat_map-append}
use Rattle.std.proofs.lemmas.List.Elements.{filter-append}
use Rattle.std.proofs.lemmas.List.Sorted.{IsPermutation-trans, IsPermutation-sym, IsPermutation-map}
use Rattle.legs.specs.Blocks.{joined}
use Rattle.legs.specs.Legs.{LegView}
use Rattle.tbtree.specs.Turn.{IsPast, IsRising}
use Rattle.tbtree.specs.Descent.{sort_by_ordinal}
use Rattle.legs.proofs.BlockLemmas.{all_pass}
use Rattle.legs.proofs.GroupLemmas.{some_none, some_same}
use Rattle.tbtree.proofs.KeyRuns.{is}
use Rattle.tbtree.proofs.OrdinalOrder.{IsUp}
use Rattle.tbtree.proofs.RisingLists.{own_first, not_own, own_order}
use Rattle.tbtree.proofs.SortLemmas.{number, sort_moves, sort_up}
use Rattle.tbtree.proofs.Widening.{cons_head, cons_tail, nil_cons}

module _ {X : Type 0} (own : X → ℕ) where
  -- all elements have the owner
  abbrev pub AreOf : ℕ → List X → Type 0
  AreOf f [] = Unit {0}
  AreOf f (x ∷ xs) = (own x ≡ f) × AreOf f xs

  -- the lists are those of the owners from that one on
  abbrev pub AreOwned : ℕ → List (List X) → Type 0
  AreOwned f [] = Unit {0}
  AreOwned f (xs ∷ xss) = AreOf f xs × AreOwned (suc f) xss

  pub of_get : (f : ℕ) (xs : List X) (i : ℕ) (x : X) → AreOf f xs → slice_get xs i ≡ Some x → own x ≡ f
  of_get f [] i x p e = absurd (some_none x (sym e))
  of_get f (y ∷ ys) zero x p e = ap own (sym (some_same y x e)) ∙ p.0
  of_get f (y ∷ ys) (suc i) x p e = of_get f ys i x p.1 e

  pub all_own : (f : ℕ) (xs : List X) → AreOf f xs → filter (is own f) xs ≡ xs
  all_own f [] p = refl
  all_own f (x ∷ xs) p = own_first own f x xs p.0 ∙ ap (λ l. x ∷ l) (all_own f xs p.1)

  pub none_own : (f g : ℕ) (xs : List X) → AreOf g xs → g ≢ f → filter (is own f) xs ≡ []
  none_own f g [] p u = refl
  none_own f g (x ∷ xs) p u = not_own own f x xs (λ e. u (sym p.0 ∙ e)) ∙ none_own f g xs p.1 u

  pub owned_before : (f g : ℕ) (xss : List (List X)) → AreOwned g xss → f < g → filter (is own f) (joined xss) ≡ []
  owned_before f g [] p l = refl
  owned_before f g (xs ∷ xss) p l =
      filter-append (is own f) xs (joined xss)
      ∙ ap (λ a. a ++ filter (is own f) (joined xss)) (none_own f g xs p.0 (λ e. omega (arith, e, l)))
      ∙ owned_before f (suc g) xss p.1 (omega (arith, l))

  pub owned_at : (f g j : ℕ) (xss : List (List X)) (xs : List X) → AreOwned g xss → slice_get xss j ≡ Some xs → g + j ≡ f → filter (is own f) (joined xss) ≡ xs
  owned_at f g j [] xs p e s = absurd (some_none xs (sym e))
  owned_at f g zero (ys ∷ xss) xs p e s =
      let q : g ≡ f = omega (arith, s) in
      filter-append (is own f) ys (joined xss)
      ∙ ap (λ b. filter (is own f) ys ++ b) (owned_before f (suc g) xss p.1 (omega (arith, s)))
      ∙ ap (λ h. filter (is own h) ys ++ []) (sym q)
      ∙ ap (λ a. a ++ []) (all_own g ys p.0)
      ∙ append_none ys ∙ some_same ys xs e
    where
      append_none : (ys : List X) → ys ++ [] ≡ ys
      append_none [] = refl
      append_none (y ∷ ys) = ap (λ l. y ∷ l) (append_none ys)
  owned_at f g (suc j) (ys ∷ xss) xs p e s =
      filter-append (is own f) ys (joined xss)
      ∙ ap (λ a. a ++ filter (is own f) (joined xss)) (none_own f g ys p.0 (λ q. omega (arith, q, s)))
      ∙ owned_at f (suc g) j xss xs p.1 e (omega (arith, s))

  pub owned_beyond : (f g : ℕ) (xss : List (List X)) → AreOwned g xss → g + length xss ≤ f → filter (is own f) (joined xss) ≡ []
  owned_beyond f g [] p l = refl
  owned_beyond f g (xs ∷ xss) p l =
      filter-append (is own f) xs (joined xss)
      ∙ ap (λ a. a ++ filter (is own f) (joined xss)) (none_own f g xs p.0 (λ q. omega (arith, q, l)))
      ∙ owned_beyond f (suc g) xss p.1 (omega (arith, l))

pub joined_map : {X Y : Type 0} (h : X → List Y) (xss : List (List X)) → joined (map (flat_map h) xss) ≡ flat_map h (joined xss)
joined_map h [] = refl
joined_map h (xs ∷ xss) = ap (λ l. flat_map h xs ++ l) (joined_map h xss) ∙ sym (flat_map-append h xs (joined xss))

-- numbers one after another
past_range : (b a n : ℕ) → b < a → IsPast (λ m. m) b (range_with_len a n)
past_range b a zero l = tt
past_range b a (suc n) l = (l, past_range b (a + 1) n (omega (arith, l)))

rising_range : (a n : ℕ) → IsRising (λ m. m) (range_with_len a n)
rising_range a zero = tt
rising_range a (suc n) = (past_range a (a + 1) n (omega arith), rising_range (a + 1) n)

map_same : (ns : List ℕ) → map (λ m. m) ns ≡ ns
map_same [] = refl
map_same (n ∷ ns) = ap (λ l. n ∷ l) (map_same ns)

-- legs that have each ordinal once are, in order, numbered by their places
pub numbered : (all : List LegView) (total : ℕ) → IsPermutation (map number all) (range_with_len 0 total) → map number (sort_by_ordinal all) ≡ range_with_len 0 total
numbered all total once =
    let legs = sort_by_ordinal all in
    let numbers = range_with_len 0 total in
    let moved : IsPermutation (map number all) (map number legs) = IsPermutation-map number all legs (sort_moves all) in
    let back : IsPermutation numbers (map number legs) = IsPermutation-trans numbers (map number all) (map number legs) (IsPermutation-sym (map number all) numbers once) moved in
    let up : IsUp (map (λ m. m) (map number legs)) = subst_up (map number legs) (sort_up all) in
    sym (all_pass (map number legs)) ∙ own_order (λ m. m) (λ _. true) numbers numbers (map number legs) (rising_range 0 total) back (all_pass numbers) up
  where
    subst_up : (ns : List ℕ) → IsUp ns → IsUp (map (λ m. m) ns)
    subst_up ns u = subst IsUp (sym (map_same ns)) u

pub numbered_at : (a n : ℕ) (legs : List LegView) (i : ℕ) (leg : LegView) → map number legs ≡ range_with_len a n → slice_get legs i ≡ Some leg → leg.ordinal ≡ a + i
numbered_at a n [] i leg e g = absurd (some_none leg (sym g))
numbered_at a zero (x ∷ legs) i leg e g = absurd (nil_cons (number x) (map number legs) (sym e))
numbered_at a (suc n) (x ∷ legs) zero leg e g =
    let h : x.ordinal ≡ a = cons_head (number x) a (map number legs) (range_with_len (a + 1) n) e in
    let s : x.ordinal ≡ leg.ordinal = ap number (some_same x leg g) in omega (arith, h, s)
numbered_at a (suc n) (x ∷ legs) (suc i) leg e g =
    let on = numbered_at (a + 1) n legs i leg (cons_tail (number x) a (map number legs) (range_with_len (a + 1) n) e) g in omega (arith, on)

past_of_map : {X : Type 0} (num : X → ℕ) (a : ℕ) (xs : List X) → IsPast (λ m. m) a (map num xs) → IsPast num a xs
past_of_map num a [] h = tt
past_of_map num a (y ∷ ys) h = (h.0, past_of_map num a ys h.1)

rising_of_map : {X : Type 0} (num : X → ℕ) (xs : List X) → IsRising (λ m. m) (map num xs) → IsRising num xs
rising_of_map num [] h = tt
rising_of_map num (x ∷ xs) h = (past_of_map num (num x) xs h.0, rising_of_map num xs h.1)

pub numbered_rise : (n : ℕ) (legs : List LegView) → map number legs ≡ range_with_len 0 n → IsRising number legs
numbered_rise n legs e = rising_of_map number legs (subst (IsRising (λ m. m)) (sym e) (rising_range 0 n))
