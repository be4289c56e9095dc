-- Places of the last items of features.
use Rattle.std.proofs.Common.{ℕ, suc, ◌+◌, drop, zero, ◌≡◌, ◌∙◌, ◌<◌, ◌≢◌, Bool, true, false, cond, List, [], ◌∷◌, ◌++◌, length, get_or, set, arith, ap, sym, subst, refl, Less, Equal, Greater}
use Rattle.std.specs.Prelude.{◌==◌, nat_lt, fold, unwrap_or, Option, Some, None}
use Rattle.std.proofs.lemmas.List.{at_drop_more}
use Rattle.std.proofs.lemmas.Option.{none-some}
use Rattle.std.specs.Ordering.{is_eq, nat_cmp}
use Rattle.std.specs.BTreeMap.{is_at}
use Rattle.std.proofs.lemmas.Bool.Decides.{nat_tests}
use Rattle.visiting.specs.Places.{last_place, place_behind}

-- a query of a map finds a key exactly where it is the same number
pub same_key : (k q : ℕ) → is_at (nat_cmp k) q ≡ (k == q)
same_key k q = by (nat_lt k q) refl
  where
    by : (b : Bool) → nat_lt k q ≡ b → is_eq (cond b Less (cond (k == q) Equal Greater)) ≡ (k == q)
    by true less = sym (grind (arith, nat_tests, less))
    by false less = equal (k == q)
      where
        equal : (b : Bool) → is_eq (cond b Equal Greater) ≡ b
        equal true = refl
        equal false = refl

some_is : (a b : ℕ) → Some a ≡ Some b → a ≡ b
some_is a b e = ap (λ (o : Option ℕ). unwrap_or o a) e

module _ {T : Type 0} (feature : T → ℕ) where
  -- where there is one, it is in the list, and of the feature
  pub last_in : (f place : ℕ) (items : List T) (d : T) → last_place feature f items ≡ Some place → (place < length items) × (feature (get_or items place d) ≡ f)
  last_in f place [] d e = absurd (none-some _ e)
  last_in f place (item ∷ items) d e = by (λ k found. last_in f k items d found) (last_place feature f items) (feature item == f) refl refl e
    where
      by : ((k : ℕ) → last_place feature f items ≡ Some k → (k < length items) × (feature (get_or items k d) ≡ f)) → (behind : Option ℕ) (is : Bool) → last_place feature f items ≡ behind → (feature item == f) ≡ is
          → place_behind behind is ≡ Some place → (place < length (item ∷ items)) × (feature (get_or (item ∷ items) place d) ≡ f)
      by next (Some k) is found same e =
          let rest = next k found in
          let less = rest.0 in
          subst (λ p. (p < length (item ∷ items)) × (feature (get_or (item ∷ items) p d) ≡ f)) (some_is (suc k) place e) (omega (arith, less), rest.1)
      by next None true found same e = subst (λ p. (p < length (item ∷ items)) × (feature (get_or (item ∷ items) p d) ≡ f)) (some_is 0 place e) (omega (arith), grind (arith, nat_tests, same))
      by next None false found same e = absurd (none-some _ e)

  -- with an item more at the end
  pub last_more : (f : ℕ) (items : List T) (item : T) → last_place feature f (items ++ item ∷ []) ≡ cond (feature item == f) (Some (length items)) (last_place feature f items)
  last_more f [] item = by (feature item == f)
    where
      by : (b : Bool) → place_behind None b ≡ cond b (Some 0) None
      by true = refl
      by false = refl
  last_more f (first ∷ items) item = ap (λ (behind : Option ℕ). place_behind behind (feature first == f)) (last_more f items item) ∙ by (feature item == f)
    where
      by : (b : Bool) → place_behind (cond b (Some (length items)) (last_place feature f items)) (feature first == f) ≡ cond b (Some (suc (length items))) (place_behind (last_place feature f items) (feature first == f))
      by true = refl
      by false = refl

  -- with another item of the same feature in the place of one
  pub last_set : (f place : ℕ) (items : List T) (item d : T) → feature item ≡ feature (get_or items place d) → last_place feature f (set items place item) ≡ last_place feature f items
  last_set f place [] item d e = refl
  last_set f zero (first ∷ items) item d e = ap (λ k. place_behind (last_place feature f items) (k == f)) e
  last_set f (suc place) (first ∷ items) item d e = ap (λ (behind : Option ℕ). place_behind behind (feature first == f)) (last_set f place items item d e)

-- a map of places, and that with a place put in, beside a list with an item of its feature at the end
pub places_more : {T : Type 0} (feature : T → ℕ) (before after : ℕ → Option ℕ) (items : List T) (item : T) (len : ℕ) → ((f : ℕ) → before f ≡ last_place feature f items) → len ≡ length items
    → ((f : ℕ) → after f ≡ cond (is_at (nat_cmp (feature item)) f) (Some len) (before f)) → (f : ℕ) → after f ≡ last_place feature f (items ++ item ∷ [])
places_more feature before after items item len so_far is put f =
    put f ∙ (λ i. cond (same_key (feature item) f i) (Some (is i)) (so_far f i)) ∙ sym (last_more feature f items item)

-- what is left of a list is folded in behind one item more
pub fold_more : {A B : Type 0} (step : B → A → B) (all : B) (xs : List A) (i : ℕ) (x : A) (b next : B) → i < length xs → x ≡ get_or xs i x → next ≡ step b x → fold step b (drop i xs) ≡ all → fold step next (drop (i + 1) xs) ≡ all
fold_more step all xs i x b next less at is so_far =
    (λ j. fold step (is j) (drop (i + 1) xs)) ∙ (λ j. fold step (step b (at j)) (drop (i + 1) xs)) ∙ sym (at_drop_more (fold step b) xs i x less) ∙ so_far
