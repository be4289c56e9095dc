-- The sum of the lengths of all parts of a list.
use Rattle.std.proofs.Common.{[], ◌∷◌, ◌+◌, ◌<◌, ◌≤◌, ◌≡◌, ◌∙◌, ◌==◌, ℕ, zero, suc, ap, sym, refl, arith, List, Bool, true, false, cond, filter, length, inl, inr}
use Rattle.std.specs.Prelude.{All, sum_by}
use Rattle.std.specs.List.{range_with_len}
use Rattle.std.proofs.lemmas.Bool.{cases_Bool}
use Rattle.std.proofs.lemmas.Bool.Decides.{nat_tests}
use Rattle.std.proofs.lemmas.List.{length-map}
use Rattle.std.proofs.lemmas.List.Sums.{sum_by-cons}
use Rattle.std.proofs.lemmas.List.Elements.{All-head, All-tail}
use Rattle.writer.specs.Entries.{NamedLegView}
use Rattle.legs.specs.Book.{Book}
use Rattle.together.specs.Parts.{ArePartsOf, own_legs, own_names}
use Rattle.together.specs.Told.{all_told, told_leg}
use Rattle.together.proofs.FeatureLemmas.{range_within}

pub sum-agree : (L : ℕ → Type 0) (u v : ℕ → ℕ) → ((k : ℕ) → L k → u k ≡ v k) → (ks : List ℕ) → All L ks → sum_by u ks ≡ sum_by v ks
sum-agree L u v same [] all = refl
sum-agree L u v same (k ∷ ks) all =
    sum_by-cons u k ks ∙ ap (λ x. x + sum_by u ks) (same k (All-head L k ks all)) ∙ ap (λ x. v k + x) (sum-agree L u v same ks (All-tail L k ks all)) ∙ sym (sum_by-cons v k ks)

pub sum-plus : (u v : ℕ → ℕ) (ks : List ℕ) → sum_by (λ k. u k + v k) ks ≡ sum_by u ks + sum_by v ks
sum-plus u v [] = omega arith
sum-plus u v (k ∷ ks) =
    let e : (u k + v k) + (sum_by u ks + sum_by v ks) ≡ (u k + sum_by u ks) + (v k + sum_by v ks) = omega arith in
    sum_by-cons (λ j. u j + v j) k ks ∙ ap (λ x. (u k + v k) + x) (sum-plus u v ks) ∙ e ∙ ap (λ x. x + (v k + sum_by v ks)) (sym (sum_by-cons u k ks)) ∙ ap (λ x. sum_by u (k ∷ ks) + x) (sym (sum_by-cons v k ks))

-- one of a stretch of numbers is i, or none is
one : ℕ → ℕ → ℕ
one i k = cond (i == k) 1 0

one_by : (i k : ℕ) (b : Bool) → (i == k) ≡ b → one i k ≡ cond b 1 0
unfolding one
one_by i k b e = ap (λ c. cond c 1 0) e

none_before : (i a m : ℕ) → i < a → sum_by (one i) (range_with_len a m) ≡ 0
none_before i a zero h = refl
none_before i a (suc m) h =
    let e : (i == a) ≡ false = grind (arith, nat_tests) in
    let f : one i a ≡ 0 = one_by i a false e in
    let more = none_before i (a + 1) m (omega arith) in
    sum_by-cons (one i) a (range_with_len (a + 1) m) ∙ ap (λ c. c + sum_by (one i) (range_with_len (a + 1) m)) f ∙ ap (λ x. 0 + x) more

one_within : (i a m : ℕ) → a ≤ i → i < a + m → sum_by (one i) (range_with_len a m) ≡ 1
one_within i a zero h less = absurd (omega arith)
one_within i a (suc m) h less = elim (cases_Bool (i == a)) [
  | inl e ↦
      let same : i < a + 1 = grind (arith, nat_tests) in
      sum_by-cons (one i) a (range_with_len (a + 1) m) ∙ ap (λ c. c + sum_by (one i) (range_with_len (a + 1) m)) (one_by i a true e) ∙ ap (λ x. 1 + x) (none_before i (a + 1) m same)
  | inr e ↦
      let above : a + 1 ≤ i = grind (arith, nat_tests) in
      sum_by-cons (one i) a (range_with_len (a + 1) m) ∙ ap (λ c. c + sum_by (one i) (range_with_len (a + 1) m)) (one_by i a false e) ∙ ap (λ x. 0 + x) (one_within i (a + 1) m above (omega arith))
]

-- the parts of a list
longer : {X : Type 0} (b : Bool) (x : X) (xs : List X) → length (cond b (x ∷ xs) xs) ≡ cond b 1 0 + length xs
longer true x xs = omega arith
longer false x xs = omega arith

pub sum_parts : {X : Type 0} (g : X → ℕ) (n : ℕ) → ((x : X) → g x < n) → (xs : List X) → sum_by (λ k. length (filter (λ x. g x == k) xs)) (range_with_len 0 n) ≡ length xs
unfolding one
sum_parts g n within [] = zeros (range_with_len 0 n)
  where
    zeros : (ks : List ℕ) → sum_by (λ k. 0) ks ≡ 0
    zeros [] = refl
    zeros (k ∷ ks) = zeros ks
sum_parts g n within (x ∷ xs) =
    let less = within x in
    let more = sum_parts g n within xs in
    let here = one_within (g x) 0 n (omega arith) (omega (arith, less)) in
    let both = sum-plus (one (g x)) (λ k. length (filter (λ y. g y == k) xs)) (range_with_len 0 n) in
    sum-agree (λ k. k < n) (λ k. length (filter (λ y. g y == k) (x ∷ xs))) (λ k. one (g x) k + length (filter (λ y. g y == k) xs))
    (λ k h. longer (g x == k) x (filter (λ y. g y == k) xs)) (range_with_len 0 n) (range_within n)
    ∙ both ∙ omega (arith, more, here)

pub count_law : (f : List ℕ → ℕ) (n : ℕ) (whole : Book) (parts : ℕ → Book) → ArePartsOf f n whole parts → (length whole.legs ≡ sum_by (λ k. length (parts k).legs) (range_with_len 0 n)) × (length whole.names ≡ sum_by (λ k. length (parts k).names) (range_with_len 0 n))
count_law f n whole parts are = (
  sym (sum-agree (λ k. k < n) (λ k. length (parts k).legs) (λ k. length (own_legs f k (all_told whole)))
      (λ k h. sym (length-map (parts k).legs (told_leg (parts k))) ∙ ap length (are.each k h).legs) (range_with_len 0 n) (range_within n)
      ∙ sum_parts (λ (e : NamedLegView). f e.name) n (λ e. are.within e.name) (all_told whole) ∙ length-map whole.legs (told_leg whole)),
  sym (sum-agree (λ k. k < n) (λ k. length (parts k).names) (λ k. length (own_names f k whole.names))
      (λ k h. ap length (are.each k h).names) (range_with_len 0 n) (range_within n)
      ∙ sum_parts f n are.within whole.names),
)
