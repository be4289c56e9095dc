-- Tests of all numbers below one, and lists made from them.
use Rattle.std.proofs.Common.{◌≡◌, ◌≢◌, ◌==◌, ◌||◌, add-one, ℕ, zero, suc, ◌+◌, ◌<◌, ◌≤◌, Bool, true, false, ◌&&◌, List, [], ◌∷◌, ◌++◌, length, map, Some, slice_get, refl, sym, ap, ◌∙◌, arith, ⊎_elim, subst}
use Rattle.std.specs.List.{All, range_with_len}
use Rattle.std.proofs.lemmas.Bool.{cases_lt, false≢true}
use Rattle.std.proofs.lemmas.Bool.Decides.{eqb_tells}
use Rattle.std.proofs.Math.Bool.{or-true}
use Rattle.std.proofs.lemmas.Option.{slice_get-get_or}
use Rattle.std.proofs.lemmas.List.FromFn.{length-map-range_with_len, get_or-map-range_with_len, map-range_with_len_more}
use Rattle.tbnode.specs.Nodes.{EntryView, widened}
use Rattle.tbnode.specs.Parts.{all_below}

pub and_left : (a b : Bool) → (a && b) ≡ true → a ≡ true
and_left true b e = refl
and_left false b e = e

pub and_right : (a b : Bool) → (a && b) ≡ true → b ≡ true
and_right true b e = e
and_right false b e = absurd (false≢true e)

pub and_both : (a b : Bool) → a ≡ true → b ≡ true → (a && b) ≡ true
and_both a b e f = ap (λ x. x && b) e ∙ f

pub and_fails : (a b : Bool) → b ≡ false → (a && b) ≡ false
and_fails true b e = e
and_fails false b e = refl

module _ (p : ℕ → Bool) where
  pub all_below-at : (n i : ℕ) → all_below p n ≡ true → i < n → p i ≡ true
  all_below-at zero i e h = absurd (omega (arith, h))
  all_below-at (suc n) i e h =
      ⊎_elim
      (λ lt. all_below-at n i (and_left (all_below p n) (p n) e) lt)
      (λ ge. let s : n ≡ i = omega arith in ap p (sym s) ∙ and_right (all_below p n) (p n) e)
      (cases_lt i n)

  pub all_below-fails : (n i : ℕ) → i < n → p i ≡ false → all_below p n ≡ false
  all_below-fails zero i h e = absurd (omega (arith, h))
  all_below-fails (suc n) i h e =
      ⊎_elim
      (λ lt. ap (λ b. b && p n) (all_below-fails n i lt e))
      (λ ge. let s : i ≡ n = omega arith in and_fails (all_below p n) (p n) (ap p (sym s) ∙ e))
      (cases_lt i n)

pub all_below-same : (p q : ℕ → Bool) (n : ℕ) → ((i : ℕ) → i < n → p i ≡ q i) → all_below p n ≡ all_below q n
all_below-same p q zero h = refl
all_below-same p q (suc n) h =
    let front = all_below-same p q n (λ i l. h i (omega (arith, l))) in
    let last = h n (omega arith) in
    λ i. front i && last i

-- the numbers below n, made into a list
abbrev pub made : {X : Type 0} → (ℕ → X) → ℕ → List X
made f n = map f (range_with_len 0 n)

module _ {X : Type 0} where
  pub length-made : (f : ℕ → X) (n : ℕ) → length (made f n) ≡ n
  length-made f n = length-map-range_with_len f 0 n

  pub get-made : (f : ℕ → X) (n i : ℕ) (x : X) (xs : List X) → made f n ≡ xs → i < length xs → x ≡ f i → slice_get xs i ≡ Some x
  get-made f n i x xs e h is =
      let P : List X → Type 0 = λ ys. i < length ys → slice_get ys i ≡ Some x in
      subst P e (λ l.
      let below : i < n = omega (arith, l, length-made f n) in
      slice_get-get_or (made f n) i x l ∙ ap Some (get_or-map-range_with_len f 0 n i i x below (omega arith) ∙ sym is)) h

  pub all-made : (P : X → Type 0) (f : ℕ → X) (n : ℕ) → ((i : ℕ) → i < n → P (f i)) → All P (made f n)
  all-made P f n h = λ k d l.
      let below : k < n = omega (arith, l, length-made f n) in
      subst P (sym (get_or-map-range_with_len f 0 n k k d below (omega arith))) (h k below)

  -- two functions with the same values give the same list
  pub made-same_from : (f g : ℕ → X) (a n : ℕ) → ((i : ℕ) → a ≤ i → i < a + n → f i ≡ g i) → map f (range_with_len a n) ≡ map g (range_with_len a n)
  made-same_from f g a zero h = refl
  made-same_from f g a (suc n) h =
      let here : f a ≡ g a = h a (omega arith) (omega arith) in
      let on : map f (range_with_len (a + 1) n) ≡ map g (range_with_len (a + 1) n) = made-same_from f g (a + 1) n (λ i b l. h i (omega (arith, b)) (omega (arith, l))) in
      λ i. here i ∷ on i

  pub made-same : (f g : ℕ → X) (n : ℕ) → ((i : ℕ) → i < n → f i ≡ g i) → made f n ≡ made g n
  made-same f g n h = made-same_from f g 0 n (λ i _ l. h i (omega (arith, l)))

  pub made-more : (f : ℕ → X) (n : ℕ) → made f (n + 1) ≡ made f n ++ f n ∷ []
  made-more f n = map-range_with_len_more f 0 n n (omega arith)

pub all_below-more : (p : ℕ → Bool) (n : ℕ) → all_below p (n + 1) ≡ (all_below p n && p n)
all_below-more p n = ap (all_below p) (add-one n)

pub all_below-true : (p : ℕ → Bool) (n : ℕ) → ((i : ℕ) → i < n → p i ≡ true) → all_below p n ≡ true
all_below-true p zero h = refl
all_below-true p (suc n) h =
    and_both (all_below p n) (p n) (all_below-true p n (λ i l. h i (omega (arith, l)))) (h n (omega arith))

pub or_else : (n : ℕ) (b : Bool) → (0 < n → b ≡ true) → ((n == 0) || b) ≡ true
or_else n b h =
    ⊎_elim
    (λ t. ap (λ x. x || b) t.0)
    (λ f. let above : 0 < n = omega (arith, f.1) in ap (λ x. (n == 0) || x) (h above) ∙ or-true (n == 0))
    (eqb_tells n 0)

module _ {B : Type 0} (cover : B → B → B) (box : B) (f g : ℕ → EntryView B) (t last : ℕ) (same : (j : ℕ) → j ≢ t → j < last → g j ≡ f j) (there : g t ≡ record (f t) { bounds = cover (f t).bounds box }) where
  made-widened_from : (a n k : ℕ) → a + k ≡ t → a + n ≤ last → map g (range_with_len a n) ≡ widened cover k box (map f (range_with_len a n))
  made-widened_from a zero k e l = refl
  made-widened_from a (suc n) zero e l =
      let is : t ≡ a = omega (arith, e) in
      let P : ℕ → Type 0 = λ j. g j ≡ record (f j) { bounds = cover (f j).bounds box } in
      let here : g a ≡ record (f a) { bounds = cover (f a).bounds box } = subst P is there in
      let on : map g (range_with_len (a + 1) n) ≡ map f (range_with_len (a + 1) n) =
      made-same_from g f (a + 1) n (λ i b m. same i (λ z. absurd (omega (arith, b, z, is))) (omega (arith, m, l))) in
      λ i. here i ∷ on i
  made-widened_from a (suc n) (suc k) e l =
      let here : g a ≡ f a = same a (λ z. absurd (omega (arith, z, e))) (omega (arith, l)) in
      let on : map g (range_with_len (a + 1) n) ≡ widened cover k box (map f (range_with_len (a + 1) n)) =
      made-widened_from (a + 1) n k (omega (arith, e)) (omega (arith, l)) in
      λ i. here i ∷ on i

  pub made-widened : t < last → made g last ≡ widened cover t box (made f last)
  made-widened h = made-widened_from 0 last t (omega arith) (omega arith)
