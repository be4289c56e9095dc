-- All pages of a tree, level by level: there are more in the store.
use Rattle.std.proofs.Common.{ℕ, zero, suc, ◌+◌, ◌-◌, ◌<◌, ◌≤◌, ◌≡◌, List, [], ◌∷◌, ◌++◌, length, refl, sym, ap, ◌∙◌, arith, ⊎_elim, Some, slice_get}
use Rattle.std.proofs.lemmas.Bool.{cases_lt}
use Rattle.tbtree.specs.Stands.{page_at, NumbersStand}
use Rattle.legs.proofs.GroupLemmas.{some_none}
use Rattle.tbtree.proofs.BoundLemmas.{few_pages}

module _ {X : Type 0} where
  in_front : (xs ys : List X) (i : ℕ) → i < length xs → slice_get (xs ++ ys) i ≡ slice_get xs i
  in_front [] ys i h = absurd (omega (arith, h))
  in_front (x ∷ xs) ys zero h = refl
  in_front (x ∷ xs) ys (suc i) h = in_front xs ys i (omega (arith, h))

  behind : (xs ys : List X) (i j : ℕ) → i ≡ length xs + j → slice_get (xs ++ ys) i ≡ slice_get ys j
  behind [] ys i j e = ap (slice_get ys) (omega (arith, e))
  behind (x ∷ xs) ys zero j e = absurd (omega (arith, e))
  behind (x ∷ xs) ys (suc i) j e = behind xs ys i j (omega (arith, e))

-- the pages of the first levels, one level after another
abbrev pub pages_to : (ℕ → List ℕ) → ℕ → List ℕ
pages_to pages zero = []
pages_to pages (suc k) = pages_to pages k ++ pages k

record Found (pages : ℕ → List ℕ) (K i a : ℕ) : Type 0 where
  level : ℕ
  place : ℕ
  is : page_at pages level place ≡ Some a
  index : i ≡ length (pages_to pages level) + place

where_is : (pages : ℕ → List ℕ) (K i a : ℕ) → slice_get (pages_to pages K) i ≡ Some a → Found pages K i a
where_is pages zero i a e = absurd (some_none a (sym e))
where_is pages (suc K) i a e =
    let n = length (pages_to pages K) in
    ⊎_elim
    (λ (h : i < n). let w = where_is pages K i a (sym (in_front (pages_to pages K) (pages K) i h) ∙ e) in record { level = w.level; place = w.place; is = w.is; index = w.index })
    (λ (h : n ≤ i). let j : i ≡ n + (i - n) = omega (arith, h) in record { level = K; place = i - n; is = sym (behind (pages_to pages K) (pages K) i (i - n) j) ∙ e; index = j })
    (cases_lt i n)

module _ {L : Type 0} (inner levels root count : ℕ) (rs : List (List L)) (pages : ℕ → List ℕ) (n : NumbersStand inner levels root count rs pages) where
  pub few_in_all : (K : ℕ) → length (pages_to pages K) < count
  few_in_all K =
      few_pages (pages_to pages K) count n.page_0
      (λ i a e. let w = where_is pages K i a e in n.within w.level w.place a w.is)
      (λ i j a e f. let v = where_is pages K i a e in let w = where_is pages K j a f in
      let s = n.apart v.level v.place w.level w.place a v.is w.is in
      let l : length (pages_to pages v.level) ≡ length (pages_to pages w.level) = ap (λ k. length (pages_to pages k)) s.0 in
      let p : v.place ≡ w.place = s.1 in
      let vi = v.index in let wi = w.index in
      omega (arith, vi, wi, l, p))
