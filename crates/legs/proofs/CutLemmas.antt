-- The moments of cuts.
use Rattle.std.proofs.Common.{ℕ, ◌+◌, ◌-◌, ◌*◌, ◌/◌, ◌<◌, ◌≤◌, ◌≡◌, ◌≢◌, ◌∙◌, ap, sym, refl, ℤ, pos, ◌+ℤ◌, ◌-ℤ◌, ◌*ℤ◌, ◌<ℤ◌, ◌≤ℤ◌, arith, List, length, get_or, min, cond, eqb, Bool, false, inl, inr, ◌⊎◌, Some, true}
use Rattle.std.specs.Prelude.{unsigned_abs}
use Rattle.std.specs.Int.{int_div_euclid}
use Rattle.std.proofs.lemmas.Int.{ints}
use Rattle.std.proofs.lemmas.Nat.{le-div}
use Rattle.std.proofs.Math.Nat.{add-div_right, mul-div_cancel, mul-le-mul_left, div-le_of_le-mul, div-mul-le_self, mul_comm, zero-div}
use Rattle.std.proofs.Math.IntN.{pos-*ℤ-pos}
use Rattle.std.proofs.lemmas.Bool.Decides.{nat_tests}
use Rattle.std.proofs.lemmas.List.{get_or_read}
use Rattle.timebase.specs.Instant.{IsMoment, some_moment}
use Rattle.mfcsv.specs.declared.Position.{Position}
use Rattle.mfcsv.specs.Views.{RecordView, IsRecord, leg_count}
use Rattle.legs.specs.Legs.{cut_moment, step_at, step_between, position_at, next_position}
use Rattle.legs.proofs.BoxLemmas.{le_to}

-- how far a cut is behind the start
pub passed-le : (span k n : ℕ) → 0 < n → k ≤ n → span * k / n ≤ span
passed-le span k n h l =
    let m : span * k ≤ span * n = mul-le-mul_left span l in
    div-le_of_le-mul n (omega (arith, mul_comm span n))

-- each cut is behind the one before it, where there is a millisecond for each leg
pub passed-lt : (span k n : ℕ) → 0 < n → n ≤ span → span * k / n < span * (k + 1) / n
passed-lt span k n h l =
    let more : span * k + n ≤ span * (k + 1) = omega arith in
    let next : (span * k + n) / n ≡ span * k / n + 1 = add-div_right (span * k) h in
    let kept : (span * k + n) / n ≤ span * (k + 1) / n = le-div _ _ n h (omega (arith, div-mul-le_self (span * k + n) n)) in
    omega arith

pub passed-none : (span n : ℕ) → span * 0 / n ≡ 0
passed-none span n = let e : span * 0 ≡ 0 = omega arith in ap (λ x. x / n) e ∙ zero-div n

pub passed-all : (span n : ℕ) → 0 < n → span * n / n ≡ span
passed-all span n h = mul-div_cancel span h

-- the moment of a cut, counted from the start
pub cut_moment-passed : (s e : ℤ) (span n k : ℕ) → pos span ≡ e -ℤ s → cut_moment s e n k ≡ s +ℤ pos (span * k / n)
unfolding cut_moment
cut_moment-passed s e span n k d =
    ap (λ z. s +ℤ int_div_euclid (z *ℤ pos k) (pos n)) (sym d) ∙ ap (λ z. s +ℤ int_div_euclid z (pos n)) (pos-*ℤ-pos span k)

-- how long it is from one moment to another, as the code counts it
pub span_is : (s e : ℤ) → s <ℤ e → pos (unsigned_abs (e -ℤ s)) ≡ e -ℤ s
span_is s e h = omega (arith, ints)

pub some_moment-in : (t : ℤ) → IsMoment t → some_moment t ≡ Some t
some_moment-in t m = rw (le_to _ t m.0, le_to t _ m.1) refl

-- the first cut is the start, the last one the end, and the cuts rise
pub cut_moment-first : (s e : ℤ) (n : ℕ) → s <ℤ e → cut_moment s e n 0 ≡ s
cut_moment-first s e n h = cut_moment-passed s e (unsigned_abs (e -ℤ s)) n 0 (span_is s e h) ∙ ap (λ x. s +ℤ pos x) (passed-none (unsigned_abs (e -ℤ s)) n) ∙ omega (arith, ints)

pub cut_moment-last : (s e : ℤ) (n : ℕ) → s <ℤ e → 0 < n → cut_moment s e n n ≡ e
cut_moment-last s e n h k =
    let d = span_is s e h in
    cut_moment-passed s e (unsigned_abs (e -ℤ s)) n n d ∙ ap (λ x. s +ℤ pos x) (passed-all (unsigned_abs (e -ℤ s)) n k) ∙ omega (arith, ints)

pub cut_moment-rises : (s e : ℤ) (n k : ℕ) → s <ℤ e → 0 < n → pos n ≤ℤ (e -ℤ s) → cut_moment s e n k <ℤ cut_moment s e n (k + 1)
cut_moment-rises s e n k h z l =
    let d = span_is s e h in
    let span : ℕ = unsigned_abs (e -ℤ s) in
    let enough : n ≤ unsigned_abs (e -ℤ s) = omega (arith, ints) in
    let p = cut_moment-passed s e (unsigned_abs (e -ℤ s)) n k d in
    let q = cut_moment-passed s e (unsigned_abs (e -ℤ s)) n (k + 1) d in
    let lt = passed-lt (unsigned_abs (e -ℤ s)) k n z enough in
    rw (p, q) (omega (arith, ints))

-- the moments of the legs of a record rise
pub step_rises : (r : RecordView) (k : ℕ) → IsRecord r → k < leg_count (length r.positions) → cut_moment r.t0 r.t1 (leg_count (length r.positions)) k <ℤ cut_moment r.t0 r.t1 (leg_count (length r.positions)) (k + 1)
step_rises r k is h = cut_moment-rises r.t0 r.t1 (leg_count (length r.positions)) k is.in_order (omega arith) is.long_enough

cases_bool : (b : Bool) → (b ≡ true) ⊎ (b ≡ false)
cases_bool true = inl refl
cases_bool false = inr refl

-- the position at which leg k ends, as the code finds it
pub next_position-read : (ps : List Position) (k : ℕ) (x : Position) → 1 ≤ length ps → k < leg_count (length ps) → x ≡ get_or ps (min (length ps - 1) (k + 1)) x → x ≡ next_position ps k
next_position-read ps k x some h e =
    elim (cases_bool (eqb (length ps) 1)) [
      | inl one ↦
          let n : length ps ≡ 1 = grind (arith, nat_tests) in
          let low : k < cond true 1 (length ps - 1) = rw one at h in
          let p : min (length ps - 1) (k + 1) ≡ k = omega arith in
          let q : x ≡ get_or ps k x = rw p at e in
          rw one (get_or_read ps k x (omega arith) q _)
      | inr more ↦
          let n : length ps ≢ 1 = grind (arith, nat_tests) in
          let low : k < cond false 1 (length ps - 1) = rw more at h in
          let p : min (length ps - 1) (k + 1) ≡ k + 1 = omega arith in
          let q : x ≡ get_or ps (k + 1) x = rw p at e in
          rw more (get_or_read ps (k + 1) x (omega arith) q _)
    ]

pub step_at-read : (r : RecordView) (k : ℕ) (from to : ℤ) (a b : Position) → 1 ≤ length r.positions → k < leg_count (length r.positions) → k < length r.positions → from ≡ cut_moment r.t0 r.t1 (leg_count (length r.positions)) k → to ≡ cut_moment r.t0 r.t1 (leg_count (length r.positions)) (k + 1)
    → a ≡ get_or r.positions k a → b ≡ get_or r.positions (min (length r.positions - 1) (k + 1)) b → step_between from to a b ≡ step_at r k
unfolding step_at
step_at-read r k from to a b some h l p q s t =
    let u : a ≡ position_at r.positions k = get_or_read r.positions k a l s _ in
    let v : b ≡ next_position r.positions k = next_position-read r.positions k b some h t in
    ap (λ x. step_between x to a b) p ∙ ap (λ x. step_between (cut_moment r.t0 r.t1 (leg_count (length r.positions)) k) x a b) q
    ∙ ap (λ x. step_between (cut_moment r.t0 r.t1 (leg_count (length r.positions)) k) (cut_moment r.t0 r.t1 (leg_count (length r.positions)) (k + 1)) x b) u
    ∙ ap (λ x. step_between (cut_moment r.t0 r.t1 (leg_count (length r.positions)) k) (cut_moment r.t0 r.t1 (leg_count (length r.positions)) (k + 1)) (position_at r.positions k) x) v

-- a cut as the code computes it from the fields of a record
pub cut_at : (r : RecordView) (t s e : ℤ) (n k : ℕ) → t ≡ cut_moment s e n k → s ≡ r.t0 → e ≡ r.t1 → n ≡ leg_count (length r.positions) → t ≡ cut_moment r.t0 r.t1 (leg_count (length r.positions)) k
cut_at r t s e n k p q u v =
    p ∙ ap (λ x. cut_moment x e n k) q ∙ ap (λ x. cut_moment r.t0 x n k) u ∙ ap (λ x. cut_moment r.t0 r.t1 x k) v

-- there are at least as many positions as legs
pub within-leg_count : (n k : ℕ) → 1 ≤ n → k < leg_count n → k < n
within-leg_count n k some h =
    elim (cases_bool (eqb n 1)) [
      | inl one ↦ let low : k < cond true 1 (n - 1) = rw one at h in omega arith
      | inr more ↦ let low : k < cond false 1 (n - 1) = rw more at h in omega arith
    ]
