-- Fractions in lowest terms.
use Rattle.std.proofs.Common.{ℕ, ◌+◌, ◌-◌, ◌*◌, ◌/◌, ◌%◌, ◌<◌, ◌≤◌, ◌≡◌, ◌∙◌, ℤ, pos, negsuc, neg_ℤ, ◌+ℤ◌, ◌-ℤ◌, ◌*ℤ◌, ◌≤ℤ◌, ◌<ℤ◌, unsigned_abs, arith, ap, sym, subst, inl, inr}
use Rattle.std.proofs.lemmas.Int.{ints, quot-rem, unsigned_abs-mul}
use Rattle.std.proofs.lemmas.Nat.{div-add-mod'}
use Rattle.std.proofs.lemmas.Nat.Gcd.{dvd_refl, dvd_trans, IsGcd-from_mod, le_of_dvd, mod-eq-zero_of_dvd}
use Rattle.std.specs.Prelude.{◌⊎◌}
use Rattle.std.proofs.Math.Nat.{one-dvd, dvd-add, dvd-sub, dvd-mul_left, dvd-mul_right, mul-dvd-mul_right, pos_of_dvd_of_pos}
use Rattle.std.specs.Int.{IsGcd, ◌∣◌}
use Rattle.std.specs.Int.RustNames.{int_div, int_rem}
use Rattle.clipping.proofs.Products.{products}
use Rattle.clipping.proofs.Fractions.{cancel}
use Rattle.timebase.specs.Instant.{least_moment, greatest_moment}
use Rattle.moments.specs.Fractions.{IsInTime, IsLowest, IsSame}

no_rest : (n : ℤ) (g : ℕ) → unsigned_abs n % g ≡ 0 → int_rem n (pos g) ≡ pos 0
no_rest (pos a) g e = ap pos e
no_rest (negsuc a) g e = ap (λ r. neg_ℤ (pos r)) e

-- the quotient by a divisor
pub quotient_is : (n : ℤ) (g : ℕ) → g ∣ unsigned_abs n → int_div n (pos g) *ℤ pos g ≡ n
quotient_is n g divides =
    let e = no_rest n g (mod-eq-zero_of_dvd g divides) in
    let h = quot-rem n (pos g) in
    omega (arith, ints, e, h)

by_le : {a b x y : ℤ} → a ≡ x → b ≡ y → a ≤ℤ b → x ≤ℤ y
by_le {a} {b} {x} {y} e f h = subst (λ (v : ℤ). v ≤ℤ y) e (subst (λ (v : ℤ). a ≤ℤ v) f h)

-- a fraction n / d, whose terms have the greatest common divisor g, is m / e, where m and e are the quotients by it
module _ (n m : ℤ) (d e g : ℕ) (positive : 0 < d) (common : IsGcd d (unsigned_abs n % d) g) (is : m *ℤ pos g ≡ n) (den : e ≡ d / g) where
  common_of : IsGcd (unsigned_abs n) d g
  common_of = IsGcd-from_mod (unsigned_abs n) d g common

  pub divisor_positive : 0 < g
  divisor_positive = pos_of_dvd_of_pos common.0 positive

  whole : e * g ≡ d
  whole =
      let split = div-add-mod' d g in
      let none = mod-eq-zero_of_dvd g common.0 in
      let same : e * g ≡ d / g * g = ap (λ k. k * g) den in
      omega (arith, split, none, same)

  pub still_positive : 0 < e
  still_positive = pos_of_dvd_of_pos (dvd-mul_right e g) (subst (λ k. 0 < k) (sym whole) positive)

  magnitude : unsigned_abs m * g ≡ unsigned_abs n
  magnitude = sym (unsigned_abs-mul m (pos g)) ∙ ap unsigned_abs is

  pub lowest_is : IsLowest m e
  lowest_is = (
    one-dvd (unsigned_abs m),
    one-dvd e,
    λ k p q.
        let a : k * g ∣ unsigned_abs n = subst (λ x. k * g ∣ x) magnitude (mul-dvd-mul_right k p g) in
        let b : k * g ∣ d = subst (λ x. k * g ∣ x) whole (mul-dvd-mul_right k q g) in
        let both = common_of.2 (k * g) a b in
        let less : k * g ≤ g = le_of_dvd divisor_positive both in
        let some = pos_of_dvd_of_pos q still_positive in
        let one : k ≡ 1 = one_from k g divisor_positive some less in
        subst (λ x. x ∣ 1) (sym one) (dvd_refl 1),
  )
    where
      one_from : (k g : ℕ) → 0 < g → 0 < k → k * g ≤ g → k ≡ 1
      one_from k g h s l = grind (arith)

  regrouped : (a : ℤ) → (a *ℤ pos e) *ℤ pos g ≡ a *ℤ pos d
  regrouped a =
      let turned : (a *ℤ pos e) *ℤ pos g ≡ a *ℤ (pos e *ℤ pos g) = omega (arith, ints, products) in
      turned ∙ ap (λ k. a *ℤ pos k) whole

  pub still_in_time : IsInTime n d → IsInTime m e
  still_in_time within =
      let g0 : pos 0 <ℤ pos g = let h = divisor_positive in omega (arith, ints, h) in (
        cancel (least_moment *ℤ pos e) m (pos g) g0 (by_le (sym (regrouped least_moment)) (sym is) within.0),
        cancel m (greatest_moment *ℤ pos e) (pos g) g0 (by_le (sym is) (sym (regrouped greatest_moment)) within.1),
      )

  pub still_same : IsSame m e n d
  still_same =
      let w : pos e *ℤ pos g ≡ pos d = ap pos whole in
      let a : m *ℤ pos d ≡ m *ℤ (pos e *ℤ pos g) = ap (λ x. m *ℤ x) (sym w) in
      let b : n *ℤ pos e ≡ (m *ℤ pos g) *ℤ pos e = ap (λ x. x *ℤ pos e) (sym is) in
      omega (arith, ints, products, a, b)

-- the magnitude of a sum
abs_sum : (m t : ℤ) → (unsigned_abs (m +ℤ t) ≡ unsigned_abs m + unsigned_abs t) ⊎ (unsigned_abs (m +ℤ t) ≡ unsigned_abs m - unsigned_abs t + (unsigned_abs t - unsigned_abs m))
abs_sum (pos a) (pos b) = inl (omega (arith, ints))
abs_sum (pos a) (negsuc b) = inr (omega (arith, ints))
abs_sum (negsuc a) (pos b) = inr (omega (arith, ints))
abs_sum (negsuc a) (negsuc b) = inl (omega (arith, ints))

divides_sum : (k : ℕ) (m t : ℤ) → k ∣ unsigned_abs m → k ∣ unsigned_abs t → k ∣ unsigned_abs (m +ℤ t)
divides_sum k m t p q = by (abs_sum m t)
  where
    by : (unsigned_abs (m +ℤ t) ≡ unsigned_abs m + unsigned_abs t) ⊎ (unsigned_abs (m +ℤ t) ≡ unsigned_abs m - unsigned_abs t + (unsigned_abs t - unsigned_abs m)) → k ∣ unsigned_abs (m +ℤ t)
    by (inl e) = subst (λ x. k ∣ x) (sym e) (dvd-add k p q)
    by (inr e) = subst (λ x. k ∣ x) (sym e) (dvd-add k (dvd-sub k p q) (dvd-sub k q p))

-- a fraction in lowest terms, less a whole number
pub lowest_less : (n b : ℤ) (d : ℕ) → IsLowest n d → IsLowest (n -ℤ b *ℤ pos d) d
lowest_less n b d lowest = (
  one-dvd (unsigned_abs (n -ℤ b *ℤ pos d)),
  one-dvd d,
  λ k p q.
      let t : ℤ = b *ℤ pos d in
      let times : unsigned_abs t ≡ unsigned_abs b * d = unsigned_abs-mul b (pos d) in
      let whole : k ∣ unsigned_abs t = subst (λ x. k ∣ x) (sym times) (dvd_trans k q (dvd-mul_left d (unsigned_abs b))) in
      let back : n -ℤ t +ℤ t ≡ n = omega (arith, ints) in
      lowest.2 k (subst (λ z. k ∣ unsigned_abs z) back (divides_sum k (n -ℤ t) t p whole)) q,
)
