-- What tests of comparisons say.
use Rattle.std.proofs.Common.{ℤ, Bool, true, false, ◌≡◌, ◌<ℤ◌, ◌≤ℤ◌, ◌↔◌, IsTrue, arith, sym, ◌∙◌}
use Rattle.std.specs.Ordering.{int_cmp, is_lt}
use Rattle.std.proofs.lemmas.Int.{ints, by_lt_z}

not_both : (b : Bool) → b ≡ true → b ≡ false → ⊥
not_both b p q = cc

pub less : (x y : ℤ) → is_lt (int_cmp x y) ≡ true → x <ℤ y
less x y h = by_lt_z x y (λ l. l) (λ g. absurd (not_both (is_lt (int_cmp x y)) h (grind (arith, ints))))

pub not_less : (x y : ℤ) → is_lt (int_cmp x y) ≡ false → y ≤ℤ x
not_less x y h = by_lt_z x y (λ l. absurd (not_both (is_lt (int_cmp x y)) (grind (arith, ints)) h)) (λ g. g)

-- a test by a comparison
pub told : (b : Bool) (x y : ℤ) → b ≡ is_lt (int_cmp x y) → IsTrue b ↔ (x <ℤ y)
told b x y e = (λ h. less x y (sym e ∙ h), λ l. e ∙ grind (arith, ints))

pub not_told : (b : Bool) (x y : ℤ) → IsTrue b ↔ (x <ℤ y) → b ≡ false → y ≤ℤ x
not_told b x y t e = by_lt_z x y (λ l. absurd (not_both b (t.1 l) e)) (λ g. g)
