-- The cases of what a text reads as.
use Rattle.std.proofs.Common.{sym, ◌∙◌, ℕ, zero, suc, ◌+◌, ◌*◌, ◌/◌, ◌^◌, ◌<◌, ◌≤◌, ◌≡◌, ◌↔◌, true, false, Bool, List, length, Ok, Err, leb, arith, refl, unsigned_abs}
use Rattle.std.proofs.lemmas.Bool.Decides.{nat_tests}
use Rattle.std.proofs.lemmas.Nat.{le-div, mul-le}
use Rattle.std.proofs.Math.Nat.{div-mul-le_self, one-le-pow, le_refl}
use Rattle.fixedpoint.specs.Number.{rounded, number_of, magnitude, are_parts, whole_part, fraction_part, most, signed, is_negative}
use Rattle.fixedpoint.specs.Laws.{IsNearest}
use Rattle.fixedpoint.specs.Steps.{IsMagnitude}
use Rattle.fixedpoint.specs.Number.{unsigned_text}
use Rattle.fixedpoint.specs.declared.NumberFault.TheVariants.{Shape, Range}

pub number_long : (s : ℕ) (t : List ℕ) → 40 < length t → number_of s t ≡ Err Shape
unfolding number_of
number_long s t h = let no : leb (length t) 40 ≡ false = grind (arith, nat_tests) in rw no refl

pub number_refused : (s : ℕ) (t : List ℕ) → length t ≤ 40 → are_parts (whole_part t) (fraction_part t) ≡ false → number_of s t ≡ Err Shape
unfolding number_of
number_refused s t h p = let yes : leb (length t) 40 ≡ true = grind (arith, nat_tests) in rw (yes, p) refl

pub number_past : (s : ℕ) (t : List ℕ) (m : ℕ) → length t ≤ 40 → IsMagnitude s (unsigned_text t) m → most < m → number_of s t ≡ Err Range
unfolding number_of
number_past s t m h is past =
    let yes : leb (length t) 40 ≡ true = grind (arith, nat_tests) in
    let p = is.parts in
    let e = is.value in
    let no : leb (magnitude s (whole_part t) (fraction_part t)) most ≡ false = grind (arith, nat_tests) in
    rw (yes, p, no) refl

-- a magnitude in range is the text's
pub magnitude_is : (s : ℕ) (t : List ℕ) (m : ℕ) → IsMagnitude s (unsigned_text t) m → m ≤ most → magnitude s (whole_part t) (fraction_part t) ≡ m
magnitude_is s t m is within = let e = is.value in omega arith

pub number_is : (s : ℕ) (t : List ℕ) (m : ℕ) → length t ≤ 40 → IsMagnitude s (unsigned_text t) m → m ≤ most → number_of s t ≡ Ok (signed (is_negative t) m)
unfolding number_of
number_is s t m h is within =
    let yes : leb (length t) 40 ≡ true = grind (arith, nat_tests) in
    let p = is.parts in
    let same = magnitude_is s t m is within in
    let le : leb m most ≡ true = grind (arith, nat_tests) in
    rw (yes, p, same, le) refl

-- the rounded number is the greatest m with 2 * m * 10 ^ f ≤ 2 * n * s + 10 ^ f
pub rounded_is_greatest : (s f n m : ℕ) → (m ≤ rounded s f n) ↔ (2 * (m * 10 ^ f) ≤ 2 * (n * s) + 10 ^ f)
rounded_is_greatest s f n m =
    let p = one-le-pow f 10 (omega arith) in
    let k : ℕ = 2 * 10 ^ f in
    let x : ℕ = 2 * (n * s) + 10 ^ f in
    let turned : m * k ≡ 2 * (m * 10 ^ f) = omega arith in (
      λ le. let a : m * k ≤ x / k * k = mul-le m k (x / k) k le (le_refl k) in let b = div-mul-le_self x k in omega arith,
      λ le. le-div m x k (omega arith) (omega arith),
    )

abs_signed : (b : Bool) (m : ℕ) → unsigned_abs (signed b m) ≡ m
abs_signed false m = refl
abs_signed true zero = refl
abs_signed true (suc m) = refl

pub number_nearest : (s : ℕ) (t : List ℕ) (m : ℕ) → IsMagnitude s (unsigned_text t) m → m ≤ most → IsNearest s t (signed (is_negative t) m)
unfolding magnitude
number_nearest s t m is within k =
    let abs = abs_signed (is_negative t) m in
    let same = magnitude_is s t m is within in
    let whole : unsigned_abs (signed (is_negative t) m) ≡ magnitude s (whole_part t) (fraction_part t) = abs ∙ sym same in
    rw whole (rounded_is_greatest s _ _ k)
