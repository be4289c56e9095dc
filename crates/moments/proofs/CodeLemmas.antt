-- What the code computes of small numbers, as it stands in its goals.
use Rattle.std.proofs.Common.{◌∙◌, ◌≡◌, ◌<◌, ◌^◌, ℤ, ℕ, pos, negsuc, refl, ◌+ℤ◌, ◌-ℤ◌, ◌*ℤ◌, ◌≤ℤ◌, ◌<ℤ◌, arith, ap, sym, subst, cond, true, Some, None, to_z, of_z, w64, unsigned_abs}
use Rattle.std.specs.Prelude.{nat_le}
use Rattle.std.specs.Int.{w128}
use Rattle.std.proofs.lemmas.Bool.Decides.{nat_tests}
use Rattle.std.proofs.lemmas.Int.{ints}
use Rattle.timebase.specs.Instant.{IsMoment}
use Rattle.fixedpoint.specs.Number.{IsInRange, most, units_within}
use Rattle.clipping.specs.declared.line.Frac.{Frac}
use Rattle.moments.specs.Parts.{IsWhole}

-- a sum of two products
abbrev pub sum_code : ℤ → ℤ → ℤ
sum_code p q = to_z w128 (of_z w128 (to_z w128 (of_z w128 p) +ℤ to_z w128 (of_z w128 q)))

pub sum_is : (p q : ℤ) → unsigned_abs p < 2 ^ 104 → unsigned_abs q < 2 ^ 104 → sum_code p q ≡ p +ℤ q
sum_is p q a b = omega (arith, ints, a, b)

-- a product of a number by one of a part
pub product_is : (a b x y p : ℤ) → p ≡ x *ℤ y → x ≡ a → y ≡ b → p ≡ a *ℤ b
product_is a b x y p e f g = e ∙ (λ i. f i *ℤ g i)

pub small_is : (z : ℤ) → unsigned_abs z < 2 ^ 52 → to_z w64 (of_z w64 z) ≡ z
small_is z h = omega (arith, ints, h)

pub difference_is : (a b : ℤ) → unsigned_abs a < 2 ^ 51 → unsigned_abs b < 2 ^ 51 → to_z w64 (of_z w64 (to_z w64 (of_z w64 b) -ℤ to_z w64 (of_z w64 a))) ≡ b -ℤ a
difference_is a b h k = omega (arith, ints, h, k)

pub whole_from : (part : Frac) (a b x y p q u : ℤ) → x ≡ a → y ≡ b → IsInRange a → IsInRange b
    → p ≡ to_z w64 (of_z w64 x) *ℤ to_z w64 (of_z w64 part.den) → q ≡ to_z w64 (of_z w64 (to_z w64 (of_z w64 y) -ℤ to_z w64 (of_z w64 x))) *ℤ to_z w64 (of_z w64 part.num)
    → unsigned_abs p < 2 ^ 104 → unsigned_abs q < 2 ^ 104
    → (u *ℤ to_z w64 (of_z w64 part.den)) ≤ℤ sum_code p q → sum_code p q <ℤ ((u +ℤ pos 1) *ℤ to_z w64 (of_z w64 part.den)) → IsWhole part a b u
whole_from part a b x y p q u ex ey ra rb ep eq sp sq most_of next_of =
    let den = small_is part.den part.small.1 in
    let num = small_is part.num part.small.0 in
    let first = product_is a part.den _ _ p ep (ap (λ z. to_z w64 (of_z w64 z)) ex ∙ small_is a (omega (arith, ra))) den in
    let way : to_z w64 (of_z w64 (to_z w64 (of_z w64 y) -ℤ to_z w64 (of_z w64 x))) ≡ b -ℤ a =
    (λ i. to_z w64 (of_z w64 (to_z w64 (of_z w64 (ey i)) -ℤ to_z w64 (of_z w64 (ex i))))) ∙ difference_is a b (omega (arith, ra)) (omega (arith, rb)) in
    let second = product_is (b -ℤ a) part.num _ _ q eq way num in
    let sum : sum_code p q ≡ a *ℤ part.den +ℤ (b -ℤ a) *ℤ part.num = sum_is p q sp sq ∙ (λ i. first i +ℤ second i) in
    record {
      most = subst (λ (v : ℤ). (u *ℤ v) ≤ℤ (a *ℤ part.den +ℤ (b -ℤ a) *ℤ part.num)) den (subst (λ (v : ℤ). (u *ℤ to_z w64 (of_z w64 part.den)) ≤ℤ v) sum most_of);
      next = subst (λ (v : ℤ). (a *ℤ part.den +ℤ (b -ℤ a) *ℤ part.num) <ℤ ((u +ℤ pos 1) *ℤ v)) den (subst (λ (v : ℤ). v <ℤ ((u +ℤ pos 1) *ℤ to_z w64 (of_z w64 part.den))) sum next_of);
    }

-- a coordinate of units in range
pub units_is : (u : ℤ) → IsInRange u → to_z w64 (of_z w64 (to_z w128 (of_z w128 u))) ≡ u
units_is u h = omega (arith, ints, h)

pub some_units : (u : ℤ) → IsInRange u → units_within u ≡ Some u
some_units u h =
    let test : nat_le (unsigned_abs u) most ≡ true = grind (arith, nat_tests) in
    ap (λ b. cond b (Some u) None) test

-- the numerator of a moment, and its denominator
pub raw_is : (part : Frac) (t0 t1 x y p q : ℤ) → x ≡ t0 → y ≡ t1 → IsMoment t0 → IsMoment t1
    → p ≡ to_z w64 (of_z w64 x) *ℤ to_z w64 (of_z w64 part.den) → q ≡ to_z w64 (of_z w64 (to_z w64 (of_z w64 y) -ℤ to_z w64 (of_z w64 x))) *ℤ to_z w64 (of_z w64 part.num)
    → unsigned_abs p < 2 ^ 104 → unsigned_abs q < 2 ^ 104 → sum_code p q ≡ t0 *ℤ part.den +ℤ (t1 -ℤ t0) *ℤ part.num
raw_is part t0 t1 x y p q ex ey m0 m1 ep eq sp sq =
    let den = small_is part.den part.small.1 in
    let num = small_is part.num part.small.0 in
    let s0 : unsigned_abs t0 < 2 ^ 51 = let a = m0.0 in let b = m0.1 in omega (arith, ints, a, b) in
    let s1 : unsigned_abs t1 < 2 ^ 51 = let a = m1.0 in let b = m1.1 in omega (arith, ints, a, b) in
    let first = product_is t0 part.den _ _ p ep (ap (λ z. to_z w64 (of_z w64 z)) ex ∙ small_is t0 (omega (arith, s0))) den in
    let way : to_z w64 (of_z w64 (to_z w64 (of_z w64 y) -ℤ to_z w64 (of_z w64 x))) ≡ t1 -ℤ t0 =
    (λ i. to_z w64 (of_z w64 (to_z w64 (of_z w64 (ey i)) -ℤ to_z w64 (of_z w64 (ex i))))) ∙ difference_is t0 t1 s0 s1 in
    let second = product_is (t1 -ℤ t0) part.num _ _ q eq way num in
    sum_is p q sp sq ∙ (λ i. first i +ℤ second i)

positive_abs : (z : ℤ) → pos 0 <ℤ z → z ≡ pos (unsigned_abs z)
positive_abs (pos k) h = refl
positive_abs (negsuc k) h = absurd (omega (arith, ints, h))

pub den_is : (part : Frac) (k : ℕ) → k ≡ unsigned_abs (to_z w64 (of_z w64 part.den)) → part.den ≡ pos k
den_is part k e = positive_abs part.den part.positive ∙ ap pos (sym (e ∙ ap unsigned_abs (small_is part.den part.small.1)))
