-- Sums times a number, and quotients of signed numbers.
use Rattle.std.proofs.Common.{ℕ, ◌+◌, ◌*◌, ◌/◌, ◌<◌, ◌≡◌, ℤ, pos, negsuc, ◌+ℤ◌, ◌-ℤ◌, ◌*ℤ◌, ◌≤ℤ◌, ◌<ℤ◌, arith, ap}
use Rattle.std.proofs.lemmas.Int.{ints, by_lt_z}
use Rattle.std.proofs.lemmas.Nat.{div-add-mod', mod_below}
use Rattle.std.specs.Int.{int_div_euclid}
use Rattle.clipping.proofs.Products.{products, difference_times_is}
use Rattle.clipping.proofs.Fractions.{cancel, scale}
use Rattle.visiting.specs.Fractions.{IsCeiling}
use borrow.Author.Differences.{up, down, product_is}

by : (k m n : ℕ) → m ≡ n → m * k ≡ n * k
by k m n e = ap (λ x. x * k) e

sum_up : (a b c : ℤ) → up ((a +ℤ b) *ℤ c) + down (a *ℤ c) + down (b *ℤ c) ≡ down ((a +ℤ b) *ℤ c) + up (a *ℤ c) + up (b *ℤ c)
sum_up a b c =
    let s : up (a +ℤ b) + down a + down b ≡ down (a +ℤ b) + up a + up b = omega (arith, ints) in
    omega (arith, product_is (a +ℤ b) c, product_is a c, product_is b c, by (up c) _ _ s, by (down c) _ _ s)

pub sum_times : (a b c : ℤ) → (a +ℤ b) *ℤ c ≡ a *ℤ c +ℤ b *ℤ c
sum_times a b c = omega (arith, ints, sum_up a b c)

-- the quotient that rounds down
pub floor_is : (z : ℤ) (d : ℕ) → 0 < d → ((int_div_euclid z (pos d) *ℤ pos d) ≤ℤ z) × (z <ℤ ((int_div_euclid z (pos d) +ℤ pos 1) *ℤ pos d))
floor_is (pos a) d positive =
    let split = div-add-mod' a d in
    let less = mod_below a d positive in
    (omega (arith, ints, split, less), omega (arith, ints, split, less, sum_times (pos (a / d)) (pos 1) (pos d)))
floor_is (negsuc a) d positive =
    let split = div-add-mod' a d in
    let less = mod_below a d positive in
    (omega (arith, ints, products, split, less), omega (arith, ints, products, split, less, sum_times (negsuc (a / d)) (pos 1) (pos d)))

-- the order of two numbers by that of their products
pub below_from : (q m : ℤ) (d : ℕ) → 0 < d → (q *ℤ pos d) ≤ℤ (m *ℤ pos d) → q ≤ℤ m
below_from q m d positive h =
    let d0 : pos 0 <ℤ pos d = omega (arith, ints) in
    cancel q m (pos d) d0 h

pub below_strictly_from : (q m : ℤ) (d : ℕ) → 0 < d → (q *ℤ pos d) <ℤ (m *ℤ pos d) → q <ℤ m
below_strictly_from q m d positive h =
    by_lt_z q m (λ lt. lt) (λ ge.
    let d0 : pos 0 ≤ℤ pos d = omega (arith, ints) in
    let s = scale m q (pos d) d0 ge in
    absurd (omega (arith, ints, s, h)))

pub negative_times : (a c : ℤ) → (pos 0 -ℤ a) *ℤ c ≡ pos 0 -ℤ (a *ℤ c)
negative_times a c = omega (arith, ints, difference_times_is (pos 0) a c)

-- the negative of the quotient of a negative number rounds up
pub ceiling_is : (n p : ℤ) (d : ℕ) → 0 < d → IsCeiling p n d (pos 0 -ℤ int_div_euclid ((pos 0 -ℤ n) *ℤ p) (pos d))
ceiling_is n p d positive =
    let z : ℤ = (pos 0 -ℤ n) *ℤ p in
    let q : ℤ = int_div_euclid z (pos d) in
    let floor = floor_is z d positive in
    let e : z ≡ pos 0 -ℤ (n *ℤ p) = negative_times n p in
    let m : (pos 0 -ℤ q) *ℤ pos d ≡ pos 0 -ℤ (q *ℤ pos d) = negative_times q (pos d) in
    let s = sum_times q (pos 1) (pos d) in
    let f = floor.0 in
    let h = floor.1 in
    (omega (arith, ints, e, m, f), omega (arith, ints, e, m, h, s))

pub floor_at : (z d : ℤ) → pos 0 <ℤ d → ((int_div_euclid z d *ℤ d) ≤ℤ z) × (z <ℤ ((int_div_euclid z d +ℤ pos 1) *ℤ d))
floor_at z (pos k) h = floor_is z k (omega (arith, ints, h))
floor_at z (negsuc k) h = absurd (omega (arith, ints, h))
