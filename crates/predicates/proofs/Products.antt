-- Products of signed numbers.
use Rattle.std.proofs.Common.{ℕ, ◌+◌, ◌*◌, ◌<◌, ℤ, pos, negsuc, ◌+ℤ◌, ◌-ℤ◌, ◌*ℤ◌, neg_ℤ, ◌≤ℤ◌, ◌<ℤ◌, ◌≡◌, arith, ap}
use Rattle.std.proofs.lemmas.Int.{ints, by_lt_z}
use Rattle.std.proofs.Math.Nat.{mul-le-mul_right}
use borrow.Author.Differences.{up, down, product_is, neg_is, le_out, lt_out}
use native.Mathlib.Nat.{mul-lt-mul_of_pos_right}

by : (k m n : ℕ) → m ≡ n → m * k ≡ n * k
by k m n e = ap (λ x. x * k) e

times_comm : (a b : ℤ) → a *ℤ b ≡ b *ℤ a
times_comm a b = omega (arith, ints)

sum_times : (a b c : ℤ) → (a +ℤ b) *ℤ c ≡ a *ℤ c +ℤ b *ℤ c
sum_times a b c =
    let s : up (a +ℤ b) + down a + down b ≡ down (a +ℤ b) + up a + up b = omega (arith, ints) in
    let t : up ((a +ℤ b) *ℤ c) + down (a *ℤ c) + down (b *ℤ c) ≡ down ((a +ℤ b) *ℤ c) + up (a *ℤ c) + up (b *ℤ c) =
    omega (arith, product_is (a +ℤ b) c, product_is a c, product_is b c, by (up c) _ _ s, by (down c) _ _ s) in
    omega (arith, ints, t)

difference_times : (a b c : ℤ) → (a -ℤ b) *ℤ c ≡ a *ℤ c -ℤ b *ℤ c
difference_times a b c =
    let s : up (a -ℤ b) + down a + up b ≡ down (a -ℤ b) + up a + down b = omega (arith, ints) in
    let t : up ((a -ℤ b) *ℤ c) + down (a *ℤ c) + up (b *ℤ c) ≡ down ((a -ℤ b) *ℤ c) + up (a *ℤ c) + down (b *ℤ c) =
    omega (arith, product_is (a -ℤ b) c, product_is a c, product_is b c, by (up c) _ _ s, by (down c) _ _ s) in
    omega (arith, ints, t)

pub times_difference : (c a b : ℤ) → c *ℤ (a -ℤ b) ≡ c *ℤ a -ℤ c *ℤ b
times_difference c a b = omega (arith, ints, difference_times a b c, times_comm c a, times_comm c b, times_comm c (a -ℤ b))

pub negative_times : (a c : ℤ) → neg_ℤ a *ℤ c ≡ neg_ℤ (a *ℤ c)
negative_times a c =
    let n = neg_is a in
    let x = product_is (neg_ℤ a) c in
    let y = product_is a c in
    omega (arith, ints, x, y, by (up c) _ _ n.0, by (down c) _ _ n.1, by (up c) _ _ n.1, by (down c) _ _ n.0)

pub regroup : (a b c : ℤ) → a *ℤ (b *ℤ c) ≡ (a *ℤ c) *ℤ b
regroup a b c =
    let bc = product_is b c in
    let l = product_is a (b *ℤ c) in
    let ac = product_is a c in
    let r = product_is (a *ℤ c) b in
    omega (arith, ints, l, r, by (up a) _ _ bc.0, by (down a) _ _ bc.1, by (up a) _ _ bc.1, by (down a) _ _ bc.0, by (up b) _ _ ac.0, by (down b) _ _ ac.1, by (up b) _ _ ac.1, by (down b) _ _ ac.0)

-- a factor that is not negative keeps an order, and one above 0 gives it back
pub scale : (a b k : ℤ) → pos 0 ≤ℤ k → a ≤ℤ b → (a *ℤ k) ≤ℤ (b *ℤ k)
scale a b (pos n) z h = omega (arith, ints, mul-le-mul_right n (le_out a b h))
scale a b (negsuc n) z h = absurd (omega (arith, ints))

scale_strictly : (a b k : ℤ) → pos 0 <ℤ k → a <ℤ b → (a *ℤ k) <ℤ (b *ℤ k)
scale_strictly a b (pos n) z h =
    let k : 0 < n = omega (arith, ints) in
    omega (arith, ints, mul-lt-mul_of_pos_right (lt_out a b h) k)
scale_strictly a b (negsuc n) z h = absurd (omega (arith, ints))

pub cancel : (a b k : ℤ) → pos 0 <ℤ k → (a *ℤ k) ≤ℤ (b *ℤ k) → a ≤ℤ b
cancel a b k z h = by_lt_z b a (λ g. let m : (b *ℤ k) <ℤ (a *ℤ k) = scale_strictly b a k z g in absurd (omega (arith, ints))) (λ g. g)

-- a product of two factors above 0
pub wide : (a b : ℤ) → pos 0 <ℤ a → pos 0 <ℤ b → pos 0 <ℤ (a *ℤ b)
wide a b p q = let h : (pos 0 *ℤ b) <ℤ (a *ℤ b) = scale_strictly (pos 0) a b q p in omega (arith, ints, h)

-- a times w, and m times the time since t0, at f; and d times that
pub scaled_line : (a m t0 w f d : ℤ) → (a *ℤ w +ℤ m *ℤ (f -ℤ t0)) *ℤ d ≡ a *ℤ (d *ℤ w) +ℤ (m *ℤ f) *ℤ d -ℤ m *ℤ (t0 *ℤ d)
scaled_line a m t0 w f d =
    let s = sum_times (a *ℤ w) (m *ℤ (f -ℤ t0)) d in
    let t : (m *ℤ (f -ℤ t0)) *ℤ d ≡ (m *ℤ f -ℤ m *ℤ t0) *ℤ d = ap (λ v. v *ℤ d) (times_difference m f t0) in
    let u = difference_times (m *ℤ f) (m *ℤ t0) d in
    let v = regroup a d w in
    let x : m *ℤ (t0 *ℤ d) ≡ m *ℤ (d *ℤ t0) = ap (λ v. m *ℤ v) (times_comm t0 d) in
    let y = regroup m d t0 in
    omega (arith, ints, s, t, u, v, x, y)
