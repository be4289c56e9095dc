-- Products of signed numbers: an integer z is read as `up z - down z`.
use Rattle.std.proofs.Common.{ℕ, ◌+◌, ◌*◌, ◌<◌, ℤ, pos, negsuc, ◌+ℤ◌, ◌-ℤ◌, ◌*ℤ◌, ◌<ℤ◌, ◌≡◌, arith, ap}
use Rattle.std.proofs.lemmas.Int.{ints}
use borrow.Author.Differences.{up, down, product_is, lt_out}
use native.Mathlib.Nat.{mul-lt-mul_of_pos_right}

by : (k m n : ℕ) → m ≡ n → m * k ≡ n * k
by k m n e = ap (λ x. x * k) e

pub times_comm : (a b : ℤ) → a *ℤ b ≡ b *ℤ a
times_comm a b = omega (arith, ints)

pub sum_times : (a b c : ℤ) → (a +ℤ b) *ℤ c ≡ a *ℤ c +ℤ b *ℤ c
sum_times a b c =
    let s : up (a +ℤ b) + down a + down b ≡ down (a +ℤ b) + up a + up b = omega (arith, ints) in
    let t : up ((a +ℤ b) *ℤ c) + down (a *ℤ c) + down (b *ℤ c) ≡ down ((a +ℤ b) *ℤ c) + up (a *ℤ c) + up (b *ℤ c) =
    omega (arith, product_is (a +ℤ b) c, product_is a c, product_is b c, by (up c) _ _ s, by (down c) _ _ s) in
    omega (arith, ints, t)

pub difference_times : (a b c : ℤ) → (a -ℤ b) *ℤ c ≡ a *ℤ c -ℤ b *ℤ c
difference_times a b c =
    let s : up (a -ℤ b) + down a + up b ≡ down (a -ℤ b) + up a + down b = omega (arith, ints) in
    let t : up ((a -ℤ b) *ℤ c) + down (a *ℤ c) + up (b *ℤ c) ≡ down ((a -ℤ b) *ℤ c) + up (a *ℤ c) + down (b *ℤ c) =
    omega (arith, product_is (a -ℤ b) c, product_is a c, product_is b c, by (up c) _ _ s, by (down c) _ _ s) in
    omega (arith, ints, t)

-- (a * b) * c is (a * c) * b
pub swap : (a b c : ℤ) → (a *ℤ b) *ℤ c ≡ (a *ℤ c) *ℤ b
swap a b c =
    let ab = product_is a b in
    let l = product_is (a *ℤ b) c in
    let ac = product_is a c in
    let r = product_is (a *ℤ c) b in
    omega (arith, ints, l, r, by (up c) _ _ ab.0, by (down c) _ _ ab.1, by (up c) _ _ ab.1, by (down c) _ _ ab.0, by (up b) _ _ ac.0, by (down b) _ _ ac.1, by (up b) _ _ ac.1, by (down b) _ _ ac.0)

pub scale_strictly : (a b k : ℤ) → pos 0 <ℤ k → a <ℤ b → (a *ℤ k) <ℤ (b *ℤ k)
scale_strictly a b (pos n) z h =
    let k : 0 < n = omega (arith, ints) in
    omega (arith, ints, mul-lt-mul_of_pos_right (lt_out a b h) k)
scale_strictly a b (negsuc n) z h = absurd (omega (arith, ints))

-- (u * d + m * n) * r
pub spread : (u d m n r : ℤ) → (u *ℤ d +ℤ m *ℤ n) *ℤ r ≡ (u *ℤ r) *ℤ d +ℤ (m *ℤ r) *ℤ n
spread u d m n r = omega (arith, ints, sum_times (u *ℤ d) (m *ℤ n) r, swap u d r, swap m n r)

-- the cross product along a course is linear
pub linear : (x0 dx ax y0 dy ay rise run n d : ℤ)
    → ((x0 *ℤ d +ℤ dx *ℤ n) -ℤ ax *ℤ d) *ℤ rise -ℤ ((y0 *ℤ d +ℤ dy *ℤ n) -ℤ ay *ℤ d) *ℤ run
    ≡ ((x0 -ℤ ax) *ℤ rise -ℤ (y0 -ℤ ay) *ℤ run) *ℤ d +ℤ (dx *ℤ rise -ℤ dy *ℤ run) *ℤ n
linear x0 dx ax y0 dy ay rise run n d =
    let wx : (x0 *ℤ d +ℤ dx *ℤ n) -ℤ ax *ℤ d ≡ (x0 -ℤ ax) *ℤ d +ℤ dx *ℤ n = omega (arith, ints, difference_times x0 ax d) in
    let wy : (y0 *ℤ d +ℤ dy *ℤ n) -ℤ ay *ℤ d ≡ (y0 -ℤ ay) *ℤ d +ℤ dy *ℤ n = omega (arith, ints, difference_times y0 ay d) in
    let px : ((x0 *ℤ d +ℤ dx *ℤ n) -ℤ ax *ℤ d) *ℤ rise ≡ ((x0 -ℤ ax) *ℤ d +ℤ dx *ℤ n) *ℤ rise = ap (λ v. v *ℤ rise) wx in
    let py : ((y0 *ℤ d +ℤ dy *ℤ n) -ℤ ay *ℤ d) *ℤ run ≡ ((y0 -ℤ ay) *ℤ d +ℤ dy *ℤ n) *ℤ run = ap (λ v. v *ℤ run) wy in
    let sx = spread (x0 -ℤ ax) d dx n rise in
    let sy = spread (y0 -ℤ ay) d dy n run in
    let c0 = difference_times ((x0 -ℤ ax) *ℤ rise) ((y0 -ℤ ay) *ℤ run) d in
    let c1 = difference_times (dx *ℤ rise) (dy *ℤ run) n in
    omega (arith, ints, px, py, sx, sy, c0, c1)
