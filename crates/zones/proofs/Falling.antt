-- How much is left up to a place falls at each later one: places have terms of bounded size.
use Rattle.std.proofs.Common.{ℕ, ◌+◌, ◌*◌, ◌/◌, ◌^◌, ◌<◌, ◌≤◌, ◌≡◌, ℤ, pos, negsuc, ◌-ℤ◌, ◌*ℤ◌, ◌<ℤ◌, ◌≤ℤ◌, unsigned_abs, arith}
use Rattle.std.proofs.lemmas.Int.{ints}
use Rattle.std.proofs.lemmas.Nat.{mul-le}
use Rattle.std.proofs.Math.Nat.{mul-le-mul_right, le_of_mul-le-mul_right, le-div_iff_mul-le, div-mul-le_self, mul_right_comm, add-mul}
use Rattle.zones.proofs.Products.{difference_times, swap, scale_strictly}

falls_by : (k x y b d : ℕ) → 0 < b → 0 < d → b * d ≤ k → y * b + 1 ≤ x * d → y * k / d < x * k / b
falls_by k x y b d zb zd h g =
    let q : ℕ = y * k / d in
    let low : (y * k / d) * d ≤ y * k = div-mul-le_self (y * k) d in
    let one : ((y * k / d) * d) * b ≤ (y * k) * b = mul-le-mul_right b low in
    let two : (y * b + 1) * k ≤ (x * d) * k = mul-le-mul_right k g in
    let spread : ((y * k / d) * b + b) * d ≡ ((y * k / d) * b) * d + b * d = add-mul ((y * k / d) * b) b d in
    let three : (y * b + 1) * k ≡ (y * b) * k + 1 * k = add-mul (y * b) 1 k in
    let turn = mul_right_comm (y * k / d) b d in
    let turn2 = mul_right_comm y b k in
    let turn3 = mul_right_comm x d k in
    let all : ((y * k / d) * b + b) * d ≤ (x * k) * d = omega (arith, one, two, spread, three, turn, turn2, turn3, h) in
    let back : (y * k / d) * b + b ≤ x * k = le_of_mul-le-mul_right all zd in
    let more : (y * k / d + 1) * b ≡ (y * k / d) * b + 1 * b = add-mul (y * k / d) 1 b in
    let up : y * k / d + 1 ≤ x * k / b = (le-div_iff_mul-le zb).1 (omega (arith, back, more)) in
    omega (arith, up)

falls : (x y b d : ℤ) → pos 0 ≤ℤ x → pos 0 ≤ℤ y → pos 0 <ℤ b → pos 0 <ℤ d → unsigned_abs b < 2 ^ 103 → unsigned_abs d < 2 ^ 103 → (y *ℤ b) <ℤ (x *ℤ d)
    → unsigned_abs y * 102844034832575377634685573909834406561420991602098741459288064 / unsigned_abs d < unsigned_abs x * 102844034832575377634685573909834406561420991602098741459288064 / unsigned_abs b
falls (negsuc x) y b d p q zb zd hb hd g = absurd (omega (arith, ints))
falls (pos x) (negsuc y) b d p q zb zd hb hd g = absurd (omega (arith, ints))
falls (pos x) (pos y) (negsuc b) d p q zb zd hb hd g = absurd (omega (arith, ints))
falls (pos x) (pos y) (pos b) (negsuc d) p q zb zd hb hd g = absurd (omega (arith, ints))
falls (pos x) (pos y) (pos b) (pos d) p q zb zd hb hd g =
    falls_by 102844034832575377634685573909834406561420991602098741459288064 x y b d (omega (arith, ints)) (omega (arith, ints)) (mul-le b d 10141204801825835211973625643008 10141204801825835211973625643008 (omega arith) (omega arith)) (omega (arith, ints, g))

-- how much is left from a/b up to e/f
abbrev pub left : ℤ → ℤ → ℤ → ℤ → ℕ
left a b e f = unsigned_abs (e *ℤ b -ℤ a *ℤ f) * 102844034832575377634685573909834406561420991602098741459288064 / unsigned_abs b

pub left_falls : (a b c d e f : ℤ) → pos 0 <ℤ b → pos 0 <ℤ d → pos 0 <ℤ f → unsigned_abs b < 2 ^ 103 → unsigned_abs d < 2 ^ 103
    → (a *ℤ d) <ℤ (c *ℤ b) → (c *ℤ f) ≤ℤ (e *ℤ d) → (a *ℤ f) ≤ℤ (e *ℤ b) → left c d e f < left a b e f
left_falls a b c d e f zb zd zf hb hd after up here =
    let x = difference_times (e *ℤ d) (c *ℤ f) b in
    let y = difference_times (e *ℤ b) (a *ℤ f) d in
    let gap : ((a *ℤ d) *ℤ f) <ℤ ((c *ℤ b) *ℤ f) = scale_strictly (a *ℤ d) (c *ℤ b) f zf after in
    falls (e *ℤ b -ℤ a *ℤ f) (e *ℤ d -ℤ c *ℤ f) b d (omega (arith, ints, here)) (omega (arith, ints, up)) zb zd hb hd
    (omega (arith, ints, x, y, gap, swap e d b, swap c f b, swap a f d))
