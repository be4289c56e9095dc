-- Moments as whole milliseconds, and in whole microseconds.
use Rattle.std.proofs.Common.{ℕ, ◌+◌, ◌*◌, ◌<◌, ◌≤◌, ◌≡◌, ℤ, pos, ◌+ℤ◌, ◌*ℤ◌, ◌≤ℤ◌, ◌<ℤ◌, arith, to_z, of_z, w64}
use Rattle.timebase.specs.Instant.{IsMoment}
use Rattle.std.proofs.lemmas.Int.{ints}
use Rattle.std.specs.Int.{int_div_euclid}
use Rattle.visiting.specs.Lengths.{micros_down, micros_up}
use Rattle.visiting.proofs.Quotients.{below_from, below_strictly_from, ceiling_is, floor_is}
use Rattle.zones.proofs.Products.{sum_times, swap}

-- a moment that is a whole millisecond has no rest
pub milli_only : (w a : ℤ) (r d : ℕ) → r < d → w *ℤ pos d +ℤ pos r ≡ a *ℤ pos d → (w ≡ a) × (r ≡ 0)
milli_only w a r d less e =
    let d0 : 0 < d = omega (arith, less) in
    let s = sum_times w (pos 1) (pos d) in
    let low : w ≤ℤ a = below_from w a d d0 (omega (arith, ints, e)) in
    let high : a <ℤ (w +ℤ pos 1) = below_strictly_from a (w +ℤ pos 1) d d0 (omega (arith, ints, e, less, s)) in
    let same : w ≡ a = omega (arith, ints, low, high) in
    let product : w *ℤ pos d ≡ a *ℤ pos d = λ i. same i *ℤ pos d in
    (same, omega (arith, ints, e, product))

pub milli_from : (w a : ℤ) (r d : ℕ) → w ≡ a → r ≡ 0 → w *ℤ pos d +ℤ pos r ≡ a *ℤ pos d
milli_from w a r d same none =
    let product : w *ℤ pos d ≡ a *ℤ pos d = λ i. same i *ℤ pos d in
    omega (arith, ints, product, none)

floor_only : (z q : ℤ) (d : ℕ) → 0 < d → (q *ℤ pos d) ≤ℤ z → z <ℤ ((q +ℤ pos 1) *ℤ pos d) → q ≡ int_div_euclid z (pos d)
floor_only z q d d0 low high =
    let f : ℤ = int_div_euclid z (pos d) in
    let is = floor_is z d d0 in
    let a = is.0 in
    let b = is.1 in
    let less : q <ℤ (f +ℤ pos 1) = below_strictly_from q (f +ℤ pos 1) d d0 (omega (arith, ints, low, b)) in
    let more : f <ℤ (q +ℤ pos 1) = below_strictly_from f (q +ℤ pos 1) d d0 (omega (arith, ints, high, a)) in
    omega (arith, ints, less, more)

ceiling_only : (n m : ℤ) (d : ℕ) → 0 < d → (n *ℤ pos 1000) ≤ℤ (m *ℤ pos d) → (m *ℤ pos d) <ℤ (n *ℤ pos 1000 +ℤ pos d) → m ≡ micros_up n d
ceiling_only n m d d0 low high =
    let c : ℤ = micros_up n d in
    let is = ceiling_is n (pos 1000) d d0 in
    let a = is.0 in
    let b = is.1 in
    let s = sum_times c (pos 1) (pos d) in
    let t = sum_times m (pos 1) (pos d) in
    let less : m <ℤ (c +ℤ pos 1) = below_strictly_from m (c +ℤ pos 1) d d0 (omega (arith, ints, high, a, s)) in
    let more : c <ℤ (m +ℤ pos 1) = below_strictly_from c (m +ℤ pos 1) d d0 (omega (arith, ints, low, b, t)) in
    omega (arith, ints, less, more)

module _ (w : ℤ) (r d t : ℕ) (less : r < d) (whole : t * d ≤ r * 1000) (next : r * 1000 < (t + 1) * d) where
  d0 : 0 < d
  d0 = omega (arith, less)

  -- the whole milliseconds in microseconds, and t, times d
  product : (w *ℤ pos 1000 +ℤ pos t) *ℤ pos d ≡ (w *ℤ pos d) *ℤ pos 1000 +ℤ pos (t * d)
  product =
      let a = sum_times (w *ℤ pos 1000) (pos t) (pos d) in
      let b = swap w (pos 1000) (pos d) in
      omega (arith, ints, a, b)

  number : (w *ℤ pos d +ℤ pos r) *ℤ pos 1000 ≡ (w *ℤ pos d) *ℤ pos 1000 +ℤ pos (r * 1000)
  number = let a = sum_times (w *ℤ pos d) (pos r) (pos 1000) in omega (arith, ints, a)

  one_more : (w *ℤ pos 1000 +ℤ pos t +ℤ pos 1) *ℤ pos d ≡ (w *ℤ pos 1000 +ℤ pos t) *ℤ pos d +ℤ pos d
  one_more = let a = sum_times (w *ℤ pos 1000 +ℤ pos t) (pos 1) (pos d) in omega (arith, ints, a)

  split : (t + 1) * d ≡ t * d + d
  split = omega arith

  pub down_is : w *ℤ pos 1000 +ℤ pos t ≡ micros_down (w *ℤ pos d +ℤ pos r) d
  down_is =
      floor_only ((w *ℤ pos d +ℤ pos r) *ℤ pos 1000) (w *ℤ pos 1000 +ℤ pos t) d d0 (omega (arith, ints, product, number, whole))
      (omega (arith, ints, product, number, next, one_more, split))

  pub up_whole : r * 1000 ≡ t * d → w *ℤ pos 1000 +ℤ pos t ≡ micros_up (w *ℤ pos d +ℤ pos r) d
  up_whole e =
      ceiling_only (w *ℤ pos d +ℤ pos r) (w *ℤ pos 1000 +ℤ pos t) d d0 (omega (arith, ints, product, number, e)) (omega (arith, ints, product, number, e, d0))

  pub up_more : (r * 1000 ≡ t * d → ⊥) → w *ℤ pos 1000 +ℤ pos t +ℤ pos 1 ≡ micros_up (w *ℤ pos d +ℤ pos r) d
  up_more n =
      let above : t * d < r * 1000 = omega (arith, whole, n) in
      ceiling_only (w *ℤ pos d +ℤ pos r) (w *ℤ pos 1000 +ℤ pos t +ℤ pos 1) d d0 (omega (arith, ints, product, number, next, one_more, split))
      (omega (arith, ints, product, number, above, one_more))

-- the code's sums do not wrap
pub code_down : (x w : ℤ) (t : ℕ) → x ≡ w → IsMoment w → t < 1000 → to_z w64 (of_z w64 (to_z w64 (of_z w64 (to_z w64 (of_z w64 x) *ℤ pos 1000)) +ℤ to_z w64 t)) ≡ w *ℤ pos 1000 +ℤ pos t
code_down x w t e m few =
    let low = m.0 in
    let high = m.1 in
    omega (arith, ints, e, low, high, few)

pub code_up : (x w : ℤ) (t : ℕ) → x ≡ w → IsMoment w → t < 1000
    → to_z w64 (of_z w64 (to_z w64 (of_z w64 (to_z w64 (of_z w64 (to_z w64 (of_z w64 x) *ℤ pos 1000)) +ℤ to_z w64 t)) +ℤ pos 1)) ≡ w *ℤ pos 1000 +ℤ pos t +ℤ pos 1
code_up x w t e m few =
    let low = m.0 in
    let high = m.1 in
    omega (arith, ints, e, low, high, few)
