-- Microseconds of moments are small.
use Rattle.std.proofs.Common.{ℕ, ◌<◌, ◌≡◌, ℤ, pos, neg_ℤ, ◌+ℤ◌, ◌-ℤ◌, ◌*ℤ◌, ◌≤ℤ◌, ◌<ℤ◌, arith}
use Rattle.std.proofs.lemmas.Int.{ints}
use Rattle.std.specs.Int.{int_div_euclid}
use Rattle.timebase.specs.Instant.{IsMoment}
use Rattle.visiting.proofs.Quotients.{below_from, below_strictly_from, floor_is}
use Rattle.moments.specs.Fractions.{IsInTime}

-- microseconds of moments
pub micros_in : (n : ℤ) (d : ℕ) → 0 < d → IsInTime n d → (neg_ℤ (pos 62135596800000000) ≤ℤ int_div_euclid (n *ℤ pos 1000) (pos d)) × (int_div_euclid (n *ℤ pos 1000) (pos d) ≤ℤ pos 253370764799999000)
micros_in n d positive within =
    let q : ℤ = int_div_euclid (n *ℤ pos 1000) (pos d) in
    let floor = floor_is (n *ℤ pos 1000) d positive in
    let after = within.0 in
    let before = within.1 in
    let above : (neg_ℤ (pos 62135596800000000) *ℤ pos d) <ℤ ((q +ℤ pos 1) *ℤ pos d) = let f = floor.1 in omega (arith, ints, after, f) in
    let least = below_strictly_from (neg_ℤ (pos 62135596800000000)) (q +ℤ pos 1) d positive above in
    let most : (q *ℤ pos d) ≤ℤ (pos 253370764799999000 *ℤ pos d) = let f = floor.0 in omega (arith, ints, before, f) in
    (omega (arith, ints, least), below_from q (pos 253370764799999000) d positive most)

-- and rounded up
pub micros_up_in : (n : ℤ) (d : ℕ) → 0 < d → IsInTime n d
    → (neg_ℤ (pos 253370764799999001) ≤ℤ int_div_euclid ((pos 0 -ℤ n) *ℤ pos 1000) (pos d)) × (int_div_euclid ((pos 0 -ℤ n) *ℤ pos 1000) (pos d) ≤ℤ pos 62135596800000000)
micros_up_in n d positive within =
    let z : ℤ = (pos 0 -ℤ n) *ℤ pos 1000 in
    let q : ℤ = int_div_euclid z (pos d) in
    let floor = floor_is z d positive in
    let after = within.0 in
    let before = within.1 in
    let e : z ≡ pos 0 -ℤ (n *ℤ pos 1000) = omega (arith, ints) in
    let above : (neg_ℤ (pos 253370764799999001) *ℤ pos d) <ℤ ((q +ℤ pos 1) *ℤ pos d) = let f = floor.1 in omega (arith, ints, before, f, e, positive) in
    let least = below_strictly_from (neg_ℤ (pos 253370764799999001)) (q +ℤ pos 1) d positive above in
    let most : (q *ℤ pos d) ≤ℤ (pos 62135596800000000 *ℤ pos d) = let f = floor.0 in omega (arith, ints, after, f, e) in
    (omega (arith, ints, least), below_from q (pos 62135596800000000) d positive most)

-- the whole milliseconds of microseconds that are not before the first moment, nor a millisecond after the last
pub milli_in : (q : ℤ) → neg_ℤ (pos 62135596800000000) ≤ℤ q → q ≤ℤ pos 253370764799999999 → IsMoment (int_div_euclid q (pos 1000))
milli_in q least most =
    let floor = floor_is q 1000 (omega arith) in
    let below = floor.0 in
    let above = floor.1 in
    (omega (arith, ints, below, above, least), omega (arith, ints, below, above, most))
