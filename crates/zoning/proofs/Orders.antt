-- A moment at a part of a duration, against another moment.
use Rattle.std.proofs.Common.{ℤ, pos, ◌+ℤ◌, ◌-ℤ◌, ◌*ℤ◌, ◌≤ℤ◌, ◌<ℤ◌, ◌≡◌, arith, ap}
use Rattle.std.proofs.lemmas.Int.{ints}
use Rattle.clipping.proofs.Products.{products}
use Rattle.clipping.proofs.Fractions.{cancel, scale}
use Rattle.zones.proofs.Products.{difference_times, sum_times, swap}

turned : (w p d : ℤ) → (w *ℤ p) *ℤ d ≡ p *ℤ (d *ℤ w)
turned w p d = omega (arith, ints, products)

-- s / k is the moment at the part p / q of a duration w, from t on
module _ (s p q k t w n d : ℤ) (q0 : pos 0 <ℤ q) (k0 : pos 0 <ℤ k) (e : s *ℤ q ≡ (t *ℤ q +ℤ w *ℤ p) *ℤ k) where
  abbrev r : ℤ
  r = t *ℤ q +ℤ w *ℤ p

  -- (s * d) * q is (r * d) * k
  same : (s *ℤ d) *ℤ q ≡ (r *ℤ d) *ℤ k
  same =
      let a = swap s d q in
      let b : (s *ℤ q) *ℤ d ≡ (r *ℤ k) *ℤ d = ap (λ v. v *ℤ d) e in
      let c = swap r k d in
      omega (arith, ints, a, b, c)

  -- r * d is (t * d) * q + p * (d * w)
  parts : r *ℤ d ≡ (t *ℤ d) *ℤ q +ℤ p *ℤ (d *ℤ w)
  parts =
      let x = sum_times (t *ℤ q) (w *ℤ p) d in
      let y = swap t q d in
      let z = turned w p d in
      omega (arith, ints, x, y, z)

  pub after_to : (s *ℤ d) ≤ℤ (n *ℤ k) → (p *ℤ (d *ℤ w)) ≤ℤ ((n -ℤ t *ℤ d) *ℤ q)
  after_to h =
      let z : pos 0 ≤ℤ q = omega (arith, ints, q0) in
      let m = scale (s *ℤ d) (n *ℤ k) q z h in
      let f = swap n k q in
      let g = cancel (r *ℤ d) (n *ℤ q) k k0 (omega (arith, ints, m, f, same)) in
      let u = difference_times n (t *ℤ d) q in
      omega (arith, ints, g, parts, u)

  pub after_from : (p *ℤ (d *ℤ w)) ≤ℤ ((n -ℤ t *ℤ d) *ℤ q) → (s *ℤ d) ≤ℤ (n *ℤ k)
  after_from h =
      let u = difference_times n (t *ℤ d) q in
      let g : (r *ℤ d) ≤ℤ (n *ℤ q) = omega (arith, ints, h, parts, u) in
      let z : pos 0 ≤ℤ k = omega (arith, ints, k0) in
      let m = scale (r *ℤ d) (n *ℤ q) k z g in
      let f = swap n k q in
      cancel (s *ℤ d) (n *ℤ k) q q0 (omega (arith, ints, m, f, same))

  pub before_to : (n *ℤ k) ≤ℤ (s *ℤ d) → ((n -ℤ t *ℤ d) *ℤ q) ≤ℤ (p *ℤ (d *ℤ w))
  before_to h =
      let z : pos 0 ≤ℤ q = omega (arith, ints, q0) in
      let m = scale (n *ℤ k) (s *ℤ d) q z h in
      let f = swap n k q in
      let g = cancel (n *ℤ q) (r *ℤ d) k k0 (omega (arith, ints, m, f, same)) in
      let u = difference_times n (t *ℤ d) q in
      omega (arith, ints, g, parts, u)

  pub before_from : ((n -ℤ t *ℤ d) *ℤ q) ≤ℤ (p *ℤ (d *ℤ w)) → (n *ℤ k) ≤ℤ (s *ℤ d)
  before_from h =
      let u = difference_times n (t *ℤ d) q in
      let g : (n *ℤ q) ≤ℤ (r *ℤ d) = omega (arith, ints, h, parts, u) in
      let z : pos 0 ≤ℤ k = omega (arith, ints, k0) in
      let m = scale (n *ℤ q) (r *ℤ d) k z g in
      let f = swap n k q in
      cancel (n *ℤ k) (s *ℤ d) q q0 (omega (arith, ints, m, f, same))
