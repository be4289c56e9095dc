-- On which side of a gate's line a leg is before it meets the line, and after.
use Rattle.std.proofs.Common.{ℕ, ◌≤◌, ℤ, pos, ◌-ℤ◌, ◌*ℤ◌, ◌<ℤ◌, ◌≡◌, ◌∙◌, None, Less, Equal, Greater, Ordering, arith, ap, sym, refl}
use Rattle.std.proofs.lemmas.Cmp.{int_ranked, by_ranked}
use Rattle.std.proofs.lemmas.Int.{ints}
use Rattle.legs.specs.Legs.{LegView}
use Rattle.clipping.specs.Inside.{duration}
use Rattle.clipping.proofs.Products.{products}
use Rattle.zones.specs.Turns.{at, side, side_slope, side_start, sign}
use Rattle.zones.specs.declared.places.Gate.{Gate}
use Rattle.zones.proofs.EdgeLemmas.{int_cmp_greater, int_cmp_less}
use Rattle.zones.proofs.Pieces as pieces
use Rattle.zones.proofs.Pieces.{times_difference}
use Rattle.zones.proofs.Products.{difference_times, scale_strictly, sum_times, swap}
use Rattle.zones.proofs.Signs.{sign_product, sign_times}
use Rattle.zoning.specs.Sides.{IsSideAfter, IsSideBefore, edge_of, side_after, side_at, side_before, side_by}
use Rattle.zoning.specs.Stays.{course_of}

-- a sign that tells no side is that of 0
none_equal : (o : Ordering) → side_by o ≡ None → o ≡ Equal
none_equal Less e = absurd (cc)
none_equal Equal e = refl
none_equal Greater e = absurd (cc)

zero_of : (x : ℤ) → sign x ≡ Equal → x ≡ pos 0
zero_of x e =
    by_ranked (x <ℤ pos 0) (x ≡ pos 0) (pos 0 <ℤ x) (sign x) (int_ranked x (pos 0) (sign x) refl) (λ i h. absurd (cc)) (λ i h. h) (λ i h. absurd (cc))

grouped : (a b z : ℤ) → (a *ℤ b) *ℤ z ≡ a *ℤ (b *ℤ z)
grouped a b z = omega (arith, ints, products)

-- what grows evenly, and is 0 at j / q, at i / p
grown : (c0 c1 i p j q : ℤ) → at c0 c1 j q ≡ pos 0 → at c0 c1 i p *ℤ q ≡ c1 *ℤ (i *ℤ q -ℤ j *ℤ p)
grown c0 c1 i p j q zero =
    let a = sum_times (c0 *ℤ p) (c1 *ℤ i) q in
    let b = sum_times (c0 *ℤ q) (c1 *ℤ j) p in
    let c : at c0 c1 j q *ℤ p ≡ pos 0 *ℤ p = ap (λ (v : ℤ). v *ℤ p) zero in
    let d = swap c0 p q in
    let e = grouped c1 i q in
    let f = grouped c1 j p in
    let g : c1 *ℤ (i *ℤ q -ℤ j *ℤ p) ≡ c1 *ℤ (i *ℤ q) -ℤ c1 *ℤ (j *ℤ p) = times_difference c1 (i *ℤ q) (j *ℤ p) in
    omega (arith, ints, a, b, c, d, e, f, g)

-- how much later m / e is than n / d, at a leg's speed
ahead : (t w n m d e : ℤ) → (m -ℤ t *ℤ e) *ℤ (d *ℤ w) -ℤ (n -ℤ t *ℤ d) *ℤ (e *ℤ w) ≡ (m *ℤ d) *ℤ w -ℤ (n *ℤ e) *ℤ w
ahead t w n m d e =
    let a = difference_times m (t *ℤ e) (d *ℤ w) in
    let b = difference_times n (t *ℤ d) (e *ℤ w) in
    let c = grouped m d w in
    let f = grouped n e w in
    let g = grouped (t *ℤ e) d w in
    let h = grouped (t *ℤ d) e w in
    let k : ((t *ℤ e) *ℤ d) *ℤ w ≡ ((t *ℤ d) *ℤ e) *ℤ w = ap (λ (v : ℤ). v *ℤ w) (swap t e d) in
    omega (arith, ints, a, b, c, f, g, h, k)

positive : (d : ℕ) → 1 ≤ d → pos 0 <ℤ pos d
positive d h = omega (arith, ints, h)

times_positive : (d w : ℤ) → pos 0 <ℤ d → pos 0 <ℤ w → pos 0 <ℤ (d *ℤ w)
times_positive d w h g = let s = scale_strictly (pos 0) d w g h in omega (arith, ints, s)

module _ (gate : Gate) (leg : LegView) (rises : leg.t0 <ℤ leg.t1) (n m : ℤ) (d e : ℕ) (d1 : 1 ≤ d) (e1 : 1 ≤ e) (on : side_at gate leg n d ≡ None) where
  abbrev w : ℤ
  w = duration leg

  abbrev c0 : ℤ
  c0 = side_start (course_of leg) (edge_of gate)

  abbrev c1 : ℤ
  c1 = side_slope (course_of leg) (edge_of gate)

  abbrev i : ℤ
  i = m -ℤ leg.t0 *ℤ pos e

  abbrev j : ℤ
  j = n -ℤ leg.t0 *ℤ pos d

  w0 : pos 0 <ℤ w
  w0 = omega (arith, ints, rises)

  zero : at c0 c1 j (pos d *ℤ w) ≡ pos 0
  zero = zero_of (at c0 c1 j (pos d *ℤ w)) (sym (pieces.side_at (course_of leg) (edge_of gate) j (pos d *ℤ w)) ∙ none_equal (side (edge_of gate) _) on)

  -- the side at m / e by the signs of the growth and of the way to it
  side_is : (o : Ordering) → sign (i *ℤ (pos d *ℤ w) -ℤ j *ℤ (pos e *ℤ w)) ≡ o → side_at gate leg m e ≡ side_by (sign_times (sign c1) o)
  side_is o way =
      let q : ℤ = pos d *ℤ w in
      let k : ℤ = i *ℤ q -ℤ j *ℤ (pos e *ℤ w) in
      let q1 : sign q ≡ Greater = int_cmp_greater q (pos 0) (times_positive (pos d) w (positive d d1) w0) in
      let same : sign (at c0 c1 i (pos e *ℤ w)) ≡ sign_times (sign c1) o =
      sym (sign_product (at c0 c1 i (pos e *ℤ w)) q ∙ ap (sign_times (sign (at c0 c1 i (pos e *ℤ w)))) q1) ∙ ap sign (grown c0 c1 i (pos e *ℤ w) j q zero) ∙ sign_product c1 k ∙ ap (sign_times (sign c1)) way in
      ap side_by (pieces.side_at (course_of leg) (edge_of gate) i (pos e *ℤ w) ∙ same)

  later : (n *ℤ pos e) <ℤ (m *ℤ pos d) → side_at gate leg m e ≡ side_after gate leg
  later h =
      let s = scale_strictly (n *ℤ pos e) (m *ℤ pos d) w w0 h in
      let a = ahead leg.t0 w n m (pos d) (pos e) in
      side_is Greater (int_cmp_greater (i *ℤ (pos d *ℤ w) -ℤ j *ℤ (pos e *ℤ w)) (pos 0) (omega (arith, ints, s, a)))

  earlier : (m *ℤ pos d) <ℤ (n *ℤ pos e) → side_at gate leg m e ≡ side_before gate leg
  earlier h =
      let s = scale_strictly (m *ℤ pos d) (n *ℤ pos e) w w0 h in
      let a = ahead leg.t0 w n m (pos d) (pos e) in
      side_is Less (int_cmp_less (i *ℤ (pos d *ℤ w) -ℤ j *ℤ (pos e *ℤ w)) (pos 0) (omega (arith, ints, s, a)))

pub is_after : (gate : Gate) (leg : LegView) → leg.t0 <ℤ leg.t1 → IsSideAfter gate leg (side_after gate leg)
is_after gate leg rises = λ n m d e d1 e1 on h. later gate leg rises n m d e d1 e1 on h

pub is_before : (gate : Gate) (leg : LegView) → leg.t0 <ℤ leg.t1 → IsSideBefore gate leg (side_before gate leg)
is_before gate leg rises = λ n m d e d1 e1 on h. earlier gate leg rises n m d e d1 e1 on h
