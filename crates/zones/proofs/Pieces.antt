-- Between two fractions of a course at which no sign has turned round, the zone is constant; and it is closed at both.
use Rattle.std.proofs.Common.{true, false, ℤ, pos, ◌+ℤ◌, ◌-ℤ◌, ◌*ℤ◌, ◌<ℤ◌, ◌≡◌, arith, ap, sym, ◌∙◌, refl, Less, Equal, Greater, Ordering, List, [], ◌∷◌}
use Rattle.std.specs.Ordering.{ordering_then, ordering_reverse}
use Rattle.std.proofs.lemmas.Int.{ints}
use Rattle.std.proofs.lemmas.Cmp.{int_ranked, by_ranked}
use Rattle.zones.specs.Places.{Corner, Edge, CourseView, point_at}
pub use Rattle.zones.specs.Turns.{at, is_opposite, Calm, AllCalm, side_start, side_slope}
use Rattle.zones.specs.Zones.{zone_edges, in_zone}
use Rattle.zones.proofs.Products.{difference_times, sum_times, swap, times_comm, linear, scale_strictly}
use Rattle.zones.proofs.Orders.{less_back}
use Rattle.zones.proofs.EdgeLemmas.{order_same, int_cmp_less, int_cmp_greater}
use Rattle.zones.proofs.Closed.{height, width, side}
use Rattle.zones.proofs.Signs.{sign, sign_times, sign_product}
use Rattle.zones.proofs.Kept.{Alike, AllAlike, Near, AllNear, zone_alike, zone_closed}

assoc : (a b c : ℤ) → (a *ℤ b) *ℤ c ≡ a *ℤ (b *ℤ c)
assoc a b c = ap (λ v. v *ℤ c) (times_comm a b) ∙ swap b a c ∙ times_comm (b *ℤ c) a

pub times_difference : (c a b : ℤ) → c *ℤ (a -ℤ b) ≡ c *ℤ a -ℤ c *ℤ b
times_difference c a b = omega (arith, ints, difference_times a b c, times_comm c a, times_comm c b, times_comm c (a -ℤ b))

last_ones : (a b c d : ℤ) → (a *ℤ b) *ℤ (c *ℤ d) ≡ (a *ℤ d) *ℤ (c *ℤ b)
last_ones a b c d = assoc a b (c *ℤ d) ∙ ap (λ v. a *ℤ v) (times_comm b (c *ℤ d) ∙ swap c d b ∙ times_comm (c *ℤ b) d) ∙ sym (assoc a d (c *ℤ b))

inner_ones : (a b c d : ℤ) → (a *ℤ b) *ℤ (c *ℤ d) ≡ (a *ℤ c) *ℤ (b *ℤ d)
inner_ones a b c d = ap (λ v. (a *ℤ b) *ℤ v) (times_comm c d) ∙ last_ones a b d c ∙ ap (λ v. (a *ℤ c) *ℤ v) (times_comm d b)

expand : (a b p q : ℤ) → (a +ℤ b) *ℤ (p -ℤ q) ≡ ((a *ℤ p -ℤ a *ℤ q) +ℤ b *ℤ p) -ℤ b *ℤ q
expand a b p q = omega (arith, ints, sum_times a b (p -ℤ q), times_difference a p q, times_difference b p q)

-- what is linear at a fraction is the mean of what it is at two others, weighted
pub convex : (c0 c1 n1 d1 n d n2 d2 : ℤ)
    → at c0 c1 n d *ℤ (n2 *ℤ d1 -ℤ n1 *ℤ d2) ≡ at c0 c1 n1 d1 *ℤ (n2 *ℤ d -ℤ n *ℤ d2) +ℤ at c0 c1 n2 d2 *ℤ (n *ℤ d1 -ℤ n1 *ℤ d)
convex c0 c1 n1 d1 n d n2 d2 =
    let x = expand (c0 *ℤ d) (c1 *ℤ n) (n2 *ℤ d1) (n1 *ℤ d2) in
    let y = expand (c0 *ℤ d1) (c1 *ℤ n1) (n2 *ℤ d) (n *ℤ d2) in
    let z = expand (c0 *ℤ d2) (c1 *ℤ n2) (n *ℤ d1) (n1 *ℤ d) in
    let a = last_ones c0 d n2 d1 in
    let b = last_ones c0 d n1 d2 in
    let e = last_ones c0 d1 n d2 in
    let f = inner_ones c1 n n2 d1 in
    let g = inner_ones c1 n n1 d2 in
    let h = inner_ones c1 n1 n2 d in
    omega (arith, ints, x, y, z, a, b, e, f, g, h)

pub drift : (c0 c1 n1 d1 n d : ℤ) → at c0 c1 n d *ℤ d1 -ℤ at c0 c1 n1 d1 *ℤ d ≡ c1 *ℤ (n *ℤ d1 -ℤ n1 *ℤ d)
drift c0 c1 n1 d1 n d =
    let x = sum_times (c0 *ℤ d) (c1 *ℤ n) d1 in
    let y = sum_times (c0 *ℤ d1) (c1 *ℤ n1) d in
    let s = swap c0 d d1 in
    let a = assoc c1 n d1 in
    let b = assoc c1 n1 d in
    omega (arith, ints, x, y, s, a, b, times_difference c1 (n *ℤ d1) (n1 *ℤ d))

positive : (x : ℤ) → pos 0 <ℤ x → sign x ≡ Greater
positive x h = int_cmp_greater x (pos 0) h

negative : (x : ℤ) → x <ℤ pos 0 → sign x ≡ Less
negative x h = int_cmp_less x (pos 0) h

pub scaled : (x k : ℤ) → pos 0 <ℤ k → sign (x *ℤ k) ≡ sign x
scaled x k h = sign_product x k ∙ ap (sign_times (sign x)) (positive k h)

zero_from : (x : ℤ) → sign x ≡ Equal → x ≡ pos 0
zero_from x h = by_ranked (x <ℤ pos 0) (x ≡ pos 0) (pos 0 <ℤ x) (sign x) (int_ranked x (pos 0) (sign x) refl) (λ i l. absurd (cc)) (λ i l. l) (λ i l. absurd (cc))

pub sum_sign : (x y : ℤ) → is_opposite (sign x) (sign y) ≡ false → sign (x +ℤ y) ≡ ordering_then (sign x) (sign y)
sum_sign x y o =
    by_ranked (x <ℤ pos 0) (x ≡ pos 0) (pos 0 <ℤ x) (sign x) (int_ranked x (pos 0) (sign x) refl)
    (λ i p. by_ranked (y <ℤ pos 0) (y ≡ pos 0) (pos 0 <ℤ y) (sign y) (int_ranked y (pos 0) (sign y) refl)
    (λ j q. int_cmp_less (x +ℤ y) (pos 0) (omega (arith, ints)) ∙ (λ k. ordering_then (sym i k) (sym j k)))
    (λ j q. int_cmp_less (x +ℤ y) (pos 0) (omega (arith, ints)) ∙ (λ k. ordering_then (sym i k) (sym j k)))
    (λ j q. absurd (opposed Less Greater refl i j)))
    (λ i p. order_same (x +ℤ y) (pos 0) y (pos 0) (omega (arith, ints)) ∙ (λ k. ordering_then (sym i k) (sign y)))
    (λ i p. by_ranked (y <ℤ pos 0) (y ≡ pos 0) (pos 0 <ℤ y) (sign y) (int_ranked y (pos 0) (sign y) refl)
    (λ j q. absurd (opposed Greater Less refl i j))
    (λ j q. int_cmp_greater (x +ℤ y) (pos 0) (omega (arith, ints)) ∙ (λ k. ordering_then (sym i k) (sym j k)))
    (λ j q. int_cmp_greater (x +ℤ y) (pos 0) (omega (arith, ints)) ∙ (λ k. ordering_then (sym i k) (sym j k))))
  where
    opposed : (a b : Ordering) → is_opposite a b ≡ true → sign x ≡ a → sign y ≡ b → ⊥
    opposed a b t i j = let e : true ≡ false = sym t ∙ (λ k. is_opposite (sym i k) (sym j k)) ∙ o in absurd (cc)

-- n / d is strictly between two fractions
pub record Within (n1 d1 n d n2 d2 : ℤ) : Type 0 where
  pub first : pos 0 <ℤ d1
  pub here : pos 0 <ℤ d
  pub second : pos 0 <ℤ d2
  pub after : (n1 *ℤ d) <ℤ (n *ℤ d1)
  pub before : (n *ℤ d2) <ℤ (n2 *ℤ d)

-- so the first is before the second
apart : (n1 d1 n d n2 d2 : ℤ) → Within n1 d1 n d n2 d2 → (n1 *ℤ d2) <ℤ (n2 *ℤ d1)
apart n1 d1 n d n2 d2 w =
    let x : ((n1 *ℤ d) *ℤ d2) <ℤ ((n *ℤ d1) *ℤ d2) = scale_strictly (n1 *ℤ d) (n *ℤ d1) d2 w.second w.after in
    let y : ((n *ℤ d2) *ℤ d1) <ℤ ((n2 *ℤ d) *ℤ d1) = scale_strictly (n *ℤ d2) (n2 *ℤ d) d1 w.first w.before in
    let a = swap n1 d d2 in
    let b = swap n d1 d2 in
    let e = swap n2 d d1 in
    less_back (n1 *ℤ d2) (n2 *ℤ d1) d w.here (omega (arith, ints, x, y, a, b, e))

-- the sign of what is linear, strictly between two fractions at which its signs are not opposite
pub sign_within : (c0 c1 n1 d1 n d n2 d2 : ℤ) → Within n1 d1 n d n2 d2 → is_opposite (sign (at c0 c1 n1 d1)) (sign (at c0 c1 n2 d2)) ≡ false
    → sign (at c0 c1 n d) ≡ ordering_then (sign (at c0 c1 n1 d1)) (sign (at c0 c1 n2 d2))
sign_within c0 c1 n1 d1 n d n2 d2 w o =
    let far = apart n1 d1 n d n2 d2 w in
    let whole : pos 0 <ℤ (n2 *ℤ d1 -ℤ n1 *ℤ d2) = omega (arith, ints, far) in
    let right : pos 0 <ℤ (n2 *ℤ d -ℤ n *ℤ d2) = let h = w.before in omega (arith, ints, h) in
    let left : pos 0 <ℤ (n *ℤ d1 -ℤ n1 *ℤ d) = let h = w.after in omega (arith, ints, h) in
    let a = scaled (at c0 c1 n1 d1) (n2 *ℤ d -ℤ n *ℤ d2) right in
    let b = scaled (at c0 c1 n2 d2) (n *ℤ d1 -ℤ n1 *ℤ d) left in
    sym (scaled (at c0 c1 n d) (n2 *ℤ d1 -ℤ n1 *ℤ d2) whole) ∙ ap sign (convex c0 c1 n1 d1 n d n2 d2)
    ∙ sum_sign (at c0 c1 n1 d1 *ℤ (n2 *ℤ d -ℤ n *ℤ d2)) (at c0 c1 n2 d2 *ℤ (n *ℤ d1 -ℤ n1 *ℤ d)) ((λ i. is_opposite (a i) (b i)) ∙ o)
    ∙ (λ i. ordering_then (a i) (b i))

-- after a fraction at which it is 0 it has the sign of its slope, and before one the opposite
after_zero : (c0 c1 n1 d1 n d : ℤ) → pos 0 <ℤ d1 → (n1 *ℤ d) <ℤ (n *ℤ d1) → sign (at c0 c1 n1 d1) ≡ Equal → sign (at c0 c1 n d) ≡ sign c1
after_zero c0 c1 n1 d1 n d z after e =
    let v : pos 0 <ℤ (n *ℤ d1 -ℤ n1 *ℤ d) = omega (arith, ints) in
    let zero : at c0 c1 n1 d1 *ℤ d ≡ pos 0 *ℤ d = ap (λ x. x *ℤ d) (zero_from (at c0 c1 n1 d1) e) in
    let moved : at c0 c1 n d *ℤ d1 ≡ c1 *ℤ (n *ℤ d1 -ℤ n1 *ℤ d) = omega (arith, ints, zero, drift c0 c1 n1 d1 n d) in
    sym (scaled (at c0 c1 n d) d1 z) ∙ ap sign moved ∙ scaled c1 (n *ℤ d1 -ℤ n1 *ℤ d) v

before_zero : (c0 c1 n2 d2 n d : ℤ) → pos 0 <ℤ d2 → (n *ℤ d2) <ℤ (n2 *ℤ d) → sign (at c0 c1 n2 d2) ≡ Equal → sign (at c0 c1 n d) ≡ ordering_reverse (sign c1)
before_zero c0 c1 n2 d2 n d z before e =
    let v : (n *ℤ d2 -ℤ n2 *ℤ d) <ℤ pos 0 = omega (arith, ints) in
    let zero : at c0 c1 n2 d2 *ℤ d ≡ pos 0 *ℤ d = ap (λ x. x *ℤ d) (zero_from (at c0 c1 n2 d2) e) in
    let moved : at c0 c1 n d *ℤ d2 ≡ c1 *ℤ (n *ℤ d2 -ℤ n2 *ℤ d) = omega (arith, ints, zero, drift c0 c1 n2 d2 n d) in
    sym (scaled (at c0 c1 n d) d2 z) ∙ ap sign moved ∙ sign_product c1 (n *ℤ d2 -ℤ n2 *ℤ d) ∙ ap (sign_times (sign c1)) (negative (n *ℤ d2 -ℤ n2 *ℤ d) v)

then_turned : (a b : Ordering) → is_opposite a b ≡ false → ordering_then a b ≡ ordering_then b a
then_turned Less Less h = refl
then_turned Less Equal h = refl
then_turned Less Greater h = absurd (cc)
then_turned Equal Less h = refl
then_turned Equal Equal h = refl
then_turned Equal Greater h = refl
then_turned Greater Less h = absurd (cc)
then_turned Greater Equal h = refl
then_turned Greater Greater h = refl

then_way : (a b way s : Ordering) → s ≡ ordering_then a b → (a ≡ Equal → s ≡ way) → s ≡ ordering_then a way
then_way Less b way s e f = e
then_way Equal b way s e f = f refl
then_way Greater b way s e f = e

-- the signs along a course
pub height_at : (l : CourseView) (c : Corner) (n d : ℤ) → height c (point_at l n d) ≡ sign (at (l.y0 -ℤ c.y) (l.y1 -ℤ l.y0) n d)
height_at l c n d = order_same (l.y0 *ℤ d +ℤ (l.y1 -ℤ l.y0) *ℤ n) (c.y *ℤ d) (at (l.y0 -ℤ c.y) (l.y1 -ℤ l.y0) n d) (pos 0) (omega (arith, ints, difference_times l.y0 c.y d))

pub width_at : (l : CourseView) (c : Corner) (n d : ℤ) → width c (point_at l n d) ≡ sign (at (l.x0 -ℤ c.x) (l.x1 -ℤ l.x0) n d)
width_at l c n d = order_same (l.x0 *ℤ d +ℤ (l.x1 -ℤ l.x0) *ℤ n) (c.x *ℤ d) (at (l.x0 -ℤ c.x) (l.x1 -ℤ l.x0) n d) (pos 0) (omega (arith, ints, difference_times l.x0 c.x d))

pub side_at : (l : CourseView) (e : Edge) (n d : ℤ) → side e (point_at l n d) ≡ sign (at (side_start l e) (side_slope l e) n d)
side_at l e n d =
    let k = linear l.x0 (l.x1 -ℤ l.x0) e.from.x l.y0 (l.y1 -ℤ l.y0) e.from.y (e.to.y -ℤ e.from.y) (e.to.x -ℤ e.from.x) n d in
    order_same (((l.x0 *ℤ d +ℤ (l.x1 -ℤ l.x0) *ℤ n) -ℤ e.from.x *ℤ d) *ℤ (e.to.y -ℤ e.from.y)) (((l.y0 *ℤ d +ℤ (l.y1 -ℤ l.y0) *ℤ n) -ℤ e.from.y *ℤ d) *ℤ (e.to.x -ℤ e.from.x)) (at (side_start l e) (side_slope l e) n d) (pos 0) (omega (arith, ints, k))

module _ (l : CourseView) (n1 d1 n d n2 d2 : ℤ) (w : Within n1 d1 n d n2 d2) where
  height_within : (c : Corner) → is_opposite (height c (point_at l n1 d1)) (height c (point_at l n2 d2)) ≡ false → height c (point_at l n d) ≡ ordering_then (height c (point_at l n1 d1)) (height c (point_at l n2 d2))
  height_within c o =
      height_at l c n d
      ∙ sign_within (l.y0 -ℤ c.y) (l.y1 -ℤ l.y0) n1 d1 n d n2 d2 w ((λ i. is_opposite (sym (height_at l c n1 d1) i) (sym (height_at l c n2 d2) i)) ∙ o)
      ∙ (λ i. ordering_then (sym (height_at l c n1 d1) i) (sym (height_at l c n2 d2) i))

  width_within : (c : Corner) → is_opposite (width c (point_at l n1 d1)) (width c (point_at l n2 d2)) ≡ false → width c (point_at l n d) ≡ ordering_then (width c (point_at l n1 d1)) (width c (point_at l n2 d2))
  width_within c o =
      width_at l c n d
      ∙ sign_within (l.x0 -ℤ c.x) (l.x1 -ℤ l.x0) n1 d1 n d n2 d2 w ((λ i. is_opposite (sym (width_at l c n1 d1) i) (sym (width_at l c n2 d2) i)) ∙ o)
      ∙ (λ i. ordering_then (sym (width_at l c n1 d1) i) (sym (width_at l c n2 d2) i))

  side_within : (e : Edge) → is_opposite (side e (point_at l n1 d1)) (side e (point_at l n2 d2)) ≡ false → side e (point_at l n d) ≡ ordering_then (side e (point_at l n1 d1)) (side e (point_at l n2 d2))
  side_within e o =
      side_at l e n d
      ∙ sign_within (side_start l e) (side_slope l e) n1 d1 n d n2 d2 w ((λ i. is_opposite (sym (side_at l e n1 d1) i) (sym (side_at l e n2 d2) i)) ∙ o)
      ∙ (λ i. ordering_then (sym (side_at l e n1 d1) i) (sym (side_at l e n2 d2) i))

  -- just after the first, and just before the second
  height_after : (c : Corner) → is_opposite (height c (point_at l n1 d1)) (height c (point_at l n2 d2)) ≡ false → height c (point_at l n d) ≡ ordering_then (height c (point_at l n1 d1)) (sign (l.y1 -ℤ l.y0))
  height_after c o = then_way (height c (point_at l n1 d1)) (height c (point_at l n2 d2)) (sign (l.y1 -ℤ l.y0)) (height c (point_at l n d)) (height_within c o)
      (λ z. height_at l c n d ∙ after_zero (l.y0 -ℤ c.y) (l.y1 -ℤ l.y0) n1 d1 n d w.first w.after (sym (height_at l c n1 d1) ∙ z))

  height_before : (c : Corner) → is_opposite (height c (point_at l n1 d1)) (height c (point_at l n2 d2)) ≡ false → height c (point_at l n d) ≡ ordering_then (height c (point_at l n2 d2)) (ordering_reverse (sign (l.y1 -ℤ l.y0)))
  height_before c o = then_way (height c (point_at l n2 d2)) (height c (point_at l n1 d1)) (ordering_reverse (sign (l.y1 -ℤ l.y0))) (height c (point_at l n d))
      (height_within c o ∙ then_turned (height c (point_at l n1 d1)) (height c (point_at l n2 d2)) o)
      (λ z. height_at l c n d ∙ before_zero (l.y0 -ℤ c.y) (l.y1 -ℤ l.y0) n2 d2 n d w.second w.before (sym (height_at l c n2 d2) ∙ z))

  near_first : (e : Edge) → Calm e (point_at l n1 d1) (point_at l n2 d2) → Near e (point_at l n1 d1) (point_at l n d) (sign (l.y1 -ℤ l.y0))
  near_first e k =
      record {
        side_rest = side e (point_at l n2 d2);
        side = side_within e k.side;
        from = height_after e.from k.from;
        to = height_after e.to k.to;
        x_from_rest = width e.from (point_at l n2 d2);
        x_from = λ h. width_within e.from (k.x_from h);
        x_to_rest = width e.to (point_at l n2 d2);
        x_to = λ h. width_within e.to (k.x_to h);
      }

  near_second : (e : Edge) → Calm e (point_at l n1 d1) (point_at l n2 d2) → Near e (point_at l n2 d2) (point_at l n d) (ordering_reverse (sign (l.y1 -ℤ l.y0)))
  near_second e k =
      record {
        side_rest = side e (point_at l n1 d1);
        side = side_within e k.side ∙ then_turned _ _ k.side;
        from = height_before e.from k.from;
        to = height_before e.to k.to;
        x_from_rest = width e.from (point_at l n1 d1);
        x_from = λ h. width_within e.from (k.x_from h) ∙ then_turned _ _ (k.x_from h);
        x_to_rest = width e.to (point_at l n1 d1);
        x_to = λ h. width_within e.to (k.x_to h) ∙ then_turned _ _ (k.x_to h);
      }

  all_near_first : (es : List Edge) → AllCalm es (point_at l n1 d1) (point_at l n2 d2) → AllNear es (point_at l n1 d1) (point_at l n d) (sign (l.y1 -ℤ l.y0))
  all_near_first [] k = tt
  all_near_first (e ∷ es) k = (near_first e k.0, all_near_first es k.1)

  all_near_second : (es : List Edge) → AllCalm es (point_at l n1 d1) (point_at l n2 d2) → AllNear es (point_at l n2 d2) (point_at l n d) (ordering_reverse (sign (l.y1 -ℤ l.y0)))
  all_near_second [] k = tt
  all_near_second (e ∷ es) k = (near_second e k.0, all_near_second es k.1)

  -- the zone is closed at both ends of a piece
  pub piece_closed_first : (rings : List (List Corner)) → AllCalm (zone_edges rings) (point_at l n1 d1) (point_at l n2 d2) → in_zone rings (point_at l n d) ≡ true → in_zone rings (point_at l n1 d1) ≡ true
  piece_closed_first rings k inside = zone_closed rings (point_at l n1 d1) (point_at l n d) (sign (l.y1 -ℤ l.y0)) w.first (all_near_first (zone_edges rings) k) inside

  pub piece_closed_second : (rings : List (List Corner)) → AllCalm (zone_edges rings) (point_at l n1 d1) (point_at l n2 d2) → in_zone rings (point_at l n d) ≡ true → in_zone rings (point_at l n2 d2) ≡ true
  piece_closed_second rings k inside = zone_closed rings (point_at l n2 d2) (point_at l n d) (ordering_reverse (sign (l.y1 -ℤ l.y0))) w.second (all_near_second (zone_edges rings) k) inside

alike_within : (l : CourseView) (n1 d1 n d m b n2 d2 : ℤ) → Within n1 d1 n d n2 d2 → Within n1 d1 m b n2 d2 → (e : Edge) → Calm e (point_at l n1 d1) (point_at l n2 d2) → Alike e (point_at l n d) (point_at l m b)
alike_within l n1 d1 n d m b n2 d2 v w e k =
    record {
      side = side_within l n1 d1 n d n2 d2 v e k.side ∙ sym (side_within l n1 d1 m b n2 d2 w e k.side);
      from = height_within l n1 d1 n d n2 d2 v e.from k.from ∙ sym (height_within l n1 d1 m b n2 d2 w e.from k.from);
      to = height_within l n1 d1 n d n2 d2 v e.to k.to ∙ sym (height_within l n1 d1 m b n2 d2 w e.to k.to);
      x_from = λ h. width_within l n1 d1 n d n2 d2 v e.from (k.x_from h) ∙ sym (width_within l n1 d1 m b n2 d2 w e.from (k.x_from h));
      x_to = λ h. width_within l n1 d1 n d n2 d2 v e.to (k.x_to h) ∙ sym (width_within l n1 d1 m b n2 d2 w e.to (k.x_to h));
    }

all_alike_within : (l : CourseView) (n1 d1 n d m b n2 d2 : ℤ) → Within n1 d1 n d n2 d2 → Within n1 d1 m b n2 d2 → (es : List Edge) → AllCalm es (point_at l n1 d1) (point_at l n2 d2) → AllAlike es (point_at l n d) (point_at l m b)
all_alike_within l n1 d1 n d m b n2 d2 v w [] k = tt
all_alike_within l n1 d1 n d m b n2 d2 v w (e ∷ es) k = (alike_within l n1 d1 n d m b n2 d2 v w e k.0, all_alike_within l n1 d1 n d m b n2 d2 v w es k.1)

-- the zone is constant on a piece
pub piece_constant : (l : CourseView) (rings : List (List Corner)) (n1 d1 n d m b n2 d2 : ℤ) → Within n1 d1 n d n2 d2 → Within n1 d1 m b n2 d2
    → AllCalm (zone_edges rings) (point_at l n1 d1) (point_at l n2 d2) → in_zone rings (point_at l n d) ≡ in_zone rings (point_at l m b)
piece_constant l rings n1 d1 n d m b n2 d2 v w k = zone_alike rings (point_at l n d) (point_at l m b) (all_alike_within l n1 d1 n d m b n2 d2 v w (zone_edges rings) k)
