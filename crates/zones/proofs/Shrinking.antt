-- What does not turn round up to a fraction does not up to an earlier one.
use Rattle.std.proofs.Common.{false, ℤ, pos, ◌-ℤ◌, ◌*ℤ◌, ◌<ℤ◌, ◌≤ℤ◌, ◌≡◌, arith, ap, sym, ◌∙◌, refl, Less, Equal, Greater, Ordering, List, [], ◌∷◌, ◌++◌}
use Rattle.std.specs.Ordering.{ordering_then}
use Rattle.std.proofs.lemmas.Int.{ints, by_lt_z}
use Rattle.zones.specs.Places.{Corner, Edge, Point, CourseView, point_at}
use Rattle.zones.specs.Turns.{sign, at, is_opposite, height, width, side, side_start, side_slope, Calm, AllCalm}
use Rattle.zones.proofs.Products.{swap}
use Rattle.zones.proofs.Orders.{scale, le_back}
use Rattle.zones.proofs.Pieces.{sign_within, drift, scaled, height_at, width_at, side_at}

-- a/b ≤ c/d ≤ e/f
pub through : (a b c d e f : ℤ) → pos 0 <ℤ b → pos 0 <ℤ d → pos 0 <ℤ f → (a *ℤ d) ≤ℤ (c *ℤ b) → (c *ℤ f) ≤ℤ (e *ℤ d) → (a *ℤ f) ≤ℤ (e *ℤ b)
through a b c d e f p q r h k =
    let f0 : pos 0 ≤ℤ f = omega (arith, ints) in
    let b0 : pos 0 ≤ℤ b = omega (arith, ints) in
    let x : ((a *ℤ d) *ℤ f) ≤ℤ ((c *ℤ b) *ℤ f) = scale (a *ℤ d) (c *ℤ b) f f0 h in
    let y : ((c *ℤ f) *ℤ b) ≤ℤ ((e *ℤ d) *ℤ b) = scale (c *ℤ f) (e *ℤ d) b b0 k in
    le_back (a *ℤ f) (e *ℤ b) d q (omega (arith, ints, x, y, swap a d f, swap c b f, swap e d b))

kept : (a b : Ordering) → is_opposite a b ≡ false → is_opposite a (ordering_then a b) ≡ false
kept Less b h = refl
kept Equal b h = h
kept Greater b h = refl

shrunk : (c0 c1 n1 d1 n d n2 d2 : ℤ) → pos 0 <ℤ d1 → pos 0 <ℤ d → pos 0 <ℤ d2 → (n1 *ℤ d) <ℤ (n *ℤ d1) → (n *ℤ d2) ≤ℤ (n2 *ℤ d)
    → is_opposite (sign (at c0 c1 n1 d1)) (sign (at c0 c1 n2 d2)) ≡ false → is_opposite (sign (at c0 c1 n1 d1)) (sign (at c0 c1 n d)) ≡ false
shrunk c0 c1 n1 d1 n d n2 d2 z1 z z2 after up o =
    by_lt_z (n *ℤ d2) (n2 *ℤ d)
    (λ l. ap (is_opposite (sign (at c0 c1 n1 d1))) (sign_within c0 c1 n1 d1 n d n2 d2 (record { first = z1; here = z; second = z2; after = after; before = l }) o) ∙ kept (sign (at c0 c1 n1 d1)) (sign (at c0 c1 n2 d2)) o)
    (λ g.
    let e : n *ℤ d2 -ℤ n2 *ℤ d ≡ pos 0 = omega (arith, ints) in
    let f : c1 *ℤ (n *ℤ d2 -ℤ n2 *ℤ d) ≡ c1 *ℤ pos 0 = ap (λ v. c1 *ℤ v) e in
    let same : at c0 c1 n d *ℤ d2 ≡ at c0 c1 n2 d2 *ℤ d = omega (arith, ints, f, drift c0 c1 n2 d2 n d) in
    let s : sign (at c0 c1 n d) ≡ sign (at c0 c1 n2 d2) = sym (scaled (at c0 c1 n d) d2 z2) ∙ ap sign same ∙ scaled (at c0 c1 n2 d2) d z in
    ap (is_opposite (sign (at c0 c1 n1 d1))) s ∙ o)

module _ (l : CourseView) (n1 d1 n d n2 d2 : ℤ) (z1 : pos 0 <ℤ d1) (z : pos 0 <ℤ d) (z2 : pos 0 <ℤ d2) (after : (n1 *ℤ d) <ℤ (n *ℤ d1)) (up : (n *ℤ d2) ≤ℤ (n2 *ℤ d)) where
  pub height_shrunk : (c : Corner) → is_opposite (height c (point_at l n1 d1)) (height c (point_at l n2 d2)) ≡ false → is_opposite (height c (point_at l n1 d1)) (height c (point_at l n d)) ≡ false
  height_shrunk c o = (λ i. is_opposite (height_at l c n1 d1 i) (height_at l c n d i))
      ∙ shrunk (l.y0 -ℤ c.y) (l.y1 -ℤ l.y0) n1 d1 n d n2 d2 z1 z z2 after up ((λ i. is_opposite (sym (height_at l c n1 d1) i) (sym (height_at l c n2 d2) i)) ∙ o)

  pub width_shrunk : (c : Corner) → is_opposite (width c (point_at l n1 d1)) (width c (point_at l n2 d2)) ≡ false → is_opposite (width c (point_at l n1 d1)) (width c (point_at l n d)) ≡ false
  width_shrunk c o = (λ i. is_opposite (width_at l c n1 d1 i) (width_at l c n d i))
      ∙ shrunk (l.x0 -ℤ c.x) (l.x1 -ℤ l.x0) n1 d1 n d n2 d2 z1 z z2 after up ((λ i. is_opposite (sym (width_at l c n1 d1) i) (sym (width_at l c n2 d2) i)) ∙ o)

  pub side_shrunk : (e : Edge) → is_opposite (side e (point_at l n1 d1)) (side e (point_at l n2 d2)) ≡ false → is_opposite (side e (point_at l n1 d1)) (side e (point_at l n d)) ≡ false
  side_shrunk e o = (λ i. is_opposite (side_at l e n1 d1 i) (side_at l e n d i))
      ∙ shrunk (side_start l e) (side_slope l e) n1 d1 n d n2 d2 z1 z z2 after up ((λ i. is_opposite (sym (side_at l e n1 d1) i) (sym (side_at l e n2 d2) i)) ∙ o)

  pub calm_shrunk : (e : Edge) → Calm e (point_at l n1 d1) (point_at l n2 d2) → Calm e (point_at l n1 d1) (point_at l n d)
  calm_shrunk e k = record {
    side = side_shrunk e k.side;
    from = height_shrunk e.from k.from;
    to = height_shrunk e.to k.to;
    x_from = λ h. width_shrunk e.from (k.x_from h);
    x_to = λ h. width_shrunk e.to (k.x_to h);
  }

  pub all_calm_shrunk : (es : List Edge) → AllCalm es (point_at l n1 d1) (point_at l n2 d2) → AllCalm es (point_at l n1 d1) (point_at l n d)
  all_calm_shrunk [] k = tt
  all_calm_shrunk (e ∷ es) k = (calm_shrunk e k.0, all_calm_shrunk es k.1)

pub calm_append : (xs ys : List Edge) (p q : Point) → AllCalm xs p q → AllCalm ys p q → AllCalm (xs ++ ys) p q
calm_append [] ys p q k m = m
calm_append (e ∷ xs) ys p q k m = (k.0, calm_append xs ys p q k.1 m)
