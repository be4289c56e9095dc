-- What one test tells of a whole piece.
use Rattle.std.proofs.Common.{true, false, ℤ, pos, ◌+ℤ◌, ◌-ℤ◌, ◌*ℤ◌, ◌<ℤ◌, ◌≤ℤ◌, ◌≡◌, arith, ap, sym, ◌∙◌, List, [], ◌∷◌}
use Rattle.std.proofs.lemmas.Int.{ints, by_lt_z}
use Rattle.zones.specs.Places.{Corner, Edge, CourseView, point_at}
use Rattle.zones.specs.Zones.{zone_edges, in_zone}
use Rattle.zones.specs.Turns.{sign, at, side_start, side_slope, AllCalm}
use Rattle.zones.proofs.Products.{sum_times, times_comm}
use Rattle.zones.proofs.Kept.{Alike, AllAlike, zone_alike}
use Rattle.zones.proofs.Pieces.{Within, drift, scaled, height_at, width_at, side_at, piece_constant, piece_closed_first, piece_closed_second}

same_sign : (c0 c1 n d m b : ℤ) → pos 0 <ℤ d → pos 0 <ℤ b → n *ℤ b ≡ m *ℤ d → sign (at c0 c1 n d) ≡ sign (at c0 c1 m b)
same_sign c0 c1 n d m b z y h =
    let e : n *ℤ b -ℤ m *ℤ d ≡ pos 0 = omega (arith, ints) in
    let f : c1 *ℤ (n *ℤ b -ℤ m *ℤ d) ≡ c1 *ℤ pos 0 = ap (λ v. c1 *ℤ v) e in
    let same : at c0 c1 n d *ℤ b ≡ at c0 c1 m b *ℤ d = omega (arith, ints, f, drift c0 c1 m b n d) in
    sym (scaled (at c0 c1 n d) b y) ∙ ap sign same ∙ scaled (at c0 c1 m b) d z

module _ (l : CourseView) (n d m b : ℤ) (z : pos 0 <ℤ d) (y : pos 0 <ℤ b) (h : n *ℤ b ≡ m *ℤ d) where
  alike_same : (e : Edge) → Alike e (point_at l n d) (point_at l m b)
  alike_same e = record {
    side = side_at l e n d ∙ same_sign (side_start l e) (side_slope l e) n d m b z y h ∙ sym (side_at l e m b);
    from = height_at l e.from n d ∙ same_sign (l.y0 -ℤ e.from.y) (l.y1 -ℤ l.y0) n d m b z y h ∙ sym (height_at l e.from m b);
    to = height_at l e.to n d ∙ same_sign (l.y0 -ℤ e.to.y) (l.y1 -ℤ l.y0) n d m b z y h ∙ sym (height_at l e.to m b);
    x_from = λ _. width_at l e.from n d ∙ same_sign (l.x0 -ℤ e.from.x) (l.x1 -ℤ l.x0) n d m b z y h ∙ sym (width_at l e.from m b);
    x_to = λ _. width_at l e.to n d ∙ same_sign (l.x0 -ℤ e.to.x) (l.x1 -ℤ l.x0) n d m b z y h ∙ sym (width_at l e.to m b);
  }

  all_alike_same : (es : List Edge) → AllAlike es (point_at l n d) (point_at l m b)
  all_alike_same [] = tt
  all_alike_same (e ∷ es) = (alike_same e, all_alike_same es)

  -- a fraction in other terms is the same place
  pub same_place : (rings : List (List Corner)) → in_zone rings (point_at l n d) ≡ in_zone rings (point_at l m b)
  same_place rings = zone_alike rings (point_at l n d) (point_at l m b) (all_alike_same (zone_edges rings))

-- the mediant is strictly between
pub mediant : (n1 d1 n2 d2 : ℤ) → pos 0 <ℤ d1 → pos 0 <ℤ d2 → (n1 *ℤ d2) <ℤ (n2 *ℤ d1) → Within n1 d1 (n1 +ℤ n2) (d1 +ℤ d2) n2 d2
mediant n1 d1 n2 d2 z1 z2 order =
    let a = sum_times n1 n2 d1 in
    let b = sum_times d1 d2 n1 in
    let e = sum_times n1 n2 d2 in
    let f = sum_times d1 d2 n2 in
    let g = times_comm n1 (d1 +ℤ d2) in
    let h = times_comm n2 (d1 +ℤ d2) in
    let i = times_comm d1 n1 in
    let j = times_comm d2 n1 in
    let k = times_comm d1 n2 in
    let m = times_comm d2 n2 in
    record {
      first = z1;
      here = omega (arith, ints);
      second = z2;
      after = omega (arith, ints, a, b, g, i, j);
      before = omega (arith, ints, e, f, h, k, m);
    }

-- inside at the mediant: inside on the whole piece, both ends among it
pub piece_inside : (l : CourseView) (rings : List (List Corner)) (n1 d1 n2 d2 : ℤ) → pos 0 <ℤ d1 → pos 0 <ℤ d2 → (n1 *ℤ d2) <ℤ (n2 *ℤ d1)
    → AllCalm (zone_edges rings) (point_at l n1 d1) (point_at l n2 d2) → in_zone rings (point_at l (n1 +ℤ n2) (d1 +ℤ d2)) ≡ true
    → (n d : ℤ) → pos 0 <ℤ d → (n1 *ℤ d) ≤ℤ (n *ℤ d1) → (n *ℤ d2) ≤ℤ (n2 *ℤ d) → in_zone rings (point_at l n d) ≡ true
piece_inside l rings n1 d1 n2 d2 z1 z2 order calm inside n d z low high =
    let w = mediant n1 d1 n2 d2 z1 z2 order in
    by_lt_z (n1 *ℤ d) (n *ℤ d1)
    (λ after. by_lt_z (n *ℤ d2) (n2 *ℤ d)
    (λ before. piece_constant l rings n1 d1 n d (n1 +ℤ n2) (d1 +ℤ d2) n2 d2 (record { first = z1; here = z; second = z2; after = after; before = before }) w calm ∙ inside)
    (λ g. let e : n *ℤ d2 ≡ n2 *ℤ d = omega (arith, ints) in same_place l n d n2 d2 z z2 e rings ∙ piece_closed_second l n1 d1 (n1 +ℤ n2) (d1 +ℤ d2) n2 d2 w rings calm inside))
    (λ g. let e : n *ℤ d1 ≡ n1 *ℤ d = omega (arith, ints) in same_place l n d n1 d1 z z1 e rings ∙ piece_closed_first l n1 d1 (n1 +ℤ n2) (d1 +ℤ d2) n2 d2 w rings calm inside)

-- outside at the mediant: outside strictly between the ends
pub piece_outside : (l : CourseView) (rings : List (List Corner)) (n1 d1 n2 d2 : ℤ) → pos 0 <ℤ d1 → pos 0 <ℤ d2 → (n1 *ℤ d2) <ℤ (n2 *ℤ d1)
    → AllCalm (zone_edges rings) (point_at l n1 d1) (point_at l n2 d2) → in_zone rings (point_at l (n1 +ℤ n2) (d1 +ℤ d2)) ≡ false
    → (n d : ℤ) → Within n1 d1 n d n2 d2 → in_zone rings (point_at l n d) ≡ false
piece_outside l rings n1 d1 n2 d2 z1 z2 order calm outside n d v =
    piece_constant l rings n1 d1 n d (n1 +ℤ n2) (d1 +ℤ d2) n2 d2 v (mediant n1 d1 n2 d2 z1 z2 order) calm ∙ outside
