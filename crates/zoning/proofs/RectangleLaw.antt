-- A law: a leg is in the zone of a rectangle's ring exactly when it is inside the rectangle, edges included.
use Rattle.std.specs.Prelude.{◌&&◌, ◌||◌, int_le, int_lt}
use Rattle.std.proofs.Common.{ℕ, ◌≤◌, ◌↔◌, Bool, true, false, List, [], ◌∷◌, ℤ, pos, ◌-ℤ◌, ◌*ℤ◌, ◌<ℤ◌, ◌≤ℤ◌, ◌≡◌, ◌∙◌, if◌then◌else◌, inl, inr, Less, Equal, Ordering, arith, ap, sym, refl}
use Rattle.std.specs.Ordering.{int_cmp, is_ge, is_gt, is_lt}
use Rattle.std.proofs.lemmas.Bool.{false≢true}
use Rattle.std.proofs.lemmas.Int.{by_lt_z, ints}
use Rattle.timebase.specs.Period.{PeriodView}
use Rattle.legs.specs.Boxes.{IsRect, RectView}
use Rattle.legs.specs.Legs.{IsMomentOf, LegView}
use Rattle.clipping.specs.Inside.{IsInside, duration}
use Rattle.zones.specs.Edges.{across, along, either, is_between_by, is_crossed, is_on_edge}
use Rattle.zones.specs.Places.{Corner, Edge, Point}
use Rattle.zones.specs.Zones.{in_zone, is_odd, is_on_some, zone_edges}
use Rattle.zones.proofs.EdgeLemmas.{between_by, crossed_from, gt_by, int_cmp_equal, int_cmp_less, le_by, on_edge_from}
use Rattle.zones.proofs.OffBox.{BoxView, IsInBox, IsOff, off_box}
use Rattle.zones.proofs.Orders.{scale}
use Rattle.zones.proofs.Pieces.{times_difference}
use Rattle.zones.proofs.Products.{scale_strictly}
use Rattle.zoning.specs.Stays.{AreStays, IsInAStay, IsInZone, place_of}
use Rattle.zoning.specs.declared.stay.Stay.{Stay}

-- the ring of a rectangle
abbrev pub ring_of : RectView → List Corner
ring_of rect =
    record { x = rect.x_min; y = rect.y_min } ∷ record { x = rect.x_max; y = rect.y_min }
    ∷ record { x = rect.x_max; y = rect.y_max } ∷ record { x = rect.x_min; y = rect.y_max } ∷ []

-- the point is in the rectangle, edges included
pub record IsIn (rect : RectView) (p : Point) : Type 0 where
  pub left : (rect.x_min *ℤ p.d) ≤ℤ p.x
  pub right : p.x ≤ℤ (rect.x_max *ℤ p.d)
  pub below : (rect.y_min *ℤ p.d) ≤ℤ p.y
  pub above : p.y ≤ℤ (rect.y_max *ℤ p.d)

or_right : (a b : Bool) → b ≡ true → (a || b) ≡ true
or_right true b e = refl
or_right false b e = e

or_left : (a b : Bool) → a ≡ true → (a || b) ≡ true
or_left true b e = refl
or_left false b e = absurd (false≢true e)

same_order : (a : ℤ) → a ≤ℤ a
same_order a = omega (arith, ints)

at_most : (x y : ℤ) → x ≤ℤ y → int_le x y ≡ true
at_most x y h = grind (arith, ints)

less_test : (x y : ℤ) → x <ℤ y → int_lt x y ≡ true
less_test x y h = grind (arith, ints)

not_less : (x y : ℤ) → y ≤ℤ x → int_lt x y ≡ false
not_less x y h = grind (arith, ints)

between_test : (a b v : ℤ) → a ≤ℤ v → v ≤ℤ b → is_between_by (int_cmp v a) (int_cmp v b) ≡ true
between_test a b v h g = sym (between_by a b v) ∙ or_left (int_le a v && int_le v b) (int_le b v && int_le v a) (λ i. at_most a v h i && at_most v b g i)

between_back : (a b v : ℤ) → a ≤ℤ v → v ≤ℤ b → is_between_by (int_cmp v b) (int_cmp v a) ≡ true
between_back a b v h g = sym (between_by b a v) ∙ or_right (int_le b v && int_le v a) (int_le a v && int_le v b) (λ i. at_most a v h i && at_most v b g i)

zero_times : (k : ℤ) → k *ℤ pos 0 ≡ pos 0
zero_times k = omega (arith, ints)

times_zero : (k : ℤ) → pos 0 *ℤ k ≡ pos 0
times_zero k = omega (arith, ints)

-- a product with what is nothing
nothing_right : (u v : ℤ) → v ≡ pos 0 → u *ℤ v ≡ pos 0
nothing_right u v e = ap (λ (k : ℤ). u *ℤ k) e ∙ zero_times u

nothing_left : (u v : ℤ) → u ≡ pos 0 → u *ℤ v ≡ pos 0
nothing_left u v e = ap (λ (k : ℤ). k *ℤ v) e ∙ times_zero v

no_way : (a : ℤ) → a -ℤ a ≡ pos 0
no_way a = omega (arith, ints)

module _ (rect : RectView) (is : IsRect rect) (p : Point) (d0 : pos 0 <ℤ p.d) where
  abbrev ring : List Corner
  ring = ring_of rect

  abbrev box : BoxView
  box = record { x_min = rect.x_min; x_max = rect.x_max; y_min = rect.y_min; y_max = rect.y_max }

  in_box : (x y : ℤ) → rect.x_min ≤ℤ x → x ≤ℤ rect.x_max → rect.y_min ≤ℤ y → y ≤ℤ rect.y_max → IsInBox box (record { x = x; y = y })
  in_box x y l r b a = record { left = l; right = r; below = b; above = a }

  -- off the rectangle it is in no zone of its ring
  outside : IsOff box p → in_zone (ring ∷ []) p ≡ true → ⊥
  outside off h =
      let xl = same_order rect.x_min in
      let xr = same_order rect.x_max in
      let yb = same_order rect.y_min in
      let ya = same_order rect.y_max in
      false≢true
      (sym
      (off_box box p d0 off (ring ∷ [])
      ((in_box rect.x_min rect.y_min xl is.x yb is.y, (in_box rect.x_max rect.y_min is.x xr yb is.y, (in_box rect.x_max rect.y_max is.x xr is.y ya, (in_box rect.x_min rect.y_max xl is.x is.y ya, tt)))), tt))
      ∙ h)

  pub zone_in : in_zone (ring ∷ []) p ≡ true → IsIn rect p
  zone_in h = record {
    left = by_lt_z p.x (rect.x_min *ℤ p.d) (λ off. absurd (outside (inl off) h)) (λ is. is);
    right = by_lt_z (rect.x_max *ℤ p.d) p.x (λ off. absurd (outside (inr (inl off)) h)) (λ is. is);
    below = by_lt_z p.y (rect.y_min *ℤ p.d) (λ off. absurd (outside (inr (inr (inl off))) h)) (λ is. is);
    above = by_lt_z (rect.y_max *ℤ p.d) p.y (λ off. absurd (outside (inr (inr (inr off))) h)) (λ is. is);
  }

  abbrev edge : ℤ → ℤ → ℤ → ℤ → Edge
  edge x0 y0 x1 y1 = record { from = record { x = x0; y = y0 }; to = record { x = x1; y = y1 } }

  abbrev left : Edge
  left = edge rect.x_min rect.y_max rect.x_min rect.y_min

  abbrev bottom : Edge
  bottom = edge rect.x_min rect.y_min rect.x_max rect.y_min

  abbrev right : Edge
  right = edge rect.x_max rect.y_min rect.x_max rect.y_max

  abbrev top : Edge
  top = edge rect.x_max rect.y_max rect.x_min rect.y_max

  on_right : IsIn rect p → p.x ≡ rect.x_max *ℤ p.d → is_on_edge right p ≡ true
  on_right h e =
      let a : across right p ≡ pos 0 = nothing_left (p.x -ℤ rect.x_max *ℤ p.d) (rect.y_max -ℤ rect.y_min) (omega (arith, ints, e)) in
      let b : along right p ≡ pos 0 = nothing_right (p.y -ℤ rect.y_min *ℤ p.d) (rect.x_max -ℤ rect.x_max) (no_way rect.x_max) in
      let x : Equal ≡ int_cmp p.x (rect.x_max *ℤ p.d) = sym (int_cmp_equal p.x (rect.x_max *ℤ p.d) e) in
      sym
      (on_edge_from right p Equal Equal Equal (int_cmp p.y (rect.y_min *ℤ p.d)) (int_cmp p.y (rect.y_max *ℤ p.d)) (sym (int_cmp_equal (across right p) (along right p) (a ∙ sym b))) x x refl refl)
      ∙ between_test (rect.y_min *ℤ p.d) (rect.y_max *ℤ p.d) p.y h.below h.above

  on_top : IsIn rect p → p.y ≡ rect.y_max *ℤ p.d → is_on_edge top p ≡ true
  on_top h e =
      let a : across top p ≡ pos 0 = nothing_right (p.x -ℤ rect.x_max *ℤ p.d) (rect.y_max -ℤ rect.y_max) (no_way rect.y_max) in
      let b : along top p ≡ pos 0 = nothing_left (p.y -ℤ rect.y_max *ℤ p.d) (rect.x_min -ℤ rect.x_max) (omega (arith, ints, e)) in
      let y : Equal ≡ int_cmp p.y (rect.y_max *ℤ p.d) = sym (int_cmp_equal p.y (rect.y_max *ℤ p.d) e) in
      let t = between_back (rect.x_min *ℤ p.d) (rect.x_max *ℤ p.d) p.x h.left h.right in
      sym
      (on_edge_from top p Equal (int_cmp p.x (rect.x_max *ℤ p.d)) (int_cmp p.x (rect.x_min *ℤ p.d)) Equal Equal (sym (int_cmp_equal (across top p) (along top p) (a ∙ sym b))) refl refl y y)
      ∙ (λ i. t i && true)

  module _ (h : IsIn rect p) (x_less : p.x <ℤ (rect.x_max *ℤ p.d)) (y_less : p.y <ℤ (rect.y_max *ℤ p.d)) where
    rises : rect.y_min <ℤ rect.y_max
    rises =
        by_lt_z rect.y_min rect.y_max (λ less. less) (λ over.
        let s = scale rect.y_max rect.y_min p.d (omega (arith, ints, d0)) over in
        let b = h.below in
        absurd (omega (arith, ints, s, b, y_less)))

    low : Ordering
    low = int_cmp p.y (rect.y_min *ℤ p.d)

    from_low : is_ge (int_cmp p.y (rect.y_min *ℤ p.d)) ≡ true
    from_low = sym (le_by p.y (rect.y_min *ℤ p.d)) ∙ at_most (rect.y_min *ℤ p.d) p.y h.below

    under : Less ≡ int_cmp p.y (rect.y_max *ℤ p.d)
    under = sym (int_cmp_less p.y (rect.y_max *ℤ p.d) y_less)

    right_crossed : is_crossed right p ≡ true
    right_crossed =
        let b : along right p ≡ pos 0 = nothing_right (p.y -ℤ rect.y_min *ℤ p.d) (rect.x_max -ℤ rect.x_max) (no_way rect.x_max) in
        let s = scale_strictly (p.x -ℤ rect.x_max *ℤ p.d) (pos 0) (rect.y_max -ℤ rect.y_min) (omega (arith, ints, rises)) (omega (arith, ints, x_less)) in
        let less : across right p <ℤ along right p = omega (arith, ints, s, b) in
        sym (crossed_from right p (int_cmp p.y (rect.y_min *ℤ p.d)) Less Less refl under (sym (int_cmp_less (across right p) (along right p) less)))
        ∙ (λ i. either (from_low i) false && (if less_test rect.y_min rect.y_max rises i then true else false))

    left_not : is_crossed left p ≡ false
    left_not =
        let u : ℤ = p.x -ℤ rect.x_min *ℤ p.d in
        let b : along left p ≡ pos 0 = nothing_right (p.y -ℤ rect.y_max *ℤ p.d) (rect.x_min -ℤ rect.x_min) (no_way rect.x_min) in
        let k = h.left in
        let s = scale (pos 0) u (rect.y_max -ℤ rect.y_min) (omega (arith, ints, rises)) (omega (arith, ints, k)) in
        let m = times_difference u rect.y_max rect.y_min in
        let n = times_difference u rect.y_min rect.y_max in
        let most : across left p ≤ℤ along left p = omega (arith, ints, s, b, m, n) in
        let not_above : is_gt (int_cmp (across left p) (along left p)) ≡ false = sym (gt_by (across left p) (along left p)) ∙ not_less (along left p) (across left p) most in
        let falls : int_lt rect.y_max rect.y_min ≡ false = not_less rect.y_max rect.y_min is.y in
        sym (crossed_from left p Less (int_cmp p.y (rect.y_min *ℤ p.d)) (int_cmp (across left p) (along left p)) under refl refl)
        ∙ (λ i. either false (from_low i) && (if falls i then is_lt (int_cmp (across left p) (along left p)) else not_above i))

    bottom_not : is_crossed bottom p ≡ false
    bottom_not =
        sym (crossed_from bottom p (int_cmp p.y (rect.y_min *ℤ p.d)) (int_cmp p.y (rect.y_min *ℤ p.d)) (int_cmp (across bottom p) (along bottom p)) refl refl refl)
        ∙ (λ i. either (from_low i) (from_low i)
        && (if int_lt rect.y_min rect.y_min then is_lt (int_cmp (across bottom p) (along bottom p)) else is_gt (int_cmp (across bottom p) (along bottom p))))

    top_not : is_crossed top p ≡ false
    top_not = sym (crossed_from top p Less Less (int_cmp (across top p) (along top p)) under under refl)

    odd : is_odd (zone_edges (ring ∷ [])) p ≡ true
    odd = λ i. either (left_not i) (either (bottom_not i) (either (right_crossed i) (either (top_not i) false)))

  on_some : (l b r t : Bool) → r ≡ true → (l || (b || (r || (t || false)))) ≡ true
  on_some l b r t e = or_right l (b || (r || (t || false))) (or_right b (r || (t || false)) (or_left r (t || false) e))

  on_last : (l b r t : Bool) → t ≡ true → (l || (b || (r || (t || false)))) ≡ true
  on_last l b r t e = or_right l (b || (r || (t || false))) (or_right b (r || (t || false)) (or_right r (t || false) (or_left t false e)))

  pub in_to_zone : IsIn rect p → in_zone (ring ∷ []) p ≡ true
  unfolding in_zone
  in_to_zone h =
      let some : Bool = is_on_some (zone_edges (ring ∷ [])) p in
      let odds : Bool = is_odd (zone_edges (ring ∷ [])) p in
      by_lt_z p.x (rect.x_max *ℤ p.d)
      (λ x_less.
      by_lt_z p.y (rect.y_max *ℤ p.d) (λ y_less. or_right some odds (odd h x_less y_less))
      (λ y_over.
      let a = h.above in
      or_left some odds (on_last (is_on_edge left p) (is_on_edge bottom p) (is_on_edge right p) (is_on_edge top p) (on_top h (omega (arith, ints, a, y_over))))))
      (λ x_over.
      let a = h.right in
      or_left some odds (on_some (is_on_edge left p) (is_on_edge bottom p) (is_on_edge right p) (is_on_edge top p) (on_right h (omega (arith, ints, a, x_over)))))

times_positive : (d : ℕ) (w : ℤ) → 1 ≤ d → pos 0 <ℤ w → pos 0 <ℤ (pos d *ℤ w)
times_positive d w h g =
    let d0 : pos 0 <ℤ pos d = omega (arith, ints, h) in
    let s = scale_strictly (pos 0) (pos d) w g d0 in
    omega (arith, ints, s)

module _ (rect : RectView) (is : IsRect rect) (leg : LegView) (rises : leg.t0 <ℤ leg.t1) where
  w0 : pos 0 <ℤ duration leg
  w0 = omega (arith, ints, rises)

  -- at each moment n / d
  pub rectangle_is : (n : ℤ) (d : ℕ) → 1 ≤ d → IsInZone (ring_of rect ∷ []) leg n d ↔ IsInside leg rect n d
  rectangle_is n d d1 =
      let p = place_of leg n d in
      let d0 = times_positive d (duration leg) d1 w0 in (
        λ h. let at = zone_in rect is p d0 h in record { left = at.left; right = at.right; below = at.below; above = at.above },
        λ h. in_to_zone rect is p d0 (record { left = h.left; right = h.right; below = h.below; above = h.above }),
      )

  -- so its stays hold exactly the moments at which the leg is inside
  pub rectangle_stays : (period : PeriodView) (stays : List Stay) → AreStays (ring_of rect ∷ []) leg period stays → (n : ℤ) (d : ℕ) → IsMomentOf leg period n d → IsInside leg rect n d ↔ IsInAStay stays n d
  rectangle_stays period stays are n d m =
      let same = rectangle_is n d m.divisor in
      let exact = are.exact n d m in
      (λ h. exact.0 (same.1 h), λ h. same.0 (exact.1 h))
