-- Off a box that holds a zone is outside the zone.
use Rattle.std.proofs.Common.{Bool, true, false, ◌&&◌, ◌||◌, ℤ, pos, ◌-ℤ◌, ◌*ℤ◌, ◌<ℤ◌, ◌≤ℤ◌, ◌≡◌, arith, ap, sym, ◌∙◌, refl, inl, inr, Less, Equal, Greater, Ordering, if◌then◌else◌, int_lt, List, [], ◌∷◌}
use Rattle.std.specs.Prelude.{◌⊎◌}
use Rattle.std.specs.Ordering.{int_cmp, is_eq, is_lt, is_gt, is_ge}
use Rattle.std.proofs.lemmas.Int.{ints, by_lt_z}
use Rattle.zones.specs.Places.{Corner, Edge, Point}
use Rattle.zones.specs.Edges.{across, along, is_on_edge, is_crossed, either, is_between_by}
use Rattle.zones.specs.Zones.{edges_after, last_after, edges, zone_edges, is_on_some, is_odd, in_zone}
use Rattle.zones.specs.Turns.{sign, height, width, side}
use Rattle.zones.proofs.Products.{scale_strictly}
use Rattle.zones.proofs.Orders.{scale, less_back}
use Rattle.zones.proofs.EdgeLemmas.{on_edge_by, crossed_by, int_cmp_less, int_cmp_greater}
use Rattle.zones.proofs.Signs.{sign_times, sign_product, other_side, sign_of}
use Rattle.zones.proofs.Closed.{rising, not_rising}
use Rattle.zones.proofs.Pieces.{times_difference}
use Rattle.zones.proofs.ZoneLemmas.{on_some_append, odd_append}
use Rattle.zones.proofs.Outside.{up_signs, down_signs, ge_le, lt_of, AllRight, ring_right}

-- from (x_min, y_min) to (x_max, y_max)
pub record BoxView : Type 0 where
  pub x_min : ℤ
  pub x_max : ℤ
  pub y_min : ℤ
  pub y_max : ℤ

-- the corner is in the box, its sides among it
pub record IsInBox (box : BoxView) (corner : Corner) : Type 0 where
  pub left : box.x_min ≤ℤ corner.x
  pub right : corner.x ≤ℤ box.x_max
  pub below : box.y_min ≤ℤ corner.y
  pub above : corner.y ≤ℤ box.y_max

-- the box holds all corners of a ring
abbrev pub HoldsRing : BoxView → List Corner → Type 0
HoldsRing box [] = Unit {0}
HoldsRing box (corner ∷ corners) = IsInBox box corner × HoldsRing box corners

-- the box holds all corners of a zone
abbrev pub HoldsZone : BoxView → List (List Corner) → Type 0
HoldsZone box [] = Unit {0}
HoldsZone box (ring ∷ rings) = HoldsRing box ring × HoldsZone box rings

-- the point is left of the box, right of it, below or above
abbrev pub IsOff : BoxView → Point → Type 0
IsOff box p = (p.x <ℤ (box.x_min *ℤ p.d)) ⊎ (((box.x_max *ℤ p.d) <ℤ p.x) ⊎ ((p.y <ℤ (box.y_min *ℤ p.d)) ⊎ ((box.y_max *ℤ p.d) <ℤ p.y)))

not_lt : (x y : ℤ) → y ≤ℤ x → is_lt (int_cmp x y) ≡ false
not_lt x y h = grind (arith, ints)

not_gt : (x y : ℤ) → x ≤ℤ y → is_gt (int_cmp x y) ≡ false
not_gt x y h = grind (arith, ints)

lt_from : (o : Ordering) → is_ge o ≡ true → is_lt o ≡ false
lt_from Less h = absurd (cc)
lt_from Equal h = refl
lt_from Greater h = refl

lt_to : (o : Ordering) → is_ge o ≡ false → is_lt o ≡ true
lt_to Less h = refl
lt_to Equal h = absurd (cc)
lt_to Greater h = absurd (cc)

-- an edge left of the point, that rises, and one that falls
rises_left : (e : Edge) (p : Point) → pos 0 <ℤ (e.to.y -ℤ e.from.y) → (e.from.x *ℤ p.d) <ℤ p.x → (e.to.x *ℤ p.d) <ℤ p.x
    → is_lt (sign (p.y -ℤ e.from.y *ℤ p.d)) ≡ false → is_lt (sign (p.y -ℤ e.to.y *ℤ p.d)) ≡ true → along e p ≤ℤ across e p
rises_left e p r a b h k =
    by_lt_z (across e p) (along e p) (λ g.
    let p1 : pos 0 <ℤ (p.x -ℤ e.from.x *ℤ p.d) = omega (arith, ints) in
    let p2 : pos 0 <ℤ (p.x -ℤ e.to.x *ℤ p.d) = omega (arith, ints) in
    let s1 = scale_strictly (pos 0) (p.x -ℤ e.from.x *ℤ p.d) (e.to.y -ℤ e.from.y) r p1 in
    let s2 = scale_strictly (pos 0) (p.x -ℤ e.to.x *ℤ p.d) (e.to.y -ℤ e.from.y) r p2 in
    let n1 : pos 0 <ℤ along e p = omega (arith, ints, s1, g) in
    let n2 : pos 0 <ℤ ((p.y -ℤ e.to.y *ℤ p.d) *ℤ (e.to.x -ℤ e.from.x)) = omega (arith, ints, s2, g, other_side e p) in
    let t1 : Greater ≡ sign_times (sign (p.y -ℤ e.from.y *ℤ p.d)) (sign (e.to.x -ℤ e.from.x)) = sym (int_cmp_greater (along e p) (pos 0) n1) ∙ sign_product (p.y -ℤ e.from.y *ℤ p.d) (e.to.x -ℤ e.from.x) in
    let t2 : Greater ≡ sign_times (sign (p.y -ℤ e.to.y *ℤ p.d)) (sign (e.to.x -ℤ e.from.x)) = sym (int_cmp_greater ((p.y -ℤ e.to.y *ℤ p.d) *ℤ (e.to.x -ℤ e.from.x)) (pos 0) n2) ∙ sign_product (p.y -ℤ e.to.y *ℤ p.d) (e.to.x -ℤ e.from.x) in
    absurd (down_signs (sign (p.y -ℤ e.to.y *ℤ p.d)) (sign (p.y -ℤ e.from.y *ℤ p.d)) (sign (e.to.x -ℤ e.from.x)) k h t2 t1)) (λ l. l)

falls_left : (e : Edge) (p : Point) → pos 0 <ℤ (e.from.y -ℤ e.to.y) → (e.from.x *ℤ p.d) <ℤ p.x → (e.to.x *ℤ p.d) <ℤ p.x
    → is_lt (sign (p.y -ℤ e.from.y *ℤ p.d)) ≡ true → is_lt (sign (p.y -ℤ e.to.y *ℤ p.d)) ≡ false → across e p ≤ℤ along e p
falls_left e p r a b h k =
    by_lt_z (along e p) (across e p) (λ g.
    let p1 : pos 0 <ℤ (p.x -ℤ e.from.x *ℤ p.d) = omega (arith, ints) in
    let p2 : pos 0 <ℤ (p.x -ℤ e.to.x *ℤ p.d) = omega (arith, ints) in
    let s1 = scale_strictly (pos 0) (p.x -ℤ e.from.x *ℤ p.d) (e.from.y -ℤ e.to.y) r p1 in
    let s2 = scale_strictly (pos 0) (p.x -ℤ e.to.x *ℤ p.d) (e.from.y -ℤ e.to.y) r p2 in
    let m1 = times_difference (p.x -ℤ e.from.x *ℤ p.d) e.from.y e.to.y in
    let m2 = times_difference (p.x -ℤ e.from.x *ℤ p.d) e.to.y e.from.y in
    let m3 = times_difference (p.x -ℤ e.to.x *ℤ p.d) e.from.y e.to.y in
    let m4 = times_difference (p.x -ℤ e.to.x *ℤ p.d) e.to.y e.from.y in
    let n1 : along e p <ℤ pos 0 = omega (arith, ints, s1, g, m1, m2) in
    let n2 : ((p.y -ℤ e.to.y *ℤ p.d) *ℤ (e.to.x -ℤ e.from.x)) <ℤ pos 0 = omega (arith, ints, s2, g, m3, m4, other_side e p) in
    let t1 : Less ≡ sign_times (sign (p.y -ℤ e.from.y *ℤ p.d)) (sign (e.to.x -ℤ e.from.x)) = sym (int_cmp_less (along e p) (pos 0) n1) ∙ sign_product (p.y -ℤ e.from.y *ℤ p.d) (e.to.x -ℤ e.from.x) in
    let t2 : Less ≡ sign_times (sign (p.y -ℤ e.to.y *ℤ p.d)) (sign (e.to.x -ℤ e.from.x)) = sym (int_cmp_less ((p.y -ℤ e.to.y *ℤ p.d) *ℤ (e.to.x -ℤ e.from.x)) (pos 0) n2) ∙ sign_product (p.y -ℤ e.to.y *ℤ p.d) (e.to.x -ℤ e.from.x) in
    absurd (up_signs (sign (p.y -ℤ e.to.y *ℤ p.d)) (sign (p.y -ℤ e.from.y *ℤ p.d)) (sign (e.to.x -ℤ e.from.x)) k h t2 t1)) (λ l. l)

crossed_left : (e : Edge) (p : Point) → pos 0 <ℤ p.d → (e.from.x *ℤ p.d) <ℤ p.x → (e.to.x *ℤ p.d) <ℤ p.x → is_crossed e p ≡ false
crossed_left e p z a b = crossed_by e p ∙ by (is_ge (height e.from p)) (is_ge (height e.to p)) refl refl
  where
    s1 : height e.from p ≡ sign (p.y -ℤ e.from.y *ℤ p.d)
    s1 = sign_of p.y (e.from.y *ℤ p.d)

    s2 : height e.to p ≡ sign (p.y -ℤ e.to.y *ℤ p.d)
    s2 = sign_of p.y (e.to.y *ℤ p.d)

    test : Bool
    test = if int_lt e.from.y e.to.y then is_lt (side e p) else is_gt (side e p)

    by : (g1 g2 : Bool) → is_ge (height e.from p) ≡ g1 → is_ge (height e.to p) ≡ g2 → either g1 g2 && test ≡ false
    by true true i j = refl
    by false false i j = refl
    by true false i j =
        let lo = ge_le p.y (e.from.y *ℤ p.d) i in
        let hi = lt_of p.y (e.to.y *ℤ p.d) j in
        let l : (e.from.y *ℤ p.d) <ℤ (e.to.y *ℤ p.d) = omega (arith, ints) in
        let up = less_back e.from.y e.to.y p.d z l in
        let r : pos 0 <ℤ (e.to.y -ℤ e.from.y) = omega (arith, ints) in
        let c = rises_left e p r a b (ap is_lt (sym s1) ∙ lt_from (height e.from p) i) (ap is_lt (sym s2) ∙ lt_to (height e.to p) j) in
        ap (λ v. if v then is_lt (side e p) else is_gt (side e p)) (rising e up) ∙ not_lt (across e p) (along e p) c
    by false true i j =
        let hi = lt_of p.y (e.from.y *ℤ p.d) i in
        let lo = ge_le p.y (e.to.y *ℤ p.d) j in
        let l : (e.to.y *ℤ p.d) <ℤ (e.from.y *ℤ p.d) = omega (arith, ints) in
        let down = less_back e.to.y e.from.y p.d z l in
        let r : pos 0 <ℤ (e.from.y -ℤ e.to.y) = omega (arith, ints) in
        let f : e.to.y ≤ℤ e.from.y = omega (arith, ints) in
        let c = falls_left e p r a b (ap is_lt (sym s1) ∙ lt_to (height e.from p) i) (ap is_lt (sym s2) ∙ lt_from (height e.to p) j) in
        ap (λ v. if v then is_lt (side e p) else is_gt (side e p)) (not_rising e f) ∙ not_gt (across e p) (along e p) c

-- an edge that the point is off, and that is not crossed
abbrev pub IsApart : Edge → Point → Type 0
IsApart e p = (is_on_edge e p ≡ false) × (is_crossed e p ≡ false)

none_last : (v w : Bool) → v && w && false ≡ false
none_last true true = refl
none_last true false = refl
none_last false w = refl

none_middle : (v w : Bool) → v && false && w ≡ false
none_middle true w = refl
none_middle false w = refl

apart_left : (e : Edge) (p : Point) → pos 0 <ℤ p.d → (e.from.x *ℤ p.d) <ℤ p.x → (e.to.x *ℤ p.d) <ℤ p.x → IsApart e p
apart_left e p z a b = (
  on_edge_by e p
      ∙ (λ i. is_eq (side e p) && is_between_by (int_cmp_greater p.x (e.from.x *ℤ p.d) a i) (int_cmp_greater p.x (e.to.x *ℤ p.d) b i) && is_between_by (height e.from p) (height e.to p))
      ∙ none_middle (is_eq (side e p)) (is_between_by (height e.from p) (height e.to p)),
  crossed_left e p z a b,
)

pub apart_by_heights : (e : Edge) (p : Point) (h : Ordering) → height e.from p ≡ h → height e.to p ≡ h → is_between_by h h ≡ false → IsApart e p
apart_by_heights e p h i j b = (
  on_edge_by e p
      ∙ (λ k. is_eq (side e p) && is_between_by (width e.from p) (width e.to p) && is_between_by (i k) (j k))
      ∙ ap (λ v. is_eq (side e p) && is_between_by (width e.from p) (width e.to p) && v) b
      ∙ none_last (is_eq (side e p)) (is_between_by (width e.from p) (width e.to p)),
  crossed_by e p
      ∙ (λ k. either (is_ge (i k)) (is_ge (j k)) && (if int_lt e.from.y e.to.y then is_lt (side e p) else is_gt (side e p)))
      ∙ ap (λ v. v && (if int_lt e.from.y e.to.y then is_lt (side e p) else is_gt (side e p))) (same (is_ge h)),
)
  where
    same : (v : Bool) → either v v ≡ false
    same true = refl
    same false = refl

-- what holds of all corners of a ring holds of both of each edge
abbrev AllOf : (Corner → Type 0) → List Corner → Type 0
AllOf P [] = Unit {0}
AllOf P (c ∷ cs) = P c × AllOf P cs

last_of : (P : Corner → Type 0) (c : Corner) (cs : List Corner) → P c → AllOf P cs → P (last_after c cs)
last_of P c [] a r = a
last_of P c (next ∷ rest) a r = last_of P next rest r.0 r.1

module _ (P : Corner → Type 0) (p : Point) (apart : (from to : Corner) → P from → P to → IsApart (record { from = from; to = to }) p) where
  on_none : (from : Corner) (cs : List Corner) → P from → AllOf P cs → is_on_some (edges_after from cs) p ≡ false
  on_none from [] a r = refl
  on_none from (to ∷ rest) a r = λ i. (apart from to a r.0).0 i || on_none to rest r.0 r.1 i

  odd_none : (from : Corner) (cs : List Corner) → P from → AllOf P cs → is_odd (edges_after from cs) p ≡ false
  odd_none from [] a r = refl
  odd_none from (to ∷ rest) a r = λ i. either ((apart from to a r.0).1 i) (odd_none to rest r.0 r.1 i)

  ring_none : (ring : List Corner) → AllOf P ring → (is_on_some (edges ring) p ≡ false) × (is_odd (edges ring) p ≡ false)
  ring_none [] r = (refl, refl)
  ring_none (first ∷ rest) r =
      let a = last_of P first rest r.0 r.1 in
      (on_none (last_after first rest) (first ∷ rest) a r, odd_none (last_after first rest) (first ∷ rest) a r)

all_of : (P : Corner → Type 0) (box : BoxView) → ((c : Corner) → IsInBox box c → P c) → (ring : List Corner) → HoldsRing box ring → AllOf P ring
all_of P box f [] h = tt
all_of P box f (c ∷ cs) h = (f c h.0, all_of P box f cs h.1)

all_right : (box : BoxView) (p : Point) → pos 0 <ℤ p.d → p.x <ℤ (box.x_min *ℤ p.d) → (ring : List Corner) → HoldsRing box ring → AllRight ring p
all_right box p z l [] h = tt
all_right box p z l (c ∷ cs) h =
    let z0 : pos 0 ≤ℤ p.d = omega (arith, ints) in
    let s : (box.x_min *ℤ p.d) ≤ℤ (c.x *ℤ p.d) = scale box.x_min c.x p.d z0 h.0.left in
    (omega (arith, ints, s, l), all_right box p z l cs h.1)

ring_off : (box : BoxView) (p : Point) → pos 0 <ℤ p.d → IsOff box p → (ring : List Corner) → HoldsRing box ring → (is_on_some (edges ring) p ≡ false) × (is_odd (edges ring) p ≡ false)
ring_off box p z (inl l) ring h = ring_right ring p z (all_right box p z l ring h)
ring_off box p z (inr (inl r)) ring h =
    let z0 : pos 0 ≤ℤ p.d = omega (arith, ints) in
    ring_none (λ c. (c.x *ℤ p.d) <ℤ p.x) p (λ from to a b. apart_left (record { from = from; to = to }) p z a b) ring
    (all_of (λ c. (c.x *ℤ p.d) <ℤ p.x) box (λ c k. let s : (c.x *ℤ p.d) ≤ℤ (box.x_max *ℤ p.d) = scale c.x box.x_max p.d z0 k.right in omega (arith, ints, s, r)) ring h)
ring_off box p z (inr (inr (inl b))) ring h =
    let z0 : pos 0 ≤ℤ p.d = omega (arith, ints) in
    ring_none (λ c. height c p ≡ Less) p (λ from to i j. apart_by_heights (record { from = from; to = to }) p Less i j refl) ring
    (all_of (λ c. height c p ≡ Less) box (λ c k. let s : (box.y_min *ℤ p.d) ≤ℤ (c.y *ℤ p.d) = scale box.y_min c.y p.d z0 k.below in int_cmp_less p.y (c.y *ℤ p.d) (omega (arith, ints, s, b))) ring h)
ring_off box p z (inr (inr (inr a))) ring h =
    let z0 : pos 0 ≤ℤ p.d = omega (arith, ints) in
    ring_none (λ c. height c p ≡ Greater) p (λ from to i j. apart_by_heights (record { from = from; to = to }) p Greater i j refl) ring
    (all_of (λ c. height c p ≡ Greater) box (λ c k. let s : (c.y *ℤ p.d) ≤ℤ (box.y_max *ℤ p.d) = scale c.y box.y_max p.d z0 k.above in int_cmp_greater p.y (c.y *ℤ p.d) (omega (arith, ints, s, a))) ring h)

on_off : (box : BoxView) (p : Point) → pos 0 <ℤ p.d → IsOff box p → (rings : List (List Corner)) → HoldsZone box rings → is_on_some (zone_edges rings) p ≡ false
on_off box p z o [] h = refl
on_off box p z o (ring ∷ rings) h =
    on_some_append (edges ring) (zone_edges rings) p ∙ (λ i. (ring_off box p z o ring h.0).0 i || on_off box p z o rings h.1 i)

odd_off : (box : BoxView) (p : Point) → pos 0 <ℤ p.d → IsOff box p → (rings : List (List Corner)) → HoldsZone box rings → is_odd (zone_edges rings) p ≡ false
odd_off box p z o [] h = refl
odd_off box p z o (ring ∷ rings) h =
    odd_append (edges ring) (zone_edges rings) p ∙ (λ i. either ((ring_off box p z o ring h.0).1 i) (odd_off box p z o rings h.1 i))

pub off_box : (box : BoxView) (p : Point) → pos 0 <ℤ p.d → IsOff box p → (rings : List (List Corner)) → HoldsZone box rings → in_zone rings p ≡ false
unfolding in_zone
off_box box p z o rings h = λ i. on_off box p z o rings h i || odd_off box p z o rings h i
