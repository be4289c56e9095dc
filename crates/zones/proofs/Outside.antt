-- A point left of all corners of a ring is outside: the edges that are crossed are even in number.
use Rattle.std.proofs.Common.{Bool, true, false, ◌&&◌, ◌||◌, ℤ, pos, ◌-ℤ◌, ◌*ℤ◌, ◌<ℤ◌, ◌≤ℤ◌, ◌≡◌, arith, ap, sym, ◌∙◌, refl, Less, Equal, Greater, Ordering, if◌then◌else◌, int_lt, List, [], ◌∷◌}
use Rattle.std.specs.Ordering.{int_cmp, is_eq, is_lt, is_gt, is_ge}
use Rattle.std.proofs.lemmas.Int.{ints, by_lt_z}
use Rattle.std.proofs.lemmas.Cmp.{int_ranked, by_ranked}
use Rattle.zones.specs.Places.{Corner, Edge, Point}
use Rattle.zones.specs.Edges.{is_between_by, across, along, is_on_edge, is_crossed, either}
use Rattle.zones.specs.Zones.{edges_after, last_after, edges, is_on_some, is_odd}
use Rattle.zones.specs.Turns.{sign, height, side}
use Rattle.zones.proofs.Products.{scale_strictly}
use Rattle.zones.proofs.Orders.{less_back}
use Rattle.zones.proofs.EdgeLemmas.{on_edge_by, crossed_by, int_cmp_less, int_cmp_greater}
use Rattle.zones.proofs.Signs.{sign_times, sign_product, other_side, sign_of}
use Rattle.zones.proofs.Closed.{rising, not_rising}
use Rattle.zones.proofs.Pieces.{times_difference}

-- the edge's two products, where both corners are right of the point
pub up_signs : (q1 q2 n : Ordering) → is_lt q1 ≡ false → is_lt q2 ≡ true → Less ≡ sign_times q1 n → Less ≡ sign_times q2 n → ⊥
up_signs Less q2 n a b e f = cc
up_signs q1 Equal n a b e f = cc
up_signs q1 Greater n a b e f = cc
up_signs Equal Less Less a b e f = cc
up_signs Equal Less Equal a b e f = cc
up_signs Equal Less Greater a b e f = cc
up_signs Greater Less Less a b e f = cc
up_signs Greater Less Equal a b e f = cc
up_signs Greater Less Greater a b e f = cc

rises_right : (e : Edge) (p : Point) → pos 0 <ℤ (e.to.y -ℤ e.from.y) → p.x <ℤ (e.from.x *ℤ p.d) → p.x <ℤ (e.to.x *ℤ p.d)
    → is_lt (sign (p.y -ℤ e.from.y *ℤ p.d)) ≡ false → is_lt (sign (p.y -ℤ e.to.y *ℤ p.d)) ≡ true → across e p <ℤ along e p
rises_right e p r a b h k =
    by_lt_z (across e p) (along e p) (λ l. l) (λ g.
    let p1 : (p.x -ℤ e.from.x *ℤ p.d) <ℤ pos 0 = omega (arith, ints) in
    let p2 : (p.x -ℤ e.to.x *ℤ p.d) <ℤ pos 0 = omega (arith, ints) in
    let s1 = scale_strictly (p.x -ℤ e.from.x *ℤ p.d) (pos 0) (e.to.y -ℤ e.from.y) r p1 in
    let s2 = scale_strictly (p.x -ℤ e.to.x *ℤ p.d) (pos 0) (e.to.y -ℤ e.from.y) r p2 in
    let n1 : along e p <ℤ pos 0 = omega (arith, ints, s1, g) in
    let n2 : ((p.y -ℤ e.to.y *ℤ p.d) *ℤ (e.to.x -ℤ e.from.x)) <ℤ pos 0 = omega (arith, ints, s2, g, other_side e p) in
    let t1 : Less ≡ sign_times (sign (p.y -ℤ e.from.y *ℤ p.d)) (sign (e.to.x -ℤ e.from.x)) = sym (int_cmp_less (along e p) (pos 0) n1) ∙ sign_product (p.y -ℤ e.from.y *ℤ p.d) (e.to.x -ℤ e.from.x) in
    let t2 : Less ≡ sign_times (sign (p.y -ℤ e.to.y *ℤ p.d)) (sign (e.to.x -ℤ e.from.x)) = sym (int_cmp_less ((p.y -ℤ e.to.y *ℤ p.d) *ℤ (e.to.x -ℤ e.from.x)) (pos 0) n2) ∙ sign_product (p.y -ℤ e.to.y *ℤ p.d) (e.to.x -ℤ e.from.x) in
    absurd (up_signs (sign (p.y -ℤ e.from.y *ℤ p.d)) (sign (p.y -ℤ e.to.y *ℤ p.d)) (sign (e.to.x -ℤ e.from.x)) h k t1 t2))

pub down_signs : (q1 q2 n : Ordering) → is_lt q1 ≡ true → is_lt q2 ≡ false → Greater ≡ sign_times q1 n → Greater ≡ sign_times q2 n → ⊥
down_signs Equal q2 n a b e f = cc
down_signs Greater q2 n a b e f = cc
down_signs Less Less n a b e f = cc
down_signs Less Equal Less a b e f = cc
down_signs Less Equal Equal a b e f = cc
down_signs Less Equal Greater a b e f = cc
down_signs Less Greater Less a b e f = cc
down_signs Less Greater Equal a b e f = cc
down_signs Less Greater Greater a b e f = cc

falls_right : (e : Edge) (p : Point) → pos 0 <ℤ (e.from.y -ℤ e.to.y) → p.x <ℤ (e.from.x *ℤ p.d) → p.x <ℤ (e.to.x *ℤ p.d)
    → is_lt (sign (p.y -ℤ e.from.y *ℤ p.d)) ≡ true → is_lt (sign (p.y -ℤ e.to.y *ℤ p.d)) ≡ false → along e p <ℤ across e p
falls_right e p r a b h k =
    by_lt_z (along e p) (across e p) (λ l. l) (λ g.
    let p1 : (p.x -ℤ e.from.x *ℤ p.d) <ℤ pos 0 = omega (arith, ints) in
    let p2 : (p.x -ℤ e.to.x *ℤ p.d) <ℤ pos 0 = omega (arith, ints) in
    let s1 = scale_strictly (p.x -ℤ e.from.x *ℤ p.d) (pos 0) (e.from.y -ℤ e.to.y) r p1 in
    let s2 = scale_strictly (p.x -ℤ e.to.x *ℤ p.d) (pos 0) (e.from.y -ℤ e.to.y) r p2 in
    let m1 = times_difference (p.x -ℤ e.from.x *ℤ p.d) e.from.y e.to.y in
    let m2 = times_difference (p.x -ℤ e.from.x *ℤ p.d) e.to.y e.from.y in
    let m3 = times_difference (p.x -ℤ e.to.x *ℤ p.d) e.from.y e.to.y in
    let m4 = times_difference (p.x -ℤ e.to.x *ℤ p.d) e.to.y e.from.y in
    let n1 : pos 0 <ℤ along e p = omega (arith, ints, s1, g, m1, m2) in
    let n2 : pos 0 <ℤ ((p.y -ℤ e.to.y *ℤ p.d) *ℤ (e.to.x -ℤ e.from.x)) = omega (arith, ints, s2, g, m3, m4, other_side e p) in
    let t1 : Greater ≡ sign_times (sign (p.y -ℤ e.from.y *ℤ p.d)) (sign (e.to.x -ℤ e.from.x)) = sym (int_cmp_greater (along e p) (pos 0) n1) ∙ sign_product (p.y -ℤ e.from.y *ℤ p.d) (e.to.x -ℤ e.from.x) in
    let t2 : Greater ≡ sign_times (sign (p.y -ℤ e.to.y *ℤ p.d)) (sign (e.to.x -ℤ e.from.x)) = sym (int_cmp_greater ((p.y -ℤ e.to.y *ℤ p.d) *ℤ (e.to.x -ℤ e.from.x)) (pos 0) n2) ∙ sign_product (p.y -ℤ e.to.y *ℤ p.d) (e.to.x -ℤ e.from.x) in
    absurd (down_signs (sign (p.y -ℤ e.from.y *ℤ p.d)) (sign (p.y -ℤ e.to.y *ℤ p.d)) (sign (e.to.x -ℤ e.from.x)) h k t1 t2))

pub ge_le : (x y : ℤ) → is_ge (int_cmp x y) ≡ true → y ≤ℤ x
ge_le x y h = by_lt_z x y (λ l. let e : false ≡ true = ap is_ge (sym (int_cmp_less x y l)) ∙ h in absurd (cc)) (λ g. g)

pub lt_of : (x y : ℤ) → is_ge (int_cmp x y) ≡ false → x <ℤ y
lt_of x y h =
    by_ranked (x <ℤ y) (x ≡ y) (y <ℤ x) (int_cmp x y) (int_ranked x y (int_cmp x y) refl)
    (λ i l. l)
    (λ i l. let e : true ≡ false = ap is_ge (sym i) ∙ h in absurd (cc))
    (λ i l. let e : true ≡ false = ap is_ge (sym i) ∙ h in absurd (cc))

-- an edge right of the point is crossed where exactly one of its corners is at most as high
crossed_right : (e : Edge) (p : Point) → pos 0 <ℤ p.d → p.x <ℤ (e.from.x *ℤ p.d) → p.x <ℤ (e.to.x *ℤ p.d) → is_crossed e p ≡ either (is_ge (height e.from p)) (is_ge (height e.to p))
crossed_right e p z a b = crossed_by e p ∙ by (is_ge (height e.from p)) (is_ge (height e.to p)) refl refl
  where
    s1 : height e.from p ≡ sign (p.y -ℤ e.from.y *ℤ p.d)
    s1 = sign_of p.y (e.from.y *ℤ p.d)

    s2 : height e.to p ≡ sign (p.y -ℤ e.to.y *ℤ p.d)
    s2 = sign_of p.y (e.to.y *ℤ p.d)

    lt_from : (o : Ordering) → is_ge o ≡ true → is_lt o ≡ false
    lt_from Less h = absurd (cc)
    lt_from Equal h = refl
    lt_from Greater h = refl

    lt_to : (o : Ordering) → is_ge o ≡ false → is_lt o ≡ true
    lt_to Less h = refl
    lt_to Equal h = absurd (cc)
    lt_to Greater h = absurd (cc)

    test : Bool
    test = if int_lt e.from.y e.to.y then is_lt (side e p) else is_gt (side e p)

    by : (g1 g2 : Bool) → is_ge (height e.from p) ≡ g1 → is_ge (height e.to p) ≡ g2 → either g1 g2 && test ≡ either g1 g2
    by true true i j = refl
    by false false i j = refl
    by true false i j =
        let lo = ge_le p.y (e.from.y *ℤ p.d) i in
        let hi = lt_of p.y (e.to.y *ℤ p.d) j in
        let l : (e.from.y *ℤ p.d) <ℤ (e.to.y *ℤ p.d) = omega (arith, ints) in
        let up = less_back e.from.y e.to.y p.d z l in
        let r : pos 0 <ℤ (e.to.y -ℤ e.from.y) = omega (arith, ints) in
        let c = rises_right e p r a b (ap is_lt (sym s1) ∙ lt_from (height e.from p) i) (ap is_lt (sym s2) ∙ lt_to (height e.to p) j) in
        ap (λ v. if v then is_lt (side e p) else is_gt (side e p)) (rising e up) ∙ ap is_lt (int_cmp_less (across e p) (along e p) c)
    by false true i j =
        let hi = lt_of p.y (e.from.y *ℤ p.d) i in
        let lo = ge_le p.y (e.to.y *ℤ p.d) j in
        let l : (e.to.y *ℤ p.d) <ℤ (e.from.y *ℤ p.d) = omega (arith, ints) in
        let down = less_back e.to.y e.from.y p.d z l in
        let r : pos 0 <ℤ (e.from.y -ℤ e.to.y) = omega (arith, ints) in
        let f : e.to.y ≤ℤ e.from.y = omega (arith, ints) in
        let c = falls_right e p r a b (ap is_lt (sym s1) ∙ lt_to (height e.from p) i) (ap is_lt (sym s2) ∙ lt_from (height e.to p) j) in
        ap (λ v. if v then is_lt (side e p) else is_gt (side e p)) (not_rising e f) ∙ ap is_gt (int_cmp_greater (across e p) (along e p) c)

-- all corners are right of the point
abbrev pub AllRight : List Corner → Point → Type 0
AllRight [] p = Unit {0}
AllRight (c ∷ cs) p = (p.x <ℤ (c.x *ℤ p.d)) × AllRight cs p

last_right : (c : Corner) (cs : List Corner) (p : Point) → p.x <ℤ (c.x *ℤ p.d) → AllRight cs p → p.x <ℤ ((last_after c cs).x *ℤ p.d)
last_right c [] p a r = a
last_right c (next ∷ rest) p a r = last_right next rest p r.0 r.1

meet : (a b c : Bool) → either (either a b) (either b c) ≡ either a c
meet true true c = refl
meet true false true = refl
meet true false false = refl
meet false true true = refl
meet false true false = refl
meet false false c = refl

either_self : (a : Bool) → either a a ≡ false
either_self true = refl
either_self false = refl

odd_right : (from : Corner) (cs : List Corner) (p : Point) → pos 0 <ℤ p.d → p.x <ℤ (from.x *ℤ p.d) → AllRight cs p
    → is_odd (edges_after from cs) p ≡ either (is_ge (height from p)) (is_ge (height (last_after from cs) p))
odd_right from [] p z a r = sym (either_self (is_ge (height from p)))
odd_right from (to ∷ rest) p z a r =
    (λ i. either (crossed_right (record { from = from; to = to }) p z a r.0 i) (odd_right to rest p z r.0 r.1 i))
    ∙ meet (is_ge (height from p)) (is_ge (height to p)) (is_ge (height (last_after to rest) p))

off_right : (e : Edge) (p : Point) → p.x <ℤ (e.from.x *ℤ p.d) → p.x <ℤ (e.to.x *ℤ p.d) → is_on_edge e p ≡ false
off_right e p a b =
    on_edge_by e p ∙ (λ i. is_eq (side e p) && is_between_by (int_cmp_less p.x (e.from.x *ℤ p.d) a i) (int_cmp_less p.x (e.to.x *ℤ p.d) b i) && is_between_by (height e.from p) (height e.to p))
    ∙ none (is_eq (side e p))
  where
    none : (v : Bool) → v && false && is_between_by (height e.from p) (height e.to p) ≡ false
    none true = refl
    none false = refl

on_right : (from : Corner) (cs : List Corner) (p : Point) → p.x <ℤ (from.x *ℤ p.d) → AllRight cs p → is_on_some (edges_after from cs) p ≡ false
on_right from [] p a r = refl
on_right from (to ∷ rest) p a r = λ i. off_right (record { from = from; to = to }) p a r.0 i || on_right to rest p r.0 r.1 i

pub ring_right : (ring : List Corner) (p : Point) → pos 0 <ℤ p.d → AllRight ring p → (is_on_some (edges ring) p ≡ false) × (is_odd (edges ring) p ≡ false)
ring_right [] p z r = (refl, refl)
ring_right (first ∷ rest) p z r =
    let a = last_right first rest p r.0 r.1 in
    let last : Corner = last_after first rest in
    (on_right last (first ∷ rest) p a r, odd_right last (first ∷ rest) p z a r ∙ either_self (is_ge (height last p)))
