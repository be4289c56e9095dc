-- Corners on one side of a line through a point: what the edges between them count at the point.
use Rattle.std.proofs.Common.{Bool, true, false, ◌&&◌, ◌||◌, if◌then◌else◌, ◌≡◌, ◌⊎◌, ⊎_elim, ◌∙◌, ℤ, pos, ◌-ℤ◌, ◌+ℤ◌, ◌*ℤ◌, ◌<ℤ◌, ◌≤ℤ◌, arith, ap, refl, sym, inl, inr, int_le, int_lt, Ordering, Less, Equal, Greater}
use Rattle.std.specs.Ordering.{int_eq, is_lt}
use Rattle.std.proofs.lemmas.Int.{ints, by_lt_z}
use Rattle.zones.specs.Places.{Corner, Edge, Point}
use Rattle.zones.specs.Edges.{across, along, either, is_between, is_crossed, is_not_above, is_on_edge}
use Rattle.zones.specs.Turns.{sign}
use Rattle.zones.proofs.Closed.{not_rising, rising}
use Rattle.zones.proofs.EdgeLemmas.{int_cmp_greater, lt_by}
use Rattle.zones.proofs.Orders.{less_back, scale}
use Rattle.zones.proofs.Products.{difference_times, scale_strictly, swap, times_comm}
use Rattle.zones.proofs.Signs.{sign_of, sign_product, sign_times}

abbrev pub edge : Corner → Corner → Edge
edge a b = record { from = a; to = b }

-- of three corners on one side of the point, what the edges between them count at it
pub record Quiet (a b c : Corner) (p : Point) : Type 0 where
  pub on_ab : is_on_edge (edge a b) p ≡ false
  pub on_bc : is_on_edge (edge b c) p ≡ false
  pub on_ac : is_on_edge (edge a c) p ≡ false
  pub still : is_crossed (edge c c) p ≡ false
  pub through : is_crossed (edge a c) p ≡ either (is_crossed (edge a b) p) (is_crossed (edge b c) p)

-- (x, y) against a line of the direction (u, v)
abbrev off : ℤ → ℤ → ℤ → ℤ → ℤ
off u v x y = x *ℤ v -ℤ y *ℤ u

-- how (x, y) and (z, w) turn, against the line
turned : (u v x y z w : ℤ) → (z *ℤ y -ℤ x *ℤ w) *ℤ v ≡ y *ℤ off u v z w -ℤ w *ℤ off u v x y
turned u v x y z w =
    let l = difference_times (z *ℤ y) (x *ℤ w) v in
    let a = difference_times (z *ℤ v) (w *ℤ u) y in
    let b = difference_times (x *ℤ v) (y *ℤ u) w in
    let c = swap z v y in
    let d = swap x v w in
    let e = swap w u y in
    let f = swap y u w in
    let g : (w *ℤ y) *ℤ u ≡ (y *ℤ w) *ℤ u = ap (λ k. k *ℤ u) (times_comm w y) in
    omega (arith, ints, l, a, b, c, d, e, f, g, times_comm y (off u v z w), times_comm w (off u v x y))

-- an edge's cross product, d times
cross_times : (x y z w run rise d : ℤ) → x -ℤ z ≡ run *ℤ d → y -ℤ w ≡ rise *ℤ d → (x *ℤ rise -ℤ y *ℤ run) *ℤ d ≡ z *ℤ y -ℤ x *ℤ w
cross_times x y z w run rise d h g =
    let l = difference_times (x *ℤ rise) (y *ℤ run) d in
    let a : (x *ℤ rise) *ℤ d ≡ (rise *ℤ x) *ℤ d = ap (λ k. k *ℤ d) (times_comm x rise) in
    let b : (y *ℤ run) *ℤ d ≡ (run *ℤ y) *ℤ d = ap (λ k. k *ℤ d) (times_comm y run) in
    let c = swap rise x d in
    let e = swap run y d in
    let m : (rise *ℤ d) *ℤ x ≡ (y -ℤ w) *ℤ x = ap (λ k. k *ℤ x) (sym g) in
    let n : (run *ℤ d) *ℤ y ≡ (x -ℤ z) *ℤ y = ap (λ k. k *ℤ y) (sym h) in
    omega (arith, ints, l, a, b, c, e, m, n, difference_times y w x, difference_times x z y, times_comm x y, times_comm x w)

pub negated : (m n : ℤ) → m *ℤ (pos 0 -ℤ n) ≡ pos 0 -ℤ m *ℤ n
negated m n = omega (arith, ints, times_comm m (pos 0 -ℤ n), difference_times (pos 0) n m, times_comm n m)

-- a point (x, y) / d on the line through (x0, y0): its cross product with the line, seen from (cx, cy)
pub cross_from : (x y x0 y0 cx cy run rise d : ℤ) → (x -ℤ x0 *ℤ d) *ℤ rise ≡ (y -ℤ y0 *ℤ d) *ℤ run
    → (x -ℤ cx *ℤ d) *ℤ rise -ℤ (y -ℤ cy *ℤ d) *ℤ run ≡ (run *ℤ (cy -ℤ y0) -ℤ rise *ℤ (cx -ℤ x0)) *ℤ d
cross_from x y x0 y0 cx cy run rise d on =
    omega (arith, ints, on, seen x x0 cx rise d, seen y y0 cy run d, difference_times (run *ℤ (cy -ℤ y0)) (rise *ℤ (cx -ℤ x0)) d)
  where
    seen : (x x0 cx k d : ℤ) → (x -ℤ cx *ℤ d) *ℤ k ≡ (x -ℤ x0 *ℤ d) *ℤ k -ℤ (k *ℤ (cx -ℤ x0)) *ℤ d
    seen x x0 cx k d =
        let a : x -ℤ cx *ℤ d ≡ (x -ℤ x0 *ℤ d) -ℤ (cx -ℤ x0) *ℤ d = omega (arith, ints, difference_times cx x0 d) in
        let b : (x -ℤ cx *ℤ d) *ℤ k ≡ ((x -ℤ x0 *ℤ d) -ℤ (cx -ℤ x0) *ℤ d) *ℤ k = ap (λ w. w *ℤ k) a in
        let c : ((cx -ℤ x0) *ℤ k) *ℤ d ≡ (k *ℤ (cx -ℤ x0)) *ℤ d = ap (λ w. w *ℤ d) (times_comm (cx -ℤ x0) k) in
        omega (arith, ints, b, c, difference_times (x -ℤ x0 *ℤ d) ((cx -ℤ x0) *ℤ d) k, swap (cx -ℤ x0) d k)

-- two numbers on both sides of 0, of which positive multiples are equal
abbrev Straddle : ℤ → ℤ → Type 0
Straddle m n = ((pos 0 ≤ℤ m) × (n ≤ℤ pos 0)) ⊎ ((m ≤ℤ pos 0) × (pos 0 ≤ℤ n))

both_zero : (m n s t : ℤ) → pos 0 <ℤ s → pos 0 <ℤ t → m *ℤ t ≡ n *ℤ s → Straddle m n → m ≡ pos 0
both_zero m n s t s0 t0 e (inl (a, b)) =
    by_lt_z (pos 0) m
    (λ h. let x = scale_strictly (pos 0) m t t0 h in let y = scale n (pos 0) s (omega (arith, ints, s0)) b in absurd (omega (arith, ints, x, y, e)))
    (λ h. omega (arith, ints, a, h))
both_zero m n s t s0 t0 e (inr (a, b)) =
    by_lt_z m (pos 0)
    (λ h. let x = scale_strictly m (pos 0) t t0 h in let y = scale (pos 0) n s (omega (arith, ints, s0)) b in absurd (omega (arith, ints, x, y, e)))
    (λ h. omega (arith, ints, a, h))

one_sign : (o q : Ordering) → Greater ≡ sign_times o q → o ≡ q
one_sign o Greater h = sym h
one_sign o Equal h = absurd (cc)
one_sign Less Less h = refl
one_sign Equal Less h = absurd (cc)
one_sign Greater Less h = absurd (cc)

-- where a difference has the sign of v
lower_as : (x y v d : ℤ) → pos 0 <ℤ d → pos 0 <ℤ (((x -ℤ y) *ℤ v) *ℤ d) → int_lt x y ≡ int_lt v (pos 0)
lower_as x y v d d0 h =
    let g : pos 0 <ℤ ((x -ℤ y) *ℤ v) = less_back (pos 0) ((x -ℤ y) *ℤ v) d d0 (omega (arith, ints, h)) in
    let s = one_sign (sign (x -ℤ y)) (sign v) (sym (int_cmp_greater ((x -ℤ y) *ℤ v) (pos 0) g) ∙ sign_product (x -ℤ y) v) in
    lt_by x y ∙ ap is_lt (sign_of x y ∙ s) ∙ sym (lt_by v (pos 0))

le_of : (x y : ℤ) → int_le x y ≡ true → x ≤ℤ y
le_of x y h = grind (arith, ints)

gt_of : (x y : ℤ) → int_le x y ≡ false → y <ℤ x
gt_of x y h = grind (arith, ints)

eq_of : (x y : ℤ) → int_eq x y ≡ true → x ≡ y
eq_of x y h = grind (arith, ints)

-- three tests that hold
pub all_three : (s t w : Bool) → s && t && w ≡ true → (s ≡ true) × (t ≡ true) × (w ≡ true)
all_three true true true h = (refl, refl, refl)
all_three true true false h = absurd (cc)
all_three true false w h = absurd (cc)
all_three false t w h = absurd (cc)

pub both_true : (s t : Bool) → s && t ≡ true → (s ≡ true) × (t ≡ true)
both_true true t h = (refl, h)
both_true false t h = absurd (cc)

pub one_of : (s t : Bool) → s || t ≡ true → (s ≡ true) ⊎ (t ≡ true)
one_of true t h = inl refl
one_of false t h = inr h

not_true : (s : Bool) → (s ≡ true → ⊥) → s ≡ false
not_true true f = absurd (f refl)
not_true false f = refl

straddle : (a b v : ℤ) → is_between a b v ≡ true → Straddle (v -ℤ a) (v -ℤ b)
straddle a b v h =
    ⊎_elim
    (λ k. let t = both_true (int_le a v) (int_le v b) k in let x = le_of a v t.0 in let y = le_of v b t.1 in inl (omega (arith, ints, x), omega (arith, ints, y)))
    (λ k. let t = both_true (int_le b v) (int_le v a) k in let x = le_of b v t.0 in let y = le_of v a t.1 in inr (omega (arith, ints, y), omega (arith, ints, x)))
    (one_of (int_le a v && int_le v b) (int_le b v && int_le v a) h)

chain : (x y z k : Bool) → either x z && k ≡ either (either x y && k) (either y z && k)
chain true true true k = refl
chain true true false k = refl
chain true false true true = refl
chain true false true false = refl
chain true false false true = refl
chain true false false false = refl
chain false true true true = refl
chain false true true false = refl
chain false true false true = refl
chain false true false false = refl
chain false false true k = refl
chain false false false k = refl

same_not : (x k : Bool) → either x x && k ≡ false
same_not true k = refl
same_not false k = refl

-- a point, and a line through it of the direction (u, v)
module _ (u v : ℤ) (p : Point) (d0 : pos 0 <ℤ p.d) where
  -- the corner is on the one side of the line
  abbrev pub IsBeside : Corner → Type 0
  IsBeside c = pos 0 <ℤ ((p.x -ℤ c.x *ℤ p.d) *ℤ v -ℤ (p.y -ℤ c.y *ℤ p.d) *ℤ u)

  module _ (a b : Corner) (ha : IsBeside a) (hb : IsBeside b) where
    abbrev xa : ℤ
    xa = p.x -ℤ a.x *ℤ p.d

    abbrev ya : ℤ
    ya = p.y -ℤ a.y *ℤ p.d

    abbrev xb : ℤ
    xb = p.x -ℤ b.x *ℤ p.d

    abbrev yb : ℤ
    yb = p.y -ℤ b.y *ℤ p.d

    crossed_times : (across (edge a b) p -ℤ along (edge a b) p) *ℤ p.d ≡ xb *ℤ ya -ℤ xa *ℤ yb
    crossed_times = cross_times xa ya xb yb (b.x -ℤ a.x) (b.y -ℤ a.y) p.d (omega (arith, ints, difference_times b.x a.x p.d)) (omega (arith, ints, difference_times b.y a.y p.d))

    -- the edge's cross product with v
    turn_v : ((across (edge a b) p -ℤ along (edge a b) p) *ℤ v) *ℤ p.d ≡ ya *ℤ off u v xb yb -ℤ yb *ℤ off u v xa ya
    turn_v = swap (across (edge a b) p -ℤ along (edge a b) p) v p.d ∙ ap (λ k. k *ℤ v) crossed_times ∙ turned u v xa ya xb yb

    off_edge : is_on_edge (edge a b) p ≡ false
    unfolding is_on_edge
    off_edge = not_true (is_on_edge (edge a b) p) (λ h.
        let t = all_three (int_eq (across (edge a b) p) (along (edge a b) p)) (is_between (a.x *ℤ p.d) (b.x *ℤ p.d) p.x) (is_between (a.y *ℤ p.d) (b.y *ℤ p.d) p.y) h in
        let on = eq_of (across (edge a b) p) (along (edge a b) p) t.0 in
        let none : (across (edge a b) p -ℤ along (edge a b) p) *ℤ p.d ≡ pos 0 *ℤ p.d = ap (λ k. k *ℤ p.d) (let z : across (edge a b) p -ℤ along (edge a b) p ≡ pos 0 = omega (arith, ints, on) in z) in
        let flat : xb *ℤ ya -ℤ xa *ℤ yb ≡ pos 0 = omega (arith, ints, none, crossed_times) in
        let f : (xb *ℤ ya -ℤ xa *ℤ yb) *ℤ v ≡ pos 0 *ℤ v = ap (λ k. k *ℤ v) flat in
        let g : (yb *ℤ xa -ℤ ya *ℤ xb) *ℤ u ≡ pos 0 *ℤ u = ap (λ k. k *ℤ u) (let z : yb *ℤ xa -ℤ ya *ℤ xb ≡ pos 0 = omega (arith, ints, flat, times_comm yb xa, times_comm ya xb) in z) in
        let y : ya ≡ pos 0 = both_zero ya yb (off u v xa ya) (off u v xb yb) ha hb (omega (arith, ints, f, turned u v xa ya xb yb)) (straddle (a.y *ℤ p.d) (b.y *ℤ p.d) p.y t.2) in
        let e = turned v u ya xa yb xb in
        let na : off v u ya xa ≡ pos 0 -ℤ off u v xa ya = omega (arith, ints) in
        let nb : off v u yb xb ≡ pos 0 -ℤ off u v xb yb = omega (arith, ints) in
        let ea : xb *ℤ off v u ya xa ≡ xb *ℤ (pos 0 -ℤ off u v xa ya) = ap (λ k. xb *ℤ k) na in
        let eb : xa *ℤ off v u yb xb ≡ xa *ℤ (pos 0 -ℤ off u v xb yb) = ap (λ k. xa *ℤ k) nb in
        let ma = negated xb (off u v xa ya) in
        let mb = negated xa (off u v xb yb) in
        let x : xa ≡ pos 0 = both_zero xa xb (off u v xa ya) (off u v xb yb) ha hb (omega (arith, ints, g, e, ea, eb, ma, mb)) (straddle (a.x *ℤ p.d) (b.x *ℤ p.d) p.x t.1) in
        let i : xa *ℤ v ≡ pos 0 *ℤ v = ap (λ k. k *ℤ v) x in
        let j : ya *ℤ u ≡ pos 0 *ℤ u = ap (λ k. k *ℤ u) y in
        omega (arith, ints, ha, i, j))

    -- the edge is crossed exactly where its corners' heights differ
    crossed_is : is_crossed (edge a b) p ≡ either (is_not_above a p) (is_not_above b p) && int_lt v (pos 0)
    unfolding is_crossed
    crossed_is = by (is_not_above a p) (is_not_above b p) refl refl
      where
        back : (m n k d : ℤ) → ((n -ℤ m) *ℤ k) *ℤ d ≡ pos 0 -ℤ ((m -ℤ n) *ℤ k) *ℤ d
        back m n k d =
            let z : (n -ℤ m) *ℤ k ≡ pos 0 -ℤ (m -ℤ n) *ℤ k = omega (arith, ints, difference_times n m k, difference_times m n k) in
            let y : ((n -ℤ m) *ℤ k) *ℤ d ≡ (pos 0 -ℤ (m -ℤ n) *ℤ k) *ℤ d = ap (λ q. q *ℤ d) z in
            omega (arith, ints, y, difference_times (pos 0) ((m -ℤ n) *ℤ k) d)

        test : Bool
        test = if int_lt a.y b.y then int_lt (across (edge a b) p) (along (edge a b) p) else int_lt (along (edge a b) p) (across (edge a b) p)

        by : (s t : Bool) → is_not_above a p ≡ s → is_not_above b p ≡ t → either s t && test ≡ either s t && int_lt v (pos 0)
        by true true i j = refl
        by false false i j = refl
        by true false i j =
            let lo = le_of (a.y *ℤ p.d) p.y i in
            let hi = gt_of (b.y *ℤ p.d) p.y j in
            let up = less_back a.y b.y p.d d0 (omega (arith, ints, lo, hi)) in
            let m = scale_strictly yb (pos 0) (off u v xa ya) ha (omega (arith, ints, hi)) in
            let n = scale (pos 0) ya (off u v xb yb) (omega (arith, ints, hb)) (omega (arith, ints, lo)) in
            ap (λ k. if k then int_lt (across (edge a b) p) (along (edge a b) p) else int_lt (along (edge a b) p) (across (edge a b) p)) (rising (edge a b) up)
            ∙ lower_as (across (edge a b) p) (along (edge a b) p) v p.d d0 (omega (arith, ints, m, n, turn_v))
        by false true i j =
            let hi = gt_of (a.y *ℤ p.d) p.y i in
            let lo = le_of (b.y *ℤ p.d) p.y j in
            let down = less_back b.y a.y p.d d0 (omega (arith, ints, lo, hi)) in
            let m = scale_strictly ya (pos 0) (off u v xb yb) hb (omega (arith, ints, hi)) in
            let n = scale (pos 0) yb (off u v xa ya) (omega (arith, ints, ha)) (omega (arith, ints, lo)) in
            let w : ((along (edge a b) p -ℤ across (edge a b) p) *ℤ v) *ℤ p.d ≡ pos 0 -ℤ ((across (edge a b) p -ℤ along (edge a b) p) *ℤ v) *ℤ p.d = back (across (edge a b) p) (along (edge a b) p) v p.d in
            ap (λ k. if k then int_lt (across (edge a b) p) (along (edge a b) p) else int_lt (along (edge a b) p) (across (edge a b) p)) (not_rising (edge a b) (omega (arith, ints, down)))
            ∙ lower_as (along (edge a b) p) (across (edge a b) p) v p.d d0 (omega (arith, ints, m, n, turn_v, w))

  pub quiet : (a b c : Corner) → IsBeside a → IsBeside b → IsBeside c → Quiet a b c p
  quiet a b c ha hb hc = record {
    on_ab = off_edge a b ha hb;
    on_bc = off_edge b c hb hc;
    on_ac = off_edge a c ha hc;
    still = crossed_is c c hc hc ∙ same_not (is_not_above c p) (int_lt v (pos 0));
    through = crossed_is a c ha hc
        ∙ chain (is_not_above a p) (is_not_above b p) (is_not_above c p) (int_lt v (pos 0))
        ∙ (λ i. either (sym (crossed_is a b ha hb) i) (sym (crossed_is b c hb hc) i));
  }
