-- Boxes, their bounds one by one.
use Rattle.std.proofs.Common.{◌≡◌, ◌∙◌, ap, sym, refl, Bool, true, false, ◌↔◌, IsTrue, ℤ, ◌≤ℤ◌, arith, to_z, of_z, w64}
use Rattle.std.proofs.lemmas.Int.{ints, clamps, to_z-of_z}
use Rattle.std.specs.Prelude.{◌&&◌, int_le, FitsSigned}
use Rattle.std.specs.Int.{int_max, int_min}
use Rattle.legs.specs.Boxes.{BoxView, IsBox, ShareAPoint, IsCover, boxes_meet, intervals_meet}

-- a box of these bounds
abbrev pub bounds : (x_min y_min t_min x_max y_max t_max : ℤ) → BoxView
bounds x_min y_min t_min x_max y_max t_max =
    record { x_min = x_min; y_min = y_min; t_min = t_min; x_max = x_max; y_max = y_max; t_max = t_max }

pub same_bounds : (a a' b b' c c' d d' e e' f f' : ℤ) → a ≡ a' → b ≡ b' → c ≡ c' → d ≡ d' → e ≡ e' → f ≡ f' → bounds a b c d e f ≡ bounds a' b' c' d' e' f'
same_bounds a a' b b' c c' d d' e e' f f' p q r s t u =
    ap (λ x. bounds x b c d e f) p ∙ ap (λ x. bounds a' x c d e f) q ∙ ap (λ x. bounds a' b' x d e f) r
    ∙ ap (λ x. bounds a' b' c' x e f) s ∙ ap (λ x. bounds a' b' c' d' x f) t ∙ ap (λ x. bounds a' b' c' d' e' x) u

-- the lesser and the greater of two numbers that the code holds in 64 bits
pub min_is : (r a b x y : ℤ) → FitsSigned w64 r → FitsSigned w64 a → FitsSigned w64 b → r ≡ int_min (to_z w64 (of_z w64 a)) (to_z w64 (of_z w64 b)) → a ≡ x → b ≡ y → to_z w64 (of_z w64 r) ≡ int_min x y
min_is r a b x y fr fa fb e p q =
    to_z-of_z w64 r fr ∙ e ∙ ap (λ z. int_min z (to_z w64 (of_z w64 b))) (to_z-of_z w64 a fa ∙ p) ∙ ap (int_min x) (to_z-of_z w64 b fb ∙ q)

pub max_is : (r a b x y : ℤ) → FitsSigned w64 r → FitsSigned w64 a → FitsSigned w64 b → r ≡ int_max (to_z w64 (of_z w64 a)) (to_z w64 (of_z w64 b)) → a ≡ x → b ≡ y → to_z w64 (of_z w64 r) ≡ int_max x y
max_is r a b x y fr fa fb e p q =
    to_z-of_z w64 r fr ∙ e ∙ ap (λ z. int_max z (to_z w64 (of_z w64 b))) (to_z-of_z w64 a fa ∙ p) ∙ ap (int_max x) (to_z-of_z w64 b fb ∙ q)

pub and_parts : (a b : Bool) → (a && b) ≡ true → (a ≡ true) × (b ≡ true)
and_parts true b e = (refl, e)
and_parts false b e = cc

pub and_true : (a b : Bool) → a ≡ true → b ≡ true → (a && b) ≡ true
and_true true b p q = q
and_true false b p q = cc

pub le_from : (x y : ℤ) → int_le x y ≡ true → x ≤ℤ y
le_from x y e = grind (arith, ints)

pub le_to : (x y : ℤ) → x ≤ℤ y → int_le x y ≡ true
le_to x y h = grind (arith, ints)

-- two intervals meet where they have a number in common
middle : (a b c d : ℤ) → a ≤ℤ b → c ≤ℤ d → intervals_meet a b c d ≡ true → (z : ℤ) × (a ≤ℤ z) × (z ≤ℤ b) × (c ≤ℤ z) × (z ≤ℤ d)
middle a b c d h k e =
    let p = and_parts (int_le a d) (int_le c b) e in
    let q : a ≤ℤ d = le_from a d p.0 in
    let r : c ≤ℤ b = le_from c b p.1 in
    (int_max a c, omega (arith, ints, clamps), omega (arith, ints, clamps), omega (arith, ints, clamps), omega (arith, ints, clamps))

meet_at : (a b c d z : ℤ) → a ≤ℤ z → z ≤ℤ b → c ≤ℤ z → z ≤ℤ d → intervals_meet a b c d ≡ true
meet_at a b c d z h k l m = and_true (int_le a d) (int_le c b) (le_to a d (omega (arith, ints))) (le_to c b (omega (arith, ints)))

point_in : (p q : BoxView) → IsBox p → IsBox q → boxes_meet p q ≡ true → ShareAPoint p q
point_in p q bp bq e =
    let l = and_parts (intervals_meet p.x_min p.x_max q.x_min q.x_max && intervals_meet p.y_min p.y_max q.y_min q.y_max) (intervals_meet p.t_min p.t_max q.t_min q.t_max) e in
    let k = and_parts (intervals_meet p.x_min p.x_max q.x_min q.x_max) (intervals_meet p.y_min p.y_max q.y_min q.y_max) l.0 in
    let x = middle p.x_min p.x_max q.x_min q.x_max bp.x bq.x k.0 in
    let y = middle p.y_min p.y_max q.y_min q.y_max bp.y bq.y k.1 in
    let t = middle p.t_min p.t_max q.t_min q.t_max bp.t bq.t l.1 in (
      x.0,
      y.0,
      t.0,
      record { left = x.1; right = x.2; bottom = y.1; top = y.2; first = t.1; last = t.2 },
      record { left = x.3; right = x.4; bottom = y.3; top = y.4; first = t.3; last = t.4 },
    )

meet_from_point : (p q : BoxView) → ShareAPoint p q → boxes_meet p q ≡ true
meet_from_point p q s =
    and_true _ _
    (and_true _ _ (meet_at p.x_min p.x_max q.x_min q.x_max s.0 s.3.left s.3.right s.4.left s.4.right) (meet_at p.y_min p.y_max q.y_min q.y_max s.1 s.3.bottom s.3.top s.4.bottom s.4.top))
    (meet_at p.t_min p.t_max q.t_min q.t_max s.2 s.3.first s.3.last s.4.first s.4.last)

pub meets_in_a_point : (p q : BoxView) (r : Bool) → IsBox p → IsBox q → r ≡ boxes_meet p q → IsTrue r ↔ ShareAPoint p q
meets_in_a_point p q r bp bq e = (λ t. point_in p q bp bq (sym e ∙ t), λ s. e ∙ meet_from_point p q s)

-- the box of the lesser and the greater bounds is the least that holds both
pub covers : (p q : BoxView) → IsCover (bounds (int_min p.x_min q.x_min) (int_min p.y_min q.y_min) (int_min p.t_min q.t_min) (int_max p.x_max q.x_max) (int_max p.y_max q.y_max) (int_max p.t_max q.t_max)) p q
covers p q = record {
  one = record {
    left = omega (arith, ints, clamps);
    right = omega (arith, ints, clamps);
    bottom = omega (arith, ints, clamps);
    top = omega (arith, ints, clamps);
    first = omega (arith, ints, clamps);
    last = omega (arith, ints, clamps);
  };
  other = record {
    left = omega (arith, ints, clamps);
    right = omega (arith, ints, clamps);
    bottom = omega (arith, ints, clamps);
    top = omega (arith, ints, clamps);
    first = omega (arith, ints, clamps);
    last = omega (arith, ints, clamps);
  };
  least = λ b h k. record {
    left = omega (arith, ints, clamps, h.left, k.left);
    right = omega (arith, ints, clamps, h.right, k.right);
    bottom = omega (arith, ints, clamps, h.bottom, k.bottom);
    top = omega (arith, ints, clamps, h.top, k.top);
    first = omega (arith, ints, clamps, h.first, k.first);
    last = omega (arith, ints, clamps, h.last, k.last);
  };
}

pub cover_is : (cover p q : BoxView) → cover ≡ bounds (int_min p.x_min q.x_min) (int_min p.y_min q.y_min) (int_min p.t_min q.t_min) (int_max p.x_max q.x_max) (int_max p.y_max q.y_max) (int_max p.t_max q.t_max) → IsCover cover p q
cover_is cover p q e = rw e (covers p q)

-- what `&&` answers where its left side holds
pub and_is : (p q r s : Bool) → s ≡ p → s ≡ true → r ≡ q → r ≡ (p && q)
and_is p q r s e t f = f ∙ ap (λ b. b && q) (sym (sym e ∙ t))

-- a test of intervals whose bounds the code holds in 64 bits
pub intervals_at : (r : Bool) (a b c d : ℤ) → FitsSigned w64 a → FitsSigned w64 b → FitsSigned w64 c → FitsSigned w64 d → r ≡ intervals_meet (to_z w64 (of_z w64 a)) (to_z w64 (of_z w64 b)) (to_z w64 (of_z w64 c)) (to_z w64 (of_z w64 d)) → r ≡ intervals_meet a b c d
intervals_at r a b c d fa fb fc fd e =
    e ∙ ap (λ z. intervals_meet z (to_z w64 (of_z w64 b)) (to_z w64 (of_z w64 c)) (to_z w64 (of_z w64 d))) (to_z-of_z w64 a fa)
    ∙ ap (λ z. intervals_meet a z (to_z w64 (of_z w64 c)) (to_z w64 (of_z w64 d))) (to_z-of_z w64 b fb)
    ∙ ap (λ z. intervals_meet a b z (to_z w64 (of_z w64 d))) (to_z-of_z w64 c fc) ∙ ap (intervals_meet a b c) (to_z-of_z w64 d fd)
