use Rattle.std.proofs.Common.{arith, ◌-ℤ◌, ◌*ℤ◌, ℤ, pos, ◌≡◌, sym, ◌∙◌, ap, IsTrue, Bool, ◌↔◌}
use Rattle.std.proofs.lemmas.Int.{ints}
use Rattle.std.proofs.lemmas.Bool.{false≢true}
use Rattle.legs.specs.Legs.{LegView}
use Rattle.legs.specs.Boxes.{RectView}
use Rattle.clipping.specs.Line.{IsAcross}
use Rattle.clipping.proofs.Cuts.{across_same}
use Rattle.clipping.proofs.InsideLemmas.{inside_across}
use Rattle.clipping.proofs.inside.inside_at.Goals as goal

-- at a whole millisecond
part_is : (n t0 : ℤ) → n -ℤ t0 ≡ n -ℤ t0 *ℤ pos 1
part_is n t0 = omega (arith, ints)

whole_is : (w : ℤ) → w ≡ pos 1 *ℤ w
whole_is w = omega (arith, ints)

-- a test of the numbers that the code has, as one of the leg's
told : (b : Bool) (x y least most s d x' y' least' most' n t0 w : ℤ) → x ≡ x' → y ≡ y' → least ≡ least' → most ≡ most' → s ≡ n -ℤ t0 → d ≡ w → IsTrue b ↔ IsAcross x y least most s d
    → IsTrue b ↔ IsAcross x' y' least' most' (n -ℤ t0 *ℤ pos 1) (pos 1 *ℤ w)
told b x y least most s d x' y' least' most' n t0 w e f g h i j t = (
  λ yes. across_same x y least most s d x' y' least' most' _ _ e f g h (i ∙ part_is n t0) (j ∙ whole_is w) (t.0 yes),
  λ a. t.1 (across_same x' y' least' most' _ _ x y least most s d (sym e) (sym f) (sym g) (sym h) (sym (i ∙ part_is n t0)) (sym (j ∙ whole_is w)) a),
)

pub returns-then-is_across : goal.returns-then-is_across
returns-then-is_across c =
    let l = c.args.leg.now in
    let r = c.args.rect.now in
    let v = c.leg.view_is in
    let u = c.rect.view_is in
    let x0 : c.units-x0.result ≡ l.x0 = c.units-x0.ensures.value ∙ ap (λ (l : LegView). l.x0) v in
    let x1 : c.units-x1.result ≡ l.x1 = c.units-x1.ensures.value ∙ ap (λ (l : LegView). l.x1) v in
    let y0 : c.units-y0.result ≡ l.y0 = c.units-y0.ensures.value ∙ ap (λ (l : LegView). l.y0) v in
    let y1 : c.units-y1.result ≡ l.y1 = c.units-y1.ensures.value ∙ ap (λ (l : LegView). l.y1) v in
    let x_min : c.units.result ≡ r.x_min = c.units.ensures.value ∙ ap (λ (r : RectView). r.x_min) u in
    let x_max : c.units-2.result ≡ r.x_max = c.units-2.ensures.value ∙ ap (λ (r : RectView). r.x_max) u in
    let y_min : c.units-then-is_across.result ≡ r.y_min = c.units-then-is_across.ensures.value ∙ ap (λ (r : RectView). r.y_min) u in
    let y_max : c.units-then-is_across-2.result ≡ r.y_max = c.units-then-is_across-2.ensures.value ∙ ap (λ (r : RectView). r.y_max) u in
    let t : c.millis.result ≡ c.args.at = c.millis.ensures.value in
    let t0 : c.millis-2.result ≡ l.t0 = c.millis-2.ensures.value ∙ ap (λ (l : LegView). l.t0) v in
    let end : c.millis-3.result ≡ l.t1 = c.millis-3.ensures.value ∙ ap (λ (l : LegView). l.t1) v in
    let start : c.millis-4.result ≡ l.t0 = c.millis-4.ensures.value ∙ ap (λ (l : LegView). l.t0) v in
    let first = told c.is_across.result _ _ _ _ _ _ l.x0 l.x1 r.x_min r.x_max c.args.at l.t0 (l.t1 -ℤ l.t0)
    (omega (arith, ints)) (omega (arith, ints)) (omega (arith, ints)) (omega (arith, ints)) (omega (arith, ints)) (omega (arith, ints)) c.is_across.ensures in
    let second = told c.is_across-then-is_across.result _ _ _ _ _ _ l.y0 l.y1 r.y_min r.y_max c.args.at l.t0 (l.t1 -ℤ l.t0)
    (omega (arith, ints)) (omega (arith, ints)) (omega (arith, ints)) (omega (arith, ints)) (omega (arith, ints)) (omega (arith, ints)) c.is_across-then-is_across.ensures in
    let both = inside_across l r c.args.at 1 in
    let one = first.0 c.if-is_across.true in
    (λ yes. both.1 (one, second.0 yes), λ inside. second.1 (both.0 inside).1)

pub returns-else-is_across : goal.returns-else-is_across
returns-else-is_across c =
    let l = c.args.leg.now in
    let r = c.args.rect.now in
    let v = c.leg.view_is in
    let u = c.rect.view_is in
    let x0 : c.units-x0.result ≡ l.x0 = c.units-x0.ensures.value ∙ ap (λ (l : LegView). l.x0) v in
    let x1 : c.units-x1.result ≡ l.x1 = c.units-x1.ensures.value ∙ ap (λ (l : LegView). l.x1) v in
    let x_min : c.units.result ≡ r.x_min = c.units.ensures.value ∙ ap (λ (r : RectView). r.x_min) u in
    let x_max : c.units-2.result ≡ r.x_max = c.units-2.ensures.value ∙ ap (λ (r : RectView). r.x_max) u in
    let t : c.millis.result ≡ c.args.at = c.millis.ensures.value in
    let t0 : c.millis-2.result ≡ l.t0 = c.millis-2.ensures.value ∙ ap (λ (l : LegView). l.t0) v in
    let end : c.millis-3.result ≡ l.t1 = c.millis-3.ensures.value ∙ ap (λ (l : LegView). l.t1) v in
    let start : c.millis-4.result ≡ l.t0 = c.millis-4.ensures.value ∙ ap (λ (l : LegView). l.t0) v in
    let first = told c.is_across.result _ _ _ _ _ _ l.x0 l.x1 r.x_min r.x_max c.args.at l.t0 (l.t1 -ℤ l.t0)
    (omega (arith, ints)) (omega (arith, ints)) (omega (arith, ints)) (omega (arith, ints)) (omega (arith, ints)) (omega (arith, ints)) c.is_across.ensures in
    let both = inside_across l r c.args.at 1 in
    let no = c.if-is_across.false in
    (λ yes. absurd (false≢true (sym no ∙ yes)), λ inside. first.1 (both.0 inside).0)
