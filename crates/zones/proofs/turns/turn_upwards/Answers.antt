use Rattle.std.proofs.Common.{◌≡◌, ◌∙◌, arith, false, ℤ, ◌-ℤ◌, ap, sym}
use Rattle.std.proofs.lemmas.Int.{ints}
use Rattle.zones.specs.Places.{Corner, CourseView, point_at}
use Rattle.zones.specs.Turns.{sign, at, is_opposite, height}
use Rattle.zones.proofs.Pieces.{height_at}
use Rattle.zones.proofs.turns.turn_upwards.Goals as goal

told : (l : CourseView) (k : Corner) (u m n1 d1 n2 d2 : ℤ) → u ≡ l.y0 -ℤ k.y → m ≡ l.y1 -ℤ l.y0 → is_opposite (sign (at u m n1 d1)) (sign (at u m n2 d2)) ≡ false
    → is_opposite (height k (point_at l n1 d1)) (height k (point_at l n2 d2)) ≡ false
told l k u m n1 d1 n2 d2 e f o =
    (λ i. is_opposite (height_at l k n1 d1 i) (height_at l k n2 d2 i))
    ∙ (λ i. is_opposite (sign (at (sym e i) (sym f i) n1 d1)) (sign (at (sym e i) (sym f i) n2 d2))) ∙ o

pub returns-clause-calm : goal.returns-clause-calm
returns-clause-calm c =
    let l = c.args.course.now in
    let k = c.args.corner.now in
    let mark : c.corner.inside.y ≡ k.y = ap (λ (p : Corner). p.y) c.corner.view_is in
    let start : c.course.inside.y0 ≡ l.y0 = ap (λ (p : CourseView). p.y0) c.course.view_is in
    let end : c.course.inside.y1 ≡ l.y1 = ap (λ (p : CourseView). p.y1) c.course.view_is in
    told l k _ _ c.args.first.num c.args.first.den c.turn.result.num c.turn.result.den (omega (arith, ints)) (omega (arith, ints)) c.turn.ensures.calm
