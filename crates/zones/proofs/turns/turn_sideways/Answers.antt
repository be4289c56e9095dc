use Rattle.std.proofs.Common.{◌≡◌, ◌∙◌, arith, false, ℤ, ◌-ℤ◌, ap, sym}
use Rattle.std.proofs.lemmas.Int.{ints}
use Rattle.zones.specs.Places.{Corner, CourseView, point_at}
use Rattle.zones.specs.Turns.{sign, at, is_opposite, width}
use Rattle.zones.proofs.Pieces.{width_at}
use Rattle.zones.proofs.turns.turn_sideways.Goals as goal

told : (l : CourseView) (k : Corner) (u m n1 d1 n2 d2 : ℤ) → u ≡ l.x0 -ℤ k.x → m ≡ l.x1 -ℤ l.x0 → is_opposite (sign (at u m n1 d1)) (sign (at u m n2 d2)) ≡ false
    → is_opposite (width k (point_at l n1 d1)) (width k (point_at l n2 d2)) ≡ false
told l k u m n1 d1 n2 d2 e f o =
    (λ i. is_opposite (width_at l k n1 d1 i) (width_at l k n2 d2 i))
    ∙ (λ i. is_opposite (sign (at (sym e i) (sym f i) n1 d1)) (sign (at (sym e i) (sym f i) n2 d2))) ∙ o

pub returns-clause-calm : goal.returns-clause-calm
returns-clause-calm c =
    let l = c.args.course.now in
    let k = c.args.corner.now in
    let mark : c.corner.inside.x ≡ k.x = ap (λ (p : Corner). p.x) c.corner.view_is in
    let start : c.course.inside.x0 ≡ l.x0 = ap (λ (p : CourseView). p.x0) c.course.view_is in
    let end : c.course.inside.x1 ≡ l.x1 = ap (λ (p : CourseView). p.x1) c.course.view_is in
    told l k _ _ c.args.first.num c.args.first.den c.turn.result.num c.turn.result.den (omega (arith, ints)) (omega (arith, ints)) c.turn.ensures.calm
