use Rattle.std.proofs.Common.{◌≡◌, ◌∙◌, arith, ℤ, pos, ◌+ℤ◌, ◌-ℤ◌, ◌*ℤ◌, ap, SFits, to_z-of_z, to_z, of_z}
use mir.Syntax.{w128}
use Rattle.std.specs.Ordering.{int_cmp}
use Rattle.std.proofs.lemmas.Int.{ints}
use Rattle.zones.proofs.Products.{linear}
use Rattle.zones.proofs.EdgeLemmas.{order_same}
use Rattle.zones.specs.Places.{Corner, CourseView, point_at}
use Rattle.zones.specs.Edges.{across, along}
use Rattle.zones.proofs.edges.side_of.Goals as goal

told : (from to : Corner) (l : CourseView) (n d u m : ℤ)
    → u ≡ (l.x0 -ℤ from.x) *ℤ (to.y -ℤ from.y) -ℤ (l.y0 -ℤ from.y) *ℤ (to.x -ℤ from.x)
    → m ≡ (l.x1 -ℤ l.x0) *ℤ (to.y -ℤ from.y) -ℤ (l.y1 -ℤ l.y0) *ℤ (to.x -ℤ from.x)
    → int_cmp (u *ℤ d +ℤ m *ℤ n) (pos 0) ≡ int_cmp (across (record { from = from; to = to }) (point_at l n d)) (along (record { from = from; to = to }) (point_at l n d))
told from to l n d u m x y =
    let rise : ℤ = to.y -ℤ from.y in
    let run : ℤ = to.x -ℤ from.x in
    let a : u *ℤ d ≡ ((l.x0 -ℤ from.x) *ℤ (to.y -ℤ from.y) -ℤ (l.y0 -ℤ from.y) *ℤ (to.x -ℤ from.x)) *ℤ d = ap (λ v. v *ℤ d) x in
    let b : m *ℤ n ≡ ((l.x1 -ℤ l.x0) *ℤ (to.y -ℤ from.y) -ℤ (l.y1 -ℤ l.y0) *ℤ (to.x -ℤ from.x)) *ℤ n = ap (λ v. v *ℤ n) y in
    let k = linear l.x0 (l.x1 -ℤ l.x0) from.x l.y0 (l.y1 -ℤ l.y0) from.y (to.y -ℤ from.y) (to.x -ℤ from.x) n d in
    order_same (u *ℤ d +ℤ m *ℤ n) (pos 0) (across (record { from = from; to = to }) (point_at l n d)) (along (record { from = from; to = to }) (point_at l n d)) (omega (arith, ints, a, b, k))

pub returns : goal.returns
returns c =
    let f : SFits w128 c.start_of.result = omega (arith, ints, c.start_of.ensures.small) in
    let g : SFits w128 c.slope_of.result = omega (arith, ints, c.slope_of.ensures.small) in
    c.sign_at.ensures ∙ told c.args.from.now c.args.to.now c.args.course.now c.args.at.num c.args.at.den (to_z w128 (of_z w128 c.start_of.result)) (to_z w128 (of_z w128 c.slope_of.result)) (to_z-of_z f ∙ c.start_of.ensures.value) (to_z-of_z g ∙ c.slope_of.ensures.value)
