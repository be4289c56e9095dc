use Rattle.std.proofs.Common.{◌≡◌, ◌∙◌, arith, ap}
use Rattle.std.proofs.lemmas.Int.{ints}
use Rattle.zones.proofs.EdgeLemmas.{even_same}
use Rattle.zones.specs.Places.{Corner, CourseView}
use Rattle.zones.proofs.edges.sideways.Goals as goal

pub returns : goal.returns
returns c =
    let l = c.args.course.now in
    let k = c.args.corner.now in
    let mark : c.corner.inside.x ≡ k.x = ap (λ (p : Corner). p.x) c.corner.view_is in
    let start : c.course.inside.x0 ≡ l.x0 = ap (λ (p : CourseView). p.x0) c.course.view_is in
    let end : c.course.inside.x1 ≡ l.x1 = ap (λ (p : CourseView). p.x1) c.course.view_is in
    c.against.ensures ∙ even_same _ _ _ l.x0 l.x1 k.x c.args.at.num c.args.at.den (omega (arith, ints)) (omega (arith, ints)) (omega (arith, ints))
