use Rattle.std.proofs.Common.{◌≡◌, ◌∙◌, arith, ap}
use Rattle.std.proofs.lemmas.Int.{ints}
use Rattle.zones.proofs.EdgeLemmas.{even_same}
use Rattle.zones.specs.Places.{Corner, CourseView}
use Rattle.zones.proofs.edges.upwards.Goals as goal

pub returns : goal.returns
returns c =
    let l = c.args.course.now in
    let k = c.args.corner.now in
    let mark : c.corner.inside.y ≡ k.y = ap (λ (p : Corner). p.y) c.corner.view_is in
    let start : c.course.inside.y0 ≡ l.y0 = ap (λ (p : CourseView). p.y0) c.course.view_is in
    let end : c.course.inside.y1 ≡ l.y1 = ap (λ (p : CourseView). p.y1) c.course.view_is in
    c.against.ensures ∙ even_same _ _ _ l.y0 l.y1 k.y c.args.at.num c.args.at.den (omega (arith, ints)) (omega (arith, ints)) (omega (arith, ints))
