use Rattle.std.proofs.Common.{◌≡◌, ◌∙◌, ◌&&◌, true, false, ◌*ℤ◌, sym, refl}
use Rattle.std.specs.Ordering.{int_cmp, is_eq}
use Rattle.zones.proofs.EdgeLemmas.{on_edge_from}
use Rattle.zones.specs.Places.{Edge, Point, point_at}
use Rattle.zones.specs.Edges.{is_between_by}
use Rattle.zones.proofs.edges.is_on_edge.Goals as goal

pub returns-then-not-is_eq : goal.returns-then-not-is_eq
returns-then-not-is_eq c =
    let p : Point = point_at c.args.course.now c.args.at.num c.args.at.den in
    let e : Edge = record { from = c.args.from.now; to = c.args.to.now } in
    let no : false ≡ is_eq c.side_of.result = sym c.if-not-is_eq.true ∙ c.is_eq.ensures in
    let w1 = int_cmp p.x (e.from.x *ℤ p.d) in
    let w2 = int_cmp p.x (e.to.x *ℤ p.d) in
    let h1 = int_cmp p.y (e.from.y *ℤ p.d) in
    let h2 = int_cmp p.y (e.to.y *ℤ p.d) in
    (λ i. no i && is_between_by w1 w2 && is_between_by h1 h2)
    ∙ on_edge_from e p c.side_of.result w1 w2 h1 h2 c.side_of.ensures refl refl refl refl

pub returns-then-not-is_between : goal.returns-then-not-is_between
returns-then-not-is_between c =
    let p : Point = point_at c.args.course.now c.args.at.num c.args.at.den in
    let e : Edge = record { from = c.args.from.now; to = c.args.to.now } in
    let yes : true ≡ is_eq c.side_of.result = sym c.if-not-is_eq.false ∙ c.is_eq.ensures in
    let no : false ≡ is_between_by c.sideways-left.result c.sideways-right.result = sym c.if-not-is_between.true ∙ c.is_between.ensures in
    let h1 = int_cmp p.y (e.from.y *ℤ p.d) in
    let h2 = int_cmp p.y (e.to.y *ℤ p.d) in
    (λ i. yes i && no i && is_between_by h1 h2)
    ∙ on_edge_from e p c.side_of.result c.sideways-left.result c.sideways-right.result h1 h2 c.side_of.ensures c.sideways-left.ensures c.sideways-right.ensures refl refl

pub returns : goal.returns
returns c =
    let p : Point = point_at c.args.course.now c.args.at.num c.args.at.den in
    let e : Edge = record { from = c.args.from.now; to = c.args.to.now } in
    let yes : true ≡ is_eq c.side_of.result = sym c.if-not-is_eq.false ∙ c.is_eq.ensures in
    let one : true ≡ is_between_by c.sideways-left.result c.sideways-right.result = sym c.if-not-is_between.false ∙ c.is_between.ensures in
    c.is_between-2.ensures ∙ (λ i. yes i && one i && is_between_by c.upwards-below.result c.upwards-above.result)
    ∙ on_edge_from e p c.side_of.result c.sideways-left.result c.sideways-right.result c.upwards-below.result c.upwards-above.result c.side_of.ensures c.sideways-left.ensures c.sideways-right.ensures c.upwards-below.ensures c.upwards-above.ensures
