use Rattle.std.proofs.Common.{◌≡◌, ◌∙◌, ◌&&◌, true, false, if◌then◌else◌, sym, int_lt, refl}
use Rattle.std.specs.Ordering.{int_cmp, is_ge, is_lt, is_gt}
use Rattle.zones.proofs.EdgeLemmas.{crossed_from}
use Rattle.zones.specs.Places.{Edge, Point, point_at}
use Rattle.zones.specs.Edges.{either, across, along}
use Rattle.zones.proofs.edges.is_crossed.Goals as goal

pub returns-then-not-either : goal.returns-then-not-either
returns-then-not-either c =
    let p : Point = point_at c.args.course.now c.args.at.num c.args.at.den in
    let e : Edge = record { from = c.args.from.now; to = c.args.to.now } in
    let no : false ≡ either (is_ge c.upwards.result) (is_ge c.upwards-2.result) = sym c.if-not-either.true ∙ c.either.ensures ∙ (λ i. either (c.is_ge-below.ensures i) (c.is_ge-other_below.ensures i)) in
    let s = int_cmp (across e p) (along e p) in
    (λ i. no i && (if int_lt e.from.y e.to.y then is_lt s else is_gt s))
    ∙ crossed_from e p c.upwards.result c.upwards-2.result s c.upwards.ensures c.upwards-2.ensures refl

pub returns-then-rises : goal.returns-then-rises
returns-then-rises c =
    let p : Point = point_at c.args.course.now c.args.at.num c.args.at.den in
    let e : Edge = record { from = c.args.from.now; to = c.args.to.now } in
    let yes : true ≡ either (is_ge c.upwards.result) (is_ge c.upwards-2.result) = sym c.if-not-either.false ∙ c.either.ensures ∙ (λ i. either (c.is_ge-below.ensures i) (c.is_ge-other_below.ensures i)) in
    let up : true ≡ int_lt e.from.y e.to.y = sym c.if-rises.true ∙ c.rises.ensures in
    c.is_lt.ensures ∙ (λ i. yes i && (if up i then is_lt c.side_of-side.result else is_gt c.side_of-side.result))
    ∙ crossed_from e p c.upwards.result c.upwards-2.result c.side_of-side.result c.upwards.ensures c.upwards-2.ensures c.side_of-side.ensures

pub returns-else-rises : goal.returns-else-rises
returns-else-rises c =
    let p : Point = point_at c.args.course.now c.args.at.num c.args.at.den in
    let e : Edge = record { from = c.args.from.now; to = c.args.to.now } in
    let yes : true ≡ either (is_ge c.upwards.result) (is_ge c.upwards-2.result) = sym c.if-not-either.false ∙ c.either.ensures ∙ (λ i. either (c.is_ge-below.ensures i) (c.is_ge-other_below.ensures i)) in
    let up : false ≡ int_lt e.from.y e.to.y = sym c.if-rises.false ∙ c.rises.ensures in
    c.is_gt.ensures ∙ (λ i. yes i && (if up i then is_lt c.side_of-side.result else is_gt c.side_of-side.result))
    ∙ crossed_from e p c.upwards.result c.upwards-2.result c.side_of-side.result c.upwards.ensures c.upwards-2.ensures c.side_of-side.ensures
