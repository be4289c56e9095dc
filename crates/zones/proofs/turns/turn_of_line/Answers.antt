use Rattle.std.proofs.Common.{◌≡◌, ◌∙◌, arith, false, sym, SFits, to_z-of_z}
use mir.Syntax.{w128}
use Rattle.std.proofs.lemmas.Int.{ints}
use Rattle.zones.specs.Places.{Edge, CourseView}
use Rattle.zones.specs.Turns.{sign, at, is_opposite}
use Rattle.zones.proofs.Pieces.{side_at}
use Rattle.zones.proofs.turns.turn_of_line.Goals as goal

pub returns-clause-calm : goal.returns-clause-calm
returns-clause-calm c =
    let l : CourseView = c.args.course.now in
    let e : Edge = record { from = c.args.from.now; to = c.args.to.now } in
    let f : SFits w128 c.start_of.result = omega (arith, ints, c.start_of.ensures.small) in
    let g : SFits w128 c.slope_of.result = omega (arith, ints, c.slope_of.ensures.small) in
    let calm : is_opposite (sign (at c.start_of.result c.slope_of.result c.args.first.num c.args.first.den)) (sign (at c.start_of.result c.slope_of.result c.turn.result.num c.turn.result.den)) ≡ false = simp to_z-of_z at c.turn.ensures.calm in
    (λ i. is_opposite (side_at l e c.args.first.num c.args.first.den i) (side_at l e c.turn.result.num c.turn.result.den i))
    ∙ (λ i. is_opposite (sign (at (sym c.start_of.ensures.value i) (sym c.slope_of.ensures.value i) c.args.first.num c.args.first.den)) (sign (at (sym c.start_of.ensures.value i) (sym c.slope_of.ensures.value i) c.turn.result.num c.turn.result.den)))
    ∙ calm
