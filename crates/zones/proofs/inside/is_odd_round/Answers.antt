use Rattle.std.proofs.Common.{◌≡◌, ◌-◌, ◌<◌, suc, List, length, arith, ap, sym, ◌∙◌, nat_eq, false}
use Rattle.std.proofs.lemmas.Bool.Decides.{nat_tests}
use Rattle.zones.proofs.ZoneLemmas.{edges_from_last}
use Rattle.zones.specs.Places.{Corner, Edge, Point, point_at}
use Rattle.zones.specs.Zones.{edges, edges_after, is_odd}
use Rattle.zones.proofs.inside.is_odd_round.Goals as goal

pub loop-to-init : goal.loop-to-init
loop-to-init c =
    let p : Point = point_at c.args.course.now c.args.at.num c.args.at.den in
    let cs : List Corner = c.corners-corners.result.now in
    let none : nat_eq (length cs) 0 ≡ false = sym c.is_empty.ensures ∙ c.if-is_empty.false in
    let some : 0 < length cs = grind (arith, nat_tests) in
    let h : suc (length cs - 1) ≡ length cs = omega arith in
    let x : Corner = c.index-corners-corners.result in
    ap (λ (es : List Edge). is_odd es p) (ap (λ (from : Corner). edges_after from cs) c.index-corners-corners.is ∙ edges_from_last x cs (length cs - 1) h ∙ ap edges c.corners-corners.ensures)
