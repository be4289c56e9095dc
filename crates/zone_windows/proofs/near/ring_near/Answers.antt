use Rattle.std.proofs.Common.{◌≡◌, ◌++◌, ◌-◌, ◌<◌, suc, List, length, arith, ap, sym, ◌∙◌, nat_eq, false}
use Rattle.std.proofs.lemmas.Bool.Decides.{nat_tests}
use Rattle.zones.specs.Places.{Corner}
use Rattle.zone_windows.specs.Near.{near_after, near_ring}
use Rattle.zone_windows.proofs.NearLemmas.{near_from_last}
use Rattle.zone_windows.proofs.near.ring_near.Goals as goal

pub corners-init : goal.corners-init
corners-init c =
    let cs : List Corner = c.corners-corners.result.now in
    let none : nat_eq (length cs) 0 ≡ false = sym c.is_empty.ensures ∙ c.if-is_empty.false in
    let some : 0 < length cs = grind (arith, nat_tests) in
    let h : suc (length cs - 1) ≡ length cs = omega arith in
    let x : Corner = c.index-corners-corners.result in
    ap (λ (near : List Corner). near ++ near_after c.args.window c.args.course.now x cs) c.new-near.ensures.items
    ∙ ap (λ (from : Corner). near_after c.args.window c.args.course.now from cs) c.index-corners-corners.is
    ∙ near_from_last c.args.window c.args.course.now x cs (length cs - 1) h
    ∙ ap (near_ring c.args.window c.args.course.now) c.corners-corners.ensures
