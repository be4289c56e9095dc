use Rattle.std.proofs.Common.{◌≡◌, ◌++◌, ◌∙◌, List, [], arith, subst, sym}
use Rattle.std.proofs.lemmas.List.{append-nil, drop_all}
use Rattle.zones.specs.Places.{Corner}
use Rattle.zone_windows.specs.Near.{near_rings}
use Rattle.zone_windows.proofs.NearLemmas.{agree_if}
use Rattle.zone_windows.proofs.near.rings_along.Goals as goal

pub returns : goal.returns
returns c =
    let over = c.loop-ring-test.false in
    let near = c.loop-ring.near.items in
    let rings = c.args.rings.now in
    let window = c.args.window in
    let course = c.args.course.now in
    let end : near ++ near_rings window course [] ≡ near_rings window course rings =
    subst (λ (l : List (List Corner)). near ++ near_rings window course l ≡ near_rings window course rings) (drop_all c.loop-ring.ring-index rings (omega (arith, over))) c.loop-ring.invariant in
    agree_if window course near rings (sym (append-nil near) ∙ end)
