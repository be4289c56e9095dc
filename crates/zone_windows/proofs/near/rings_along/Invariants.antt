use Rattle.std.proofs.Common.{◌≡◌, ◌++◌, drop}
use Rattle.zone_windows.specs.Near.{near_rings}
use Rattle.zone_windows.proofs.near.rings_along.Given as goal

-- what stayed so far and what stays of what is left are what stays of all
abbrev pub invariant-loop-ring : goal.invariant-loop-ring
invariant-loop-ring l = l.near.items ++ near_rings l.window l.course (drop l.ring-index l.rings) ≡ near_rings l.window l.course l.rings
