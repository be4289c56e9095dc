use Rattle.std.proofs.Common.{◌≡◌, ◌++◌, length}
use Rattle.zone_windows.specs.Near.{near_after, near_ring}
use Rattle.zone_windows.proofs.near.ring_near.Given as goal

-- what stayed so far and what stays of what is left are what stays of all
abbrev pub invariant-corners : goal.invariant-corners
invariant-corners l = l.near.items ++ near_after l.window l.course l.before l.left ≡ near_ring l.window l.course l.ring

abbrev pub decreases-corners : goal.decreases-corners
decreases-corners l = length l.left
