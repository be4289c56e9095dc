use Rattle.std.proofs.Common.{◌+◌, ◌-◌, length, map}
use Rattle.boxsearch.specs.Known.{Widens}
use Rattle.boxsearch.proofs.known.make_room.Given as goal

abbrev pub decreases-room : goal.decreases-room
decreases-room l = l.feature + 1 - length l.known.items

abbrev pub invariant-room : goal.invariant-room
invariant-room l = Widens (map (λ spans. spans.items) l.fn.known.items) (map (λ spans. spans.items) l.known.items)
