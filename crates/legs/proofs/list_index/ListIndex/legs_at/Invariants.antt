use Rattle.std.proofs.Common.{◌≡◌, take}
use Rattle.legs.specs.Places.{legs_at}
use Rattle.legs.proofs.list_index.ListIndex.legs_at.Given as goal

abbrev pub invariant-loop-place : goal.invariant-loop-place
invariant-loop-place l = l.legs.items ≡ legs_at l.self.legs (take l.place-index l.places)
