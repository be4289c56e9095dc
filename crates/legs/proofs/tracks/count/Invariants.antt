use Rattle.std.proofs.Common.{◌≡◌, take, fold}
use Rattle.legs.specs.Counting.{counted}
use Rattle.legs.proofs.tracks.count.Given as goal

abbrev pub invariant-loop-leg : goal.invariant-loop-leg
invariant-loop-leg l = l.tracks ≡ fold counted l.initial.tracks (take l.leg-index l.legs)
