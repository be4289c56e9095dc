use Rattle.std.proofs.Common.{◌≡◌, drop}
use Rattle.tbtree.specs.Payloads.{goes_on}
use Rattle.tbtree.proofs.payloads.goes_on.Given as goal

-- what is left says what all say
abbrev pub invariant-loop-leg : goal.invariant-loop-leg
invariant-loop-leg l = goes_on l.fn.feature l.last (drop l.leg-index l.legs) ≡ goes_on l.fn.feature l.fn.ordinal l.legs
