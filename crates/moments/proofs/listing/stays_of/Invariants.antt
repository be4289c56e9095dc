use Rattle.std.proofs.Common.{drop}
use Rattle.moments.proofs.ListLemmas.{IsStaying}
use Rattle.moments.proofs.listing.stays_of.Given as goal

-- the stays so far
abbrev pub invariant-loop-leg : goal.invariant-loop-leg
invariant-loop-leg l = IsStaying l.rect l.period l.legs (drop l.leg-index l.legs) l.stays.items
