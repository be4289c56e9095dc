use Rattle.std.proofs.Common.{drop}
use Rattle.trajdb.specs.Answers.{HoldsOfLeg}
use Rattle.trajdb.proofs.PickLemmas.{IsPicking}
use Rattle.trajdb.proofs.questions.holding.Given as goal

-- what is picked so far
abbrev pub invariant-loop-leg : goal.invariant-loop-leg
invariant-loop-leg l = IsPicking (HoldsOfLeg l.predicate l.rect l.period) l.legs (drop l.leg-index l.legs) l.picked.items
