use Rattle.std.proofs.Common.{◌≡◌, map, take, All}
use Rattle.legs.specs.Law.{IsThere}
use Rattle.trajdb.specs.Answers.{named_leg_of}
use Rattle.trajdb.proofs.database.Core.entries.Given as goal

-- the entries so far, each of a leg of which there is the name and the row
abbrev pub invariant-loop-leg : goal.invariant-loop-leg
invariant-loop-leg g l = record {
  entries : l.entries.items ≡ map (named_leg_of l.self.book) (take l.leg-index l.legs);
  there : All (IsThere l.self.book) (take l.leg-index l.legs);
}
