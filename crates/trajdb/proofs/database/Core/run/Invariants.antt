use Rattle.std.proofs.Common.{◌≡◌, ℕ, length, false}
use Rattle.trajdb.specs.Promises.{DoesLine}
use Rattle.trajdb.specs.Script.{lines_of}
use Rattle.trajdb.proofs.StepLemmas.{IsTracedAt}
use Rattle.trajdb.proofs.database.Core.run.Given as goal

-- the database was not failed, the output refused nothing, and some lines are done and the others left
abbrev pub invariant-loop-rest : goal.invariant-loop-rest
invariant-loop-rest g l = record {
  lives : l.initial.self.failed ≡ false;
  refuses_none : (g.O.Output.seen l.out).refusals ≡ (g.O.Output.seen l.initial.out).refusals;
  traced : (k : ℕ)
      × IsTracedAt (DoesLine g.I.Listed l.files) (g.O.Output.seen l.initial.out).contents (g.O.Output.seen l.out).contents l.initial.self l.self (lines_of l.script) l.rest k;
}

abbrev pub decreases-loop-rest : goal.decreases-loop-rest
decreases-loop-rest g l = length l.rest
