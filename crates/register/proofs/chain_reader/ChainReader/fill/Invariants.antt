use Rattle.std.proofs.Common.{ℕ, ◌≡◌, Option}
use Rattle.pages.specs.declared.payload.Payload.{Payload}
use Rattle.chains.specs.Reads.{OnlyReads}
use Rattle.register.specs.ChainReader.{rest_of, Shows}
use Rattle.register.proofs.chain_reader.ChainReader.fill.Given as goal

abbrev pub invariant-loop-self : goal.invariant-loop-self
invariant-loop-self g l = record {
  reads : OnlyReads l.initial.cache l.cache;
  same : (at : ℕ → Option Payload) → Shows l.initial.cache at → rest_of at l.self ≡ rest_of at l.initial.self;
}

abbrev pub decreases-loop-self : goal.decreases-loop-self
decreases-loop-self g l = l.self.left
