use Rattle.std.proofs.Common.{ℕ, ◌≡◌, Option}
use Rattle.pages.specs.Store.{Stays}
use Rattle.pages.specs.declared.payload.Payload.{Payload}
use Rattle.register.specs.ChainReader.{rest_of}
use Rattle.version1.specs.OldStore.{ShowsStored}
use Rattle.version1.proofs.lent_store.fill_lent.Given as goal

abbrev pub invariant-loop-store : goal.invariant-loop-store
invariant-loop-store g l = record {
  stays : Stays (g.S.PageStore.seen l.initial.store) (g.S.PageStore.seen l.store);
  same : (at : ℕ → Option Payload) → ShowsStored (g.S.PageStore.seen l.initial.store) at → rest_of at l.reader ≡ rest_of at l.initial.reader;
}

abbrev pub decreases-loop-store : goal.decreases-loop-store
decreases-loop-store g l = l.reader.left
