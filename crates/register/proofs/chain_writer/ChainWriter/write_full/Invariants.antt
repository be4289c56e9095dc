use Rattle.std.proofs.Common.{◌≡◌, ◌-◌, ◌≤◌, length}
use Rattle.register.proofs.WriterLemmas.{WritesParts}
use Rattle.register.proofs.chain_writer.ChainWriter.write_full.Given as goal

abbrev pub invariant-loop-done : goal.invariant-loop-done
invariant-loop-done g l = (l.done ≤ l.len) × (l.len ≡ length l.fn.self.text) × WritesParts l.fn.cache l.fn.self l.done l.cache l.self

abbrev pub decreases-loop-done : goal.decreases-loop-done
decreases-loop-done g l = l.len - l.done
