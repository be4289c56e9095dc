use Rattle.std.proofs.Common.{ℕ, List, ◌+◌, ◌*◌, Bor, arith}
use Rattle.digests.proofs.BatchLemmas.{eight_more}
use Rattle.digests.specs.Pages.{digest_of}
use Rattle.digests.proofs.batches.digest_all.Goals as goal

pub eights-preserved : goal.eights-preserved
eights-preserved c = (
  c.put_eight.ensures.long,
  eight_more (λ (p : Bor (List ℕ)). digest_of p.now) c.args.pages.now (8 * c.eights.group) (8 * (c.eights.group + 1)) c.eights.out
      c.put_eight.new.out (omega arith) c.put_eight.ensures.written c.eights.invariant.1,
)
