use Rattle.std.proofs.Common.{arith, ap, ◌*◌}
use Rattle.pages.proofs.ByteLemmas.{known-read}
use Rattle.pages.proofs.file_store.FileStorePageStore.read.Goals as goal

pub returns-in-Ok-clause-read : goal.returns-in-Ok-clause-read
returns-in-Ok-clause-read g c = λ f.
    known-read 4096 c.args.self.now.count c.args.number _ _ (g.F.ByteFile.bytes c.args.self.now.file) c.read_at.new.buf f c.requires
    (ap (λ k. k * 4096) c.from.ensures) (omega arith) c.in-Ok.ensures.read
