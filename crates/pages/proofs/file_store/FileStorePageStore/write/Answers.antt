use Rattle.std.proofs.Common.{arith, ap, ◌∙◌, ◌*◌, length, ◌≡◌, refl, inl}
use Rattle.pages.proofs.ByteLemmas.{known-written, known-torn, still_told}
use Rattle.pages.proofs.file_store.FileStorePageStore.write.Goals as goal

pub returns-then-number-self-clause-written : goal.returns-then-number-self-clause-written
returns-then-number-self-clause-written g c =
    let e = c.in-Ok.ensures in record {
      keeps = record { most = refl; faithful = still_told _ _ _ _ e.around; faults = e.later; lost = λ l. e.lost ∙ l };
      count = omega arith;
      pages = λ f. known-written 4096 c.args.number c.args.self.now.count _ _ _ (g.F.ByteFile.bytes c.args.self.now.file) (g.F.ByteFile.bytes c.write_at.new.self) c.args.page.now f
          (omega arith) c.requires.next (ap (λ k. k * 4096) c.from.ensures) (omega arith) e.written e.around;
    }

pub returns-else-number-self-clause-written : goal.returns-else-number-self-clause-written
returns-else-number-self-clause-written g c =
    let e = c.in-Ok.ensures in record {
      keeps = record { most = refl; faithful = still_told _ _ _ _ e.around; faults = e.later; lost = λ l. e.lost ∙ l };
      count = omega arith;
      pages = λ f. known-written 4096 c.args.number c.args.self.now.count _ _ _ (g.F.ByteFile.bytes c.args.self.now.file) (g.F.ByteFile.bytes c.write_at.new.self) c.args.page.now f
          (omega arith) c.requires.next (ap (λ k. k * 4096) c.from.ensures) (omega arith) e.written e.around;
    }

pub returns-in-Err-clause-torn : goal.returns-in-Err-clause-torn
returns-in-Err-clause-torn g c =
    let e = c.in-Err.ensures in record {
      keeps = record { most = refl; faithful = still_told _ _ _ _ e.around; faults = e.later; lost = λ l. e.lost ∙ l };
      count = inl refl;
      pages = λ f.
          let size : length c.args.page.now ≡ 4096 = omega arith in
          known-torn 4096 c.args.number c.args.self.now.count _ _ (g.F.ByteFile.bytes c.args.self.now.file) (g.F.ByteFile.bytes c.write_at.new.self) f
          c.requires.next (ap (λ k. k * 4096) c.from.ensures) size e.around;
    }
