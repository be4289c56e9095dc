use Rattle.std.proofs.Common.{arith, ap, ◌∙◌, sym, add-one, take, drop, ◌++◌, ◌∷◌, ◌<◌, length, refl}
use Rattle.std.proofs.lemmas.List.{set_split}
use Rattle.tests_program.proofs.memory_folder.MemCopyPageStore.write.Goals as goal

pub returns-then-place-len-clause-written : goal.returns-then-place-len-clause-written
returns-then-place-len-clause-written c =
    let xs = c.args.self.now.pages.items in
    let n = c.args.number in
    let p = c.args.page.now in
    let h : n < length xs = omega arith in record {
      keeps = record { most = refl; faithful = refl; faults = omega arith; lost = λ l. l };
      count = omega arith;
      pages = λ _. set_split xs n p h ∙ ap (λ k. take n xs ++ p ∷ drop k xs) (sym (add-one n));
    }
