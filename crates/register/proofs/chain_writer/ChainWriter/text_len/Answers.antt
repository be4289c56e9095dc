use Rattle.std.proofs.Common.{arith}
use Rattle.register.proofs.WriterLemmas.{few_pages}
use Rattle.register.proofs.chain_writer.ChainWriter.text_len.Goals as goal

pub overflow_mul-result : goal.overflow_mul-result
overflow_mul-result c =
    let few = few_pages c.self.inside.pages.keys c.len.ensures.unique c.self.invariant.each in
    let n = c.len.ensures.len in
    omega (arith, few, n)

pub overflow_add-result : goal.overflow_add-result
overflow_add-result c =
    let few = few_pages c.self.inside.pages.keys c.len.ensures.unique c.self.invariant.each in
    let n = c.len.ensures.len in
    omega (arith, few, n)
