use Rattle.std.proofs.Common.{◌∙◌, arith, rules}
use Rattle.tbtree.proofs.PassLemmas.{passes_trans}
use Rattle.register.proofs.SpareLemmas.{spares_trans}
use Rattle.register.proofs.chain_writer.ChainWriter.write_full.Goals as goal

pub returns-in_err-write_part-clause-writes : goal.returns-in_err-write_part-clause-writes
returns-in_err-write_part-clause-writes g c =
    let inv = c.loop-done.invariant.2 in
    record { passes = search rules; length = search rules; tree = λ text h. spares_trans c.args.cache.now c.loop-done.cache c.write_part.new.cache inv.passes (inv.tree text h) (c.write_part.ensures.writes.tree text (inv.holds text h)); only = search rules; caused = search rules }

pub loop-done-preserved : goal.loop-done-preserved
loop-done-preserved g c =
    let a = c.args.cache.now in
    let b = c.loop-done.cache in
    let d = c.write_part.new.cache in
    let w = c.args.self.now in
    let v = c.loop-done.self in
    let u = c.write_part.new.self in
    let inv = c.loop-done.invariant.2 in
    let ok = c.in_ok-write_part.ensures in (
      omega (arith, c.loop-done-test.true),
      c.loop-done.invariant.1,
      record {
        text = c.write_part.ensures.text ∙ inv.text;
        holds = λ text h. ok.holds text (inv.holds text h);
        passes = passes_trans a b d inv.passes c.write_part.ensures.writes.passes;
        length = λ e. ok.writes.length (inv.length e);
        tree = λ text h. spares_trans a b d inv.passes (inv.tree text h) (c.write_part.ensures.writes.tree text (inv.holds text h));
      },
    )
