use Rattle.std.proofs.Common.{◌∙◌, rules}
use Rattle.register.proofs.ReaderLemmas.{if_ok}
use Rattle.register.proofs.SpareLemmas.{spares_trans}
use Rattle.register.proofs.chain_writer.ChainWriter.finish.Goals as goal

pub returns : goal.returns
returns g c =
    let first = c.write_full.ensures.writes in
    let holds = c.in_ok-write_full.ensures.holds in
    let last = c.close.ensures in
    record {
      writes = record { passes = search rules; length = search rules; tree = λ text h. spares_trans c.args.cache.now c.write_full.new.cache c.close.new.cache first.passes (first.tree text h) (last.writes.tree text (holds text h)); only = search rules; caused = search rules };
      text = if_ok _ _ c.close.result (λ r h text held some f. h text (holds text held) some (first.passes.store.faithful ∙ f)) last.text;
    }
