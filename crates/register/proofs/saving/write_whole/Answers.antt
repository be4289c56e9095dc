use Rattle.std.proofs.Common.{rules}
use Rattle.register.specs.Saving.{PutsText}
use Rattle.register.proofs.ReaderLemmas.{on_err_and}
use Rattle.register.proofs.SaveLemmas.{put_written}
use Rattle.register.proofs.saving.write_whole.Goals as goal

pub returns-clause-puts : goal.returns-clause-puts
returns-clause-puts g c =
    let put = put_written c.in_ok-chain.ensures c.write_all.ensures in
    record { passes = put.0; tree = put.1; length = search rules; text = search rules; whole = search rules; only = search rules; caused = search rules }

pub returns-in_err-write_all-clause-puts : goal.returns-in_err-write_all-clause-puts
returns-in_err-write_all-clause-puts g c =
    let put = put_written c.in_ok-chain.ensures c.write_all.ensures in
    record { passes = put.0; tree = put.1; length = search rules; text = search rules; whole = search rules; only = search rules; caused = search rules }

pub returns-in_err-chain-clause-puts : goal.returns-in_err-chain-clause-puts
returns-in_err-chain-clause-puts g c =
    on_err_and (λ r. PutsText c.args.catalogue.now c.args.places.now c.args.cache.now c.write_chain.new.cache r) c.from_residual.result c.in_err-chain.field-0.0 c.from_residual.ensures.1 c.in_err-chain.ensures
