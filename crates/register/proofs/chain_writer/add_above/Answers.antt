use Rattle.std.proofs.Common.{arith, rules}
use Rattle.register.proofs.SpareLemmas.{gives_added, adds_spares, spares_trans, stays_spares, zero_catalogue}
use Rattle.register.proofs.chain_writer.add_above.Goals as goal

pub returns-clause-gives : goal.returns-clause-gives
returns-clause-gives g c =
    gives_added c.args.cache.now c.add_first.new.cache c.add_zeros.new.cache c.in_ok-page.page c.add_first.ensures.takes.passes c.add_first.ensures.stay c.in_ok-add_first.ensures.some
    c.in_ok-page.ensures.adds c.in_ok-page.ensures.number (c.in_ok-page.ensures.none_before c.add_first.new.cache.count (omega arith))

pub returns-clause-takes : goal.returns-clause-takes
returns-clause-takes g c =
    let spares = adds_spares c.add_first.new.cache c.add_zeros.new.cache _ zero_catalogue (c.in_ok-page.ensures.none_before c.add_first.new.cache.count (omega arith)) c.in_ok-page.ensures.adds in
    let tree = spares_trans c.args.cache.now c.add_first.new.cache c.add_zeros.new.cache c.add_first.ensures.takes.passes c.add_first.ensures.takes.tree spares in
    record { passes = search rules; length = search rules; tree = tree; only = tt; caused = tt }

pub returns-in_err-page-clause-takes : goal.returns-in_err-page-clause-takes
returns-in_err-page-clause-takes g c =
    let tree = spares_trans c.args.cache.now c.add_first.new.cache c.add_zeros.new.cache c.add_first.ensures.takes.passes c.add_first.ensures.takes.tree (stays_spares c.add_first.new.cache c.add_zeros.new.cache c.in_err-page.ensures.refused) in
    record { passes = search rules; length = search rules; tree = tree; only = search rules; caused = search rules }
