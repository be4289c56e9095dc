use Rattle.std.proofs.Common.{◌≤◌, arith}
use Rattle.register.proofs.WriterLemmas.{not_among}
use Rattle.register.proofs.chain_writer.next_page.Goals as goal

pub returns-in_ok-page-in-None-clause-apart : goal.returns-in_ok-page-in-None-clause-apart
returns-in_ok-page-in-None-clause-apart g c = λ all.
    let page = c.in_ok-page-in-None.page in
    let new = c.in_ok-page-in-None.ensures.new in
    let more = c.reused.ensures.takes.passes.count in
    let h : c.args.cache.now.count ≤ page = omega (arith, new, more) in
    not_among page c.args.cache.now.count c.args.pages.now.keys h all
