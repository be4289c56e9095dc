use Rattle.std.proofs.Common.{◌≡◌, ◌+◌, ◌-◌, ap, arith, rules}
use Rattle.register.proofs.ReaderLemmas.{on_ok}
use Rattle.tbtree.proofs.PassLemmas.{passes_trans}
use Rattle.register.proofs.SpareLemmas.{page_passes}
use Rattle.register.proofs.WriterLemmas.{part_holds, part_tree}
use Rattle.register.specs.ChainWriter.{WriterView}
use Rattle.register.proofs.chain_writer.ChainWriter.write_part.Goals as goal

pub returns-clause-holds : goal.returns-clause-holds
returns-clause-holds g c =
    let done = c.args.done in
    let size : done + 4040 - done ≡ 4040 = omega arith in
    on_ok c.write_page.result (λ lends text h.
    part_holds c.args.cache.now c.take_page.new.cache c.write_page.new.cache c.args.self.now c.last-last.result c.in_ok-page.page done (done + 4040 - done) c.self.inside.pages.keys c.self.inside.text.items c.deref.result.now
    c.in_ok-page.ensures.gives c.take_page.ensures.takes.passes (ap (λ (v : WriterView). v.pages) c.self.view_is) (ap (λ (v : WriterView). v.text) c.self.view_is) c.deref.ensures.value size c.last-last.ensures.last
    c.in_ok-page.next c.take_page.new.pages.keys text c.in_ok-page.ensures.put c.requires lends h) c.write_page.ensures.writes

pub returns-clause-writes : goal.returns-clause-writes
returns-clause-writes g c =
    let done = c.args.done in
    let size : done + 4040 - done ≡ 4040 = omega arith in
    let tree = part_tree c.args.cache.now c.take_page.new.cache c.write_page.new.cache c.args.self.now c.last-last.result c.in_ok-page.page done (done + 4040 - done) c.self.inside.pages.keys c.self.inside.text.items c.deref.result.now
    c.in_ok-page.ensures.gives c.take_page.ensures.takes.passes (ap (λ (v : WriterView). v.pages) c.self.view_is) (ap (λ (v : WriterView). v.text) c.self.view_is) c.deref.ensures.value size c.last-last.ensures.last
    c.write_page.result c.last-last.ensures.some c.take_page.ensures.takes.tree c.write_page.ensures.writes c.write_page.ensures.rests in
    let passes = passes_trans c.args.cache.now c.take_page.new.cache c.write_page.new.cache c.take_page.ensures.takes.passes (page_passes _ c.write_page.result c.last-last.ensures.above c.write_page.ensures.writes c.write_page.ensures.rests) in
    record { passes = passes; length = search rules; tree = tree; only = search rules; caused = search rules }
