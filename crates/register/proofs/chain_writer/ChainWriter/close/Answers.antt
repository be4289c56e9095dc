use Rattle.std.proofs.Common.{◌≡◌, ◌≤◌, length, ap, ◌∙◌, arith, rules}
use Rattle.register.proofs.SpareLemmas.{stays_spares}
use Rattle.register.proofs.WriterLemmas.{closed, last_tree}
use Rattle.register.specs.ChainWriter.{WriterView}
use Rattle.register.proofs.chain_writer.ChainWriter.close.Goals as goal

pub returns : goal.returns
returns g c =
    let v = c.args.self.now in
    let items = c.self.inside.text.items in
    let e : items ≡ v.text = ap (λ (v : WriterView). v.text) c.self.view_is in
    let same = ap length (c.deref.ensures.value ∙ e) in
    let r = c.requires in
    let short : length c.deref.result.now ≤ 4040 = omega (arith, same, r) in
    let tree = last_tree c.args.cache.now c.write_page.new.cache v c.last-last.result 0 _ c.last-last.ensures.last c.last-last.ensures.some c.in_ok-write_page.ensures.writes in
    record {
      writes = record { passes = search rules; length = search rules; tree = tree; only = search rules; caused = tt };
      text = λ text h some f.
          closed c.args.cache.now c.write_page.new.cache c.deref.result.now text c.last-last.result short c.in_ok-write_page.ensures.writes f some
          v items c.text_len.result c.first.result e c.deref.ensures.value c.last-last.ensures.last c.first.ensures.first c.text_len.ensures c.first.ensures.small h;
    }

pub returns-in_err-write_page : goal.returns-in_err-write_page
returns-in_err-write_page g c = record {
  writes = record { passes = search rules; length = search rules; tree = λ text h. stays_spares _ _ c.in_err-write_page.ensures.rests.stays; only = search rules; caused = search rules };
  text = search rules;
}
