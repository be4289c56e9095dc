use Rattle.std.proofs.Common.{◌∙◌, ◌+◌, ap, arith, sym, List, length, map}
use Rattle.sessions.proofs.PutLemmas.{all_more, items_count, puts_none, some_more}
use Rattle.sessions.proofs.part_folder.put_parts.Goals as goal

pub loop-done-init : goal.loop-done-init
loop-done-init g c = record { within = omega arith; puts = sym (puts_none (g.F.PartFolder.seen c.args.folder.now)) }

pub put_texts-requires : goal.put_texts-requires
put_texts-requires g c =
    let count = items_count (λ text. text.items) c.in-Ok.texts.items (c.args.first + c.loop-done.done) c.min-next.result c.args.n c.args.bytes.now c.in-Ok.ensures.texts in
    let same = ap (λ (ts : List _). length ts) c.as_slice.ensures.value in
    omega (arith, same, count, c.min-next.ensures, c.loop-done-test.true, c.requires.within, c.ranges.n.fits)

pub returns-in-Err-put_texts-clause-some : goal.returns-in-Err-put_texts-clause-some
returns-in-Err-put_texts-clause-some g c =
    let puts = g.F.PartFolder.seen in
    let is = ap (map (λ text. text.items)) c.as_slice.ensures.value ∙ c.in-Ok.ensures.texts in
    some_more (puts c.args.folder.now) (puts c.loop-done.folder) (puts c.put_texts.new.folder) c.args.first c.args.count c.loop-done.done c.min-next.result c.args.n c.args.bytes.now (map (λ text. text.items) c.as_slice.result.now)
    (omega (arith, c.min-next.ensures, c.loop-done-test.true)) c.loop-done.invariant.puts is c.in-Err-put_texts.ensures.refused.1

pub loop-done-preserved : goal.loop-done-preserved
loop-done-preserved g c =
    let puts = g.F.PartFolder.seen in
    let is = ap (map (λ text. text.items)) c.as_slice.ensures.value ∙ c.in-Ok.ensures.texts in
    record {
      within = omega (arith, c.min-next.ensures, c.loop-done-test.true);
      puts = all_more (puts c.args.folder.now) (puts c.loop-done.folder) (puts c.put_texts.new.folder) c.args.first c.loop-done.done c.min-next.result c.args.n c.args.bytes.now (map (λ text. text.items) c.as_slice.result.now)
          c.loop-done.invariant.puts is c.in-Ok-put_texts.ensures.all;
    }
