use Rattle.std.proofs.Common.{◌∙◌, arith, map}
use Rattle.sessions.proofs.PutLemmas.{items_at, items_length, put_more}
use Rattle.sessions.proofs.part_folder.put_texts.Goals as goal

pub loop-text-preserved : goal.loop-text-preserved
loop-text-preserved g c =
    let r = c.text-item.result in
    let i = c.loop-text.text-index in
    record {
      next = omega (arith, c.loop-text.invariant.next);
      puts = put_more (g.F.PartFolder.seen c.args.folder.now) (g.F.PartFolder.seen c.put.new.self) c.args.first c.loop-text.part i (map (λ text. text.items) c.args.texts.now) r.items
          (items_length (λ text. text.items) c.args.texts.now i c.loop-text-test.true) c.loop-text.invariant.next
          (c.in-Ok.ensures.put ∙ items_at (λ text. text.items) c.args.texts.now i r c.loop-text.part c.as_slice.result.now (g.F.PartFolder.seen c.loop-text.folder) _ c.loop-text-test.true c.as_slice.ensures.value c.text-item.is c.loop-text.invariant.puts);
    }
