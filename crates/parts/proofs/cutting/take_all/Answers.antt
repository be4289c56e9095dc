use Rattle.std.proofs.Common.{◌∙◌, ap, slice_set}
use Rattle.csv.specs.Records.{fields_of}
use Rattle.parts.specs.Texts.{PartView, with_fields}
use Rattle.parts.proofs.ManyLemmas.{step_map}
use Rattle.parts.proofs.cutting.take_all.Goals as goal

pub loop-text-preserved : goal.loop-text-preserved
loop-text-preserved c =
    ap (λ (text : PartView). slice_set c.loop-text.texts c.loop-text.text-index text) c.in_ok-take.ensures
    ∙ step_map (with_fields c.args.n (fields_of c.args.row.now)) c.args.texts.now c.loop-text.texts c.loop-text.text-index c.text-item.result c.loop-text-test.true c.loop-text.invariant
