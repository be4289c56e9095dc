use Rattle.std.proofs.Common.{ap, ◌∙◌, ◌≡◌, ◌++◌, subst, OnOk}
use Rattle.writer.specs.Records.{point_text, record_text}
use Rattle.mfcsv.specs.declared.Position.{Position}
use Rattle.writer.specs.Written.{written}
use Rattle.writer.proofs.BoundsLemmas.{bounds_are}
use Rattle.writer.proofs.file.write_bounds.Goals as goal

pub returns : goal.returns
returns c =
    let fields = c.bounds_row-fields.ensures ∙ bounds_are c.args.head.now c.args.entries.now c.corners_of-corners.result c.end_from.result _ _ _ _ _ _
    (c.as_bytes.ensures.value ∙ c.as_str.ensures) (c.as_bytes-2.ensures.value ∙ c.dimension_text.ensures) c.corners_of-corners.ensures c.end_from.ensures (c.as_slice.ensures.value ∙ c.in_ok-lower.ensures ∙ ap (λ (p : Position). point_text c.args.head.now.dimension p) c.lower.ensures)
    (c.as_slice-2.ensures.value ∙ c.in_ok-upper.ensures ∙ ap (λ (p : Position). point_text c.args.head.now.dimension p) c.upper.ensures) (c.as_slice-3.ensures.value ∙ c.in_ok-base.ensures) (c.as_slice-4.ensures.value ∙ c.in_ok-end.ensures) in
    subst (λ fs. OnOk c.push.result (c.push.new.self ≡ written (c.args.records.now.text ++ record_text fs))) fields c.push.ensures
