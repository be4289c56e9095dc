use Rattle.std.proofs.Common.{◌∙◌, ap, sym}
use Rattle.legs.specs.Boxes.{BoxView, box_of, boxes_meet}
use Rattle.predicates.specs.declared.Predicate.TheVariants.{Bypasses}
use Rattle.predicates.proofs.NearLemmas.{meets_near, near_is}
use Rattle.predicates.proofs.near.search_box.Goals as goal

pub returns-in-Bypasses-clause-meets : goal.returns-in-Bypasses-clause-meets
returns-in-Bypasses-clause-meets c = λ leg lawful h.
    ap (λ (b : BoxView). boxes_meet (box_of leg) b) c.plane_over.ensures ∙ meets_near Bypasses leg c.args.rect.now c.args.period.now lawful (rw c.in-Bypasses.is at h)

pub returns-in_default : goal.returns-in_default
returns-in_default c =
    let near = near_is c.args.predicate c.args.rect.now c.args.period.now c.in_default.not-Bypasses in record {
      value = c.new.ensures ∙ sym near;
      meets = λ leg lawful h. ap (λ (b : BoxView). boxes_meet (box_of leg) b) (c.new.ensures ∙ sym near) ∙ meets_near c.args.predicate leg c.args.rect.now c.args.period.now lawful h;
    }
