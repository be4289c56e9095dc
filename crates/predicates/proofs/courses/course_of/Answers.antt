use Rattle.std.proofs.Common.{ap, sym, subst, ◌∙◌, ◌≡◌, ◌+◌, take, [], ◌∷◌, ◌++◌}
use Rattle.std.proofs.lemmas.List.{take_more}
use Rattle.legs.specs.Legs.{LegView}
use Rattle.clipping.specs.Inside.{InRect}
use Rattle.predicates.specs.Courses.{IsCourse}
use Rattle.predicates.specs.declared.courses.Course.{Course}
use Rattle.predicates.proofs.CourseLemmas.{empty_course, then_course}
use Rattle.predicates.proofs.courses.course_of.Goals as goal

pub loop-leg-init : goal.loop-leg-init
loop-leg-init c =
    subst (λ (course : Course). IsCourse (InRect c.args.rect.now) course [] c.args.period.now) (sym c.empty-course.ensures) (empty_course (InRect c.args.rect.now) c.args.period.now)

pub loop-leg-preserved : goal.loop-leg-preserved
loop-leg-preserved c =
    let walked = take c.loop-leg.leg-index c.args.legs.now in
    let Inside = InRect c.args.rect.now in
    let period = c.args.period.now in
    let more : take (c.loop-leg.leg-index + 1) c.args.legs.now ≡ walked ++ c.leg-item.result ∷ [] =
    take_more c.args.legs.now c.loop-leg.leg-index c.leg-item.result c.loop-leg-test.true ∙ ap (λ (leg : LegView). walked ++ leg ∷ []) (sym c.leg-item.is) in
    rw more
    (subst (λ (course : Course). IsCourse Inside course (walked ++ c.leg-item.result ∷ []) period) (sym c.then-course.ensures)
    (then_course c.loop-leg.course c.of.result walked (c.leg-item.result ∷ []) Inside period c.loop-leg.invariant c.of.ensures))
