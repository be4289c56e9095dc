use Rattle.std.proofs.Common.{◌∙◌, sym, ap, subst, List, [], ◌∷◌, Some}
use Rattle.legs.specs.Legs.{LegView}
use Rattle.clipping.specs.Inside.{InRect}
use Rattle.predicates.specs.Courses.{IsCourse, both_of}
use Rattle.predicates.specs.declared.courses.Course.{Course}
use Rattle.legs.specs.Sieves.{last_live}
use Rattle.predicates.proofs.CourseLemmas.{empty_course, then_course}
use Rattle.predicates.proofs.courses.course_of_ends.Goals as goal

pub returns-in-Some-last_live : goal.returns-in-Some-last_live
returns-in-Some-last_live c =
    let first = c.in-Some.first in
    let last = c.in-Some-last_live.last in
    let Inside = InRect c.args.rect.now in
    let period = c.args.period.now in
    subst (λ (l : List LegView). IsCourse Inside c.then.result l period)
    (sym (ap (λ o. both_of o c.last_live.result) c.in-Some.is ∙ ap (both_of (Some first)) c.in-Some-last_live.is) ∙ ap (λ o. both_of o c.last_live.result) c.first_live.ensures ∙ ap (both_of _) c.last_live.ensures)
    (subst (λ (course : Course). IsCourse Inside course (first ∷ last ∷ []) period) (sym c.then.ensures)
    (then_course c.of-entry.result c.of.result (first ∷ []) (last ∷ []) Inside period c.of-entry.ensures c.of.ensures))

pub returns-in-None-last_live : goal.returns-in-None-last_live
returns-in-None-last_live c =
    let Inside = InRect c.args.rect.now in
    let period = c.args.period.now in
    subst (λ (l : List LegView). IsCourse Inside c.empty.result l period)
    (sym (ap (λ o. both_of o c.last_live.result) c.in-Some.is ∙ ap (both_of (Some c.in-Some.first)) c.in-None-last_live.is) ∙ ap (λ o. both_of o c.last_live.result) c.first_live.ensures ∙ ap (both_of _) c.last_live.ensures)
    (subst (λ (course : Course). IsCourse Inside course [] period) (sym c.empty.ensures) (empty_course Inside period))

pub returns-in-None : goal.returns-in-None
returns-in-None c =
    let Inside = InRect c.args.rect.now in
    let period = c.args.period.now in
    subst (λ (l : List LegView). IsCourse Inside c.empty-in-None.result l period)
    (ap (λ o. both_of o (last_live period c.args.legs.now)) (sym c.in-None.is ∙ c.first_live.ensures))
    (subst (λ (course : Course). IsCourse Inside course [] period) (sym c.empty-in-None.ensures) (empty_course Inside period))
