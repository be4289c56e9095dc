use Rattle.std.proofs.Common.{sym, subst, ◌∙◌, [], ◌∷◌}
use Rattle.predicates.specs.Courses.{IsCourse}
use Rattle.predicates.specs.declared.courses.Course.{Course}
use Rattle.predicates.proofs.CourseLemmas.{unlive_course}
use Rattle.zoning.specs.Stays.{IsInZone}
use Rattle.zoning.proofs.StayCourse.{stays_course}
use Rattle.zoning.proofs.courses.course_of_stays.Goals as goal

pub returns-then-not-is_live : goal.returns-then-not-is_live
returns-then-not-is_live c = λ rings are.
    subst (λ (course : Course). IsCourse (IsInZone rings) course (c.args.leg.now ∷ []) c.args.period.now) (sym c.empty.ensures)
    (unlive_course c.args.leg.now (IsInZone rings) c.args.period.now (sym c.is_live.ensures.value ∙ c.if-not-is_live.true))

pub returns : goal.returns
returns c = λ rings are.
    stays_course rings c.args.leg.now c.args.period.now (sym c.is_live.ensures.value ∙ c.if-not-is_live.false) c.args.stays.now are
    c.holds_first.result c.holds_last.result c.is_whole.result c.has_some.result c.holds_first.ensures c.holds_last.ensures c.is_whole.ensures c.has_some.ensures
