use Rattle.std.proofs.Common.{sym, subst, ◌∙◌, [], ◌∷◌}
use Rattle.std.proofs.lemmas.Bool.{false≢true}
use Rattle.legs.specs.Legs.{first_moment}
use Rattle.clipping.specs.Inside.{InRect}
use Rattle.predicates.specs.Courses.{IsCourse}
use Rattle.predicates.proofs.LegLemmas.{first_is}
use Rattle.predicates.proofs.CourseLemmas.{unlive_course, outside_leg, live_from, unlive_from}
use Rattle.predicates.proofs.courses.Course.of.Goals as goal

pub between-requires : goal.between-requires
between-requires c = sym c.live.ensures.ends ∙ c.in-Some.is

pub returns-else-may_be_inside : goal.returns-else-may_be_inside
returns-else-may_be_inside c =
    let leg = c.args.leg.now in
    let Inside = InRect c.args.rect.now in
    let period = c.args.period.now in
    let e = live_from leg period c.live.result c.in-Some.ends c.in-Some.is c.live.ensures.ends in
    subst (λ course. IsCourse Inside course (leg ∷ []) period) (sym c.outside.ensures)
    (outside_leg leg Inside period (first_moment leg period, 1, first_is leg period e.0)
    (λ some. false≢true (sym c.if-may_be_inside.false ∙ c.may_be_inside.ensures some)))

pub returns-in-None : goal.returns-in-None
returns-in-None c =
    let leg = c.args.leg.now in
    let Inside = InRect c.args.rect.now in
    let period = c.args.period.now in
    subst (λ course. IsCourse Inside course (leg ∷ []) period) (sym c.empty.ensures)
    (unlive_course leg Inside period (unlive_from leg period c.live.result c.in-None.is c.live.ensures.ends))
