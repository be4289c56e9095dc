use Rattle.std.proofs.Common.{sym, subst, ◌↔◌, IsTrue, Bool}
use Rattle.clipping.specs.Inside.{HasMomentInside}
use Rattle.predicates.proofs.CourseLemmas.{some_moment_inside}
use Rattle.predicates.proofs.courses.is_ever_inside.Goals as goal

pub returns : goal.returns
returns c =
    subst (λ (b : Bool). IsTrue b ↔ HasMomentInside c.args.leg.now c.args.rect.now c.args.period.now) (sym c.is_some.ensures)
    (some_moment_inside c.args.leg.now c.args.rect.now c.args.period.now c.clip.result c.clip.ensures)
