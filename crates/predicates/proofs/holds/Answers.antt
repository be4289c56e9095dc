use Rattle.std.proofs.Common.{Bool, ◌↔◌, IsTrue, subst, sym}
use Rattle.clipping.specs.Inside.{InRect}
use Rattle.predicates.specs.Predicates.{Holds}
use Rattle.predicates.proofs.CourseLemmas.{told}
use Rattle.predicates.proofs.EndLemmas.{by_ends}
use Rattle.predicates.proofs.PredicateLemmas.{holds_filter}
use Rattle.predicates.specs.Courses.{ends_of}
use Rattle.predicates.proofs.holds.Goals as goal

pub returns-in-Enters-clause-live : goal.returns-in-Enters-clause-live
returns-in-Enters-clause-live c = λ all. holds_filter c.args.predicate all (InRect c.args.rect.now) c.args.period.now

pub returns-in-Enters-clause-holds : goal.returns-in-Enters-clause-holds
returns-in-Enters-clause-holds c =
    let Inside = InRect c.args.rect.now in
    let two = by_ends c.args.period.now c.args.legs.now Inside c.args.predicate c.in-Enters.is in
    let ends = ends_of c.args.period.now c.args.legs.now in
    let said = subst (λ (b : Bool). IsTrue b ↔ Holds c.args.predicate ends c.args.rect.now c.args.period.now) (sym c.answer.ensures)
    (told c.args.predicate c.course_of_ends.result ends Inside c.args.period.now c.course_of_ends.ensures) in
    (λ t. two.0 (said.0 t), λ h. said.1 (two.1 h))

pub returns-in_default : goal.returns-in_default
returns-in_default c = record {
  holds = subst (λ (b : Bool). IsTrue b ↔ Holds c.args.predicate c.args.legs.now c.args.rect.now c.args.period.now) (sym c.answer-in_default.ensures)
      (told c.args.predicate c.course_of.result c.args.legs.now (InRect c.args.rect.now) c.args.period.now c.course_of.ensures);
  live = λ all. holds_filter c.args.predicate all (InRect c.args.rect.now) c.args.period.now;
}
