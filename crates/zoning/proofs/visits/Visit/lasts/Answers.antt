use Rattle.std.proofs.Common.{◌≡◌, ◌∙◌, ap, sym, subst, ℕ}
use Rattle.visiting.specs.Lengths.{not_below_0}
use Rattle.visiting.proofs.LengthLemmas.{difference_of}
use Rattle.zoning.specs.Lengths.{IsBetween, least_of, micros_down, micros_up, most_of}
use Rattle.zoning.proofs.VisitLemmas.{between_of}
use Rattle.zoning.proofs.visits.Visit.lasts.Goals as goal

pub returns-clause-least : goal.returns-clause-least
returns-clause-least c =
    let visit = c.args.self.now in
    c.length.ensures.least
    ∙ ap not_below_0 (difference_of (micros_down visit.leaves) (micros_up visit.enters) c.micros_down-2.result c.micros_up.result c.micros_down-2.ensures.value c.micros_up.ensures.value c.micros_down-2.ensures.small c.micros_up.ensures.small)

pub returns-clause-most : goal.returns-clause-most
returns-clause-most c =
    let visit = c.args.self.now in
    c.length.ensures.most
    ∙ ap not_below_0 (difference_of (micros_up visit.leaves) (micros_down visit.enters) c.micros_up-2.result c.micros_down.result c.micros_up-2.ensures.value c.micros_down.ensures.value c.micros_up-2.ensures.small c.micros_down.ensures.small)

pub returns-clause-between : goal.returns-clause-between
returns-clause-between c = λ order.
    let visit = c.args.self.now in
    subst (λ (n : ℕ). IsBetween visit.enters visit.leaves n c.length.result.1) (sym (returns-clause-least c))
    (subst (λ (n : ℕ). IsBetween visit.enters visit.leaves (least_of visit) n) (sym (returns-clause-most c)) (between_of visit order))
