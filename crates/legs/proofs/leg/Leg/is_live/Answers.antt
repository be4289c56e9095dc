use Rattle.std.proofs.Common.{rules, ap, ◌∙◌, ◌≡◌, w64, to_z, of_z}
use Rattle.std.specs.Prelude.{FitsSigned, int_le}
use Rattle.std.specs.Int.{int_min, int_max}
use Rattle.legs.proofs.MomentLemmas.{live_is}
use Rattle.legs.proofs.BoxLemmas.{min_is, max_is}
use Rattle.legs.proofs.leg.Leg.is_live.Goals as goal

pub returns-clause-value : goal.returns-clause-value
returns-clause-value c =
    let a : FitsSigned w64 c.millis.result = search rules in
    let b : FitsSigned w64 c.millis-2.result = search rules in
    let d : FitsSigned w64 c.millis-3.result = search rules in
    let e : FitsSigned w64 c.millis-4.result = search rules in
    let f : FitsSigned w64 c.max-first.result = search rules in
    let g : FitsSigned w64 c.min-last.result = search rules in
    let first : to_z w64 (of_z w64 c.max-first.result) ≡ int_max c.self.inside.t0 c.args.period.now.start = max_is _ _ _ _ _ f a b c.max-first.ensures.value c.millis.ensures.value (c.millis-2.ensures.value ∙ c.start.ensures.value) in
    let last : to_z w64 (of_z w64 c.min-last.result) ≡ int_min c.self.inside.t1 c.args.period.now.end = min_is _ _ _ _ _ g d e c.min-last.ensures.value c.millis-3.ensures.value (c.millis-4.ensures.value ∙ c.end.ensures.value) in
    rw (← c.self.view_is)
    (ap (λ z. int_le z (to_z w64 (of_z w64 c.min-last.result))) first ∙ ap (int_le (int_max c.self.inside.t0 c.args.period.now.start)) last)

pub returns-clause-moments : goal.returns-clause-moments
returns-clause-moments c = live_is c.args.self.now c.args.period.now _ (returns-clause-value c)
