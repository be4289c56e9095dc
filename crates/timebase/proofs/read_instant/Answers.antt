use Rattle.std.proofs.Common.{◌≡◌, ◌∙◌, ap, pos, rules, FitsSigned}
use Rattle.std.proofs.lemmas.Int.{to_z-of_z}
use Rattle.std.specs.Int.{int_div_euclid, w128}
use Rattle.timebase.specs.Instant.{moment_of, moment_from, moment_within}
use Rattle.timebase.proofs.read_instant.Goals as goal

pub returns-in-Err : goal.returns-in-Err
unfolding moment_of
returns-in-Err c = ap moment_from c.in-Err.ensures.value

pub returns-in-Ok : goal.returns-in-Ok
unfolding moment_of
returns-in-Ok c =
    let f : FitsSigned w128 c.whole_millis.result = search rules in
    let g : FitsSigned w128 c.as_nanosecond.result = search rules in
    let d : c.whole_millis.result ≡ int_div_euclid c.in-Ok.instant.nanosecond (pos 1000000) = c.whole_millis.ensures ∙ ap (λ z. int_div_euclid z (pos 1000000)) (to_z-of_z w128 c.as_nanosecond.result g ∙ c.as_nanosecond.ensures) in
    c.within.ensures ∙ ap moment_within (to_z-of_z w128 c.whole_millis.result f ∙ d) ∙ ap moment_from c.in-Ok.ensures.value
