use Rattle.std.proofs.Common.{◌∙◌, ◌≡◌, ap, to_z, of_z, w64, SFits, rules, unsigned_abs, pos, ℤ}
use Rattle.std.proofs.lemmas.Int.{to_z-of_z}
use Rattle.std.specs.Int.{int_div_euclid, int_rem_euclid}
use Rattle.timebase.specs.Instant.{some_moment}
use Rattle.reports.proofs.TextLemmas.{micros_made}
use Rattle.reports.proofs.moments_text.push_micros.Goals as goal

pub returns-clause-text : goal.returns-clause-text
returns-clause-text c =
    let micros : to_z w64 (of_z w64 c.args.micros) ≡ c.args.micros = to_z-of_z w64 c.args.micros c.ranges.micros in
    let fits : SFits w64 c.div_euclid.result = search rules in
    let milli : to_z w64 (of_z w64 c.div_euclid.result) ≡ int_div_euclid c.args.micros (pos 1000) = to_z-of_z w64 c.div_euclid.result fits ∙ c.div_euclid.ensures ∙ ap (λ (z : ℤ). int_div_euclid z (pos 1000)) micros in
    let left : SFits w64 c.rem_euclid.result = search rules in
    let rest : c.unsigned_abs.result ≡ unsigned_abs (int_rem_euclid c.args.micros (pos 1000)) = c.unsigned_abs.ensures.value ∙ ap (λ (z : ℤ). unsigned_abs z) (to_z-of_z w64 c.rem_euclid.result left ∙ c.rem_euclid.ensures.value ∙ ap (λ (z : ℤ). int_rem_euclid z (pos 1000)) micros) in
    micros_made c.args.text.now.items _ _ _ _ c.args.micros c.in-Some.at c.unsigned_abs.result (c.in-Some.ensures ∙ ap (λ (z : ℤ). some_moment z) milli)
    rest c.in_ok-push.ensures.items c.in_ok-push_millis.ensures c.in_ok-push_three_digits.ensures c.in_ok-push-2.ensures.items
