use Rattle.std.proofs.Common.{◌∙◌, ◌++◌, ℤ, ap, SFits, rules}
use Rattle.std.specs.Int.{w128}
use Rattle.std.specs.Fmt.{signed_decimal}
use Rattle.std.proofs.lemmas.Int.{to_z-of_z}
use Rattle.reports.specs.StayTexts.{fraction_text}
use Rattle.reports.proofs.TextLemmas.{fraction_of_parts}
use Rattle.reports.proofs.moments_text.push_fraction.Goals as goal

pub returns-clause-text : goal.returns-clause-text
unfolding fraction_text
returns-clause-text c =
    let fits : SFits w128 c.since.result = search rules in
    fraction_of_parts c.args.text.now.items _ _ _ _ _ _ c.in_ok-push.ensures.items
    (c.in_ok-push_signed.ensures ∙ ap (λ (n : ℤ). c.push.new.self.items ++ signed_decimal n) (to_z-of_z w128 c.since.result fits ∙ c.since.ensures.value))
    c.in_ok-push-2.ensures.items c.in_ok-push_number.ensures
