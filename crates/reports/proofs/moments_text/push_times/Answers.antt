use Rattle.std.proofs.Common.{◌∙◌, ◌≡◌, ◌++◌, ◌∷◌, ℤ, ap, pos, subst, sym, to_z, of_z, w64, SFits, rules}
use Rattle.std.proofs.lemmas.Int.{to_z-of_z}
use Rattle.std.specs.Int.{int_div_euclid}
use Rattle.timebase.specs.Instant.{IsMoment}
use Rattle.trajdb.specs.declared.RunFault.{RunFault}
use Rattle.trajdb.specs.declared.RunFault.TheVariants.{Memory}
use Rattle.reports.specs.StayTexts.{micros_text, times_text}
use Rattle.reports.proofs.TextLemmas.{four_fields, kept_fault, memory_alone}
use Rattle.reports.proofs.moments_text.push_times.Goals as goal

pub returns-clause-text : goal.returns-clause-text
unfolding times_text
returns-clause-text c =
    let first : SFits w64 c.micros_down.result = search rules in
    let last : SFits w64 c.micros_up.result = search rules in
    four_fields c.args.text.now.items _ _ _ _ _ _ _ _ c.in_ok-push_fraction.ensures.text c.in_ok-push_fraction-2.ensures.text
    (c.in_ok-push_micros.ensures.text ∙ ap (λ (m : ℤ). c.push_fraction-2.new.text.items ++ 44 ∷ micros_text m) (to_z-of_z w64 c.micros_down.result first ∙ c.micros_down.ensures.value))
    (c.in_ok-push_micros-2.ensures.text ∙ ap (λ (m : ℤ). c.push_micros.new.text.items ++ 44 ∷ micros_text m) (to_z-of_z w64 c.micros_up.result last ∙ c.micros_up.ensures.value))

pub returns-in_err-push_micros-clause-fault : goal.returns-in_err-push_micros-clause-fault
returns-in_err-push_micros-clause-fault c =
    let fits : SFits w64 c.micros_down.result = search rules in
    let milli : IsMoment (int_div_euclid (to_z w64 (of_z w64 c.micros_down.result)) (pos 1000)) = subst (λ (m : ℤ). IsMoment (int_div_euclid m (pos 1000))) (sym (to_z-of_z w64 c.micros_down.result fits)) c.micros_down.ensures.milli in
    kept_fault (λ (fault : RunFault). fault ≡ Memory) c.from_residual-in_err-push_micros.result c.in_err-push_micros.field-0.0 c.from_residual-in_err-push_micros.ensures.1
    (memory_alone (IsMoment (int_div_euclid (to_z w64 (of_z w64 c.micros_down.result)) (pos 1000))) c.in_err-push_micros.field-0.0 milli c.in_err-push_micros.ensures.fault)

pub returns-in_err-push_micros-2-clause-fault : goal.returns-in_err-push_micros-2-clause-fault
returns-in_err-push_micros-2-clause-fault c =
    let fits : SFits w64 c.micros_up.result = search rules in
    let milli : IsMoment (int_div_euclid (to_z w64 (of_z w64 c.micros_up.result)) (pos 1000)) = subst (λ (m : ℤ). IsMoment (int_div_euclid m (pos 1000))) (sym (to_z-of_z w64 c.micros_up.result fits)) c.micros_up.ensures.milli in
    kept_fault (λ (fault : RunFault). fault ≡ Memory) c.from_residual-in_err-push_micros-2.result c.in_err-push_micros-2.field-0.0 c.from_residual-in_err-push_micros-2.ensures.1
    (memory_alone (IsMoment (int_div_euclid (to_z w64 (of_z w64 c.micros_up.result)) (pos 1000))) c.in_err-push_micros-2.field-0.0 milli c.in_err-push_micros-2.ensures.fault)
