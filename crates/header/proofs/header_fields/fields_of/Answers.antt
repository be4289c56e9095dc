use Rattle.std.proofs.Common.{◌≡◌, length, refl, sym, ◌∙◌, rules}
use Rattle.header.proofs.FieldsLemmas.{fields_are, says}
use Rattle.header.proofs.header_fields.fields_of.Goals as goal

pub returns-in_err-shape-clause-none : goal.returns-in_err-shape-clause-none
returns-in_err-shape-clause-none c = λ e f shape limits fits has.
    let len : length c.args.payload.now.bytes ≡ 4056 = search rules in
    c.in_err-shape.ensures.none refl f.shape shape (says c.args.payload.now f len has).0

pub returns-in_err-limits-clause-none : goal.returns-in_err-limits-clause-none
returns-in_err-limits-clause-none c = λ e f shape limits fits has.
    let len : length c.args.payload.now.bytes ≡ 4056 = search rules in
    c.in_err-limits.ensures.none refl f.limits limits (says c.args.payload.now f len has).1

pub returns-clause-some : goal.returns-clause-some
returns-clause-some c =
    fields_are c.args.payload.now _ c.in_ok-shape.ensures.some c.in_ok-limits.ensures.some
    (sym (c.u32_of.ensures ∙ c.part.ensures.value)) (sym (c.u32_of-2.ensures ∙ c.part-2.ensures.value)) (sym (c.u32_of-3.ensures ∙ c.part-3.ensures.value))
    (sym (c.u32_of-4.ensures ∙ c.part-4.ensures.value)) (sym (c.u64_of.ensures ∙ c.part-5.ensures.value)) (sym (c.u32_of-5.ensures ∙ c.part-6.ensures.value))
