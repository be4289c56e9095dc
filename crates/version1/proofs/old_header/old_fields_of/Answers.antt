use Rattle.std.proofs.Common.{◌≡◌, length, refl, sym, ◌∙◌, rules}
use Rattle.legs.specs.Limits.{IsLimits}
use Rattle.version1.specs.OldStore.{as_written}
use Rattle.version1.proofs.OldHeaderLemmas.{old_fields_are, old_says}
use Rattle.version1.proofs.old_header.old_fields_of.Goals as goal

pub returns-in_err-shape-clause-none : goal.returns-in_err-shape-clause-none
returns-in_err-shape-clause-none c = λ e old body.
    let len : length c.args.payload.now.bytes ≡ 4056 = search rules in
    let shape = (old_says c.args.payload.now (as_written old) len body.has).0 in
    c.in_err-shape.ensures.none refl old.leaf old.fields.shape (record { says = shape; in_range = body.shape; nearest = body.nearest })

pub returns-in_err-limits-clause-none : goal.returns-in_err-limits-clause-none
returns-in_err-limits-clause-none c = λ e old body.
    let len : length c.args.payload.now.bytes ≡ 4056 = search rules in
    c.in_err-limits.ensures.none refl old.fields.limits body.limits (old_says c.args.payload.now (as_written old) len body.has).1

pub returns-clause-some : goal.returns-clause-some
returns-clause-some c =
    let shape = c.in_ok-shape.ensures.some in
    let limits : IsLimits c.in_ok-limits.limits = search rules in
    record {
      has = old_fields_are c.args.payload.now _ shape.says c.in_ok-limits.ensures.some
          (sym (c.u32_of.ensures ∙ c.part.ensures.value)) (sym (c.u32_of-2.ensures ∙ c.part-2.ensures.value)) (sym (c.u32_of-3.ensures ∙ c.part-3.ensures.value))
          (sym (c.u32_of-4.ensures ∙ c.part-4.ensures.value)) (sym (c.u64_of.ensures ∙ c.part-5.ensures.value));
      fits = record { root = c.u32_of.type_inv; levels = c.u32_of-2.type_inv; leaves = c.u32_of-3.type_inv; first = c.u32_of-4.type_inv; length = c.u64_of.type_inv; dimension = search rules };
      shape = shape.in_range;
      nearest = shape.nearest;
      limits = limits;
      dimension = refl;
    }
