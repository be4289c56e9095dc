use Rattle.std.proofs.Common.{◌++◌, ◌∷◌, [], subst, sym, ap, ◌∙◌}
use Rattle.csv.specs.Records.{fields_of}
use Rattle.rows.specs.Rows.{grown, with_value, AreGrown}
use Rattle.rows.proofs.GrowingLemmas.{value-in, more-value}
use Rattle.rows.proofs.growing.GrowingRows.push_value.Goals as goal

pub invariant_of-self : goal.invariant_of-self
invariant_of-self c =
    (subst (λ vs. AreGrown vs c.self.inside.places c.self.inside.first) (sym c.in_err-push_field.ensures.kept) c.self.invariant.0, λ t. cc t)

pub invariant_of-self-2 : goal.invariant_of-self-2
invariant_of-self-2 c =
    let values = fields_of c.self.inside.values in
    let pushed = c.in_ok-push_field.ensures.fields ∙ ap (λ b. values ++ (b ++ c.as_bytes.result.now) ∷ []) (c.self.invariant.1 c.if-not-self.false) ∙ ap (λ b. values ++ b ∷ []) c.as_bytes.ensures.value in (
      subst (λ vs. AreGrown vs c.self.inside.places c.self.inside.first) (sym pushed)
          (value-in values c.args.value.now c.self.inside.places c.self.inside.first c.self.invariant.0 c.utf8.value),
      λ t. c.in_ok-push_field.ensures.partial,
    )

pub returns-clause-pushed : goal.returns-clause-pushed
returns-clause-pushed c =
    let values = fields_of c.self.inside.values in
    let pushed = c.in_ok-push_field.ensures.fields ∙ ap (λ b. values ++ (b ++ c.as_bytes.result.now) ∷ []) (c.self.invariant.1 c.if-not-self.false) ∙ ap (λ b. values ++ b ∷ []) c.as_bytes.ensures.value in
    ap (λ vs. grown vs c.self.inside.places c.self.inside.first) pushed
    ∙ more-value values c.args.value.now c.self.inside.places c.self.inside.first c.self.invariant.0
    ∙ ap (λ g. with_value g c.args.value.now) c.self.view_is
