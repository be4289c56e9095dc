use Rattle.std.proofs.Common.{◌∙◌, ◌++◌, [], ℕ, List, ap, arith}
use Rattle.reports.specs.StayTexts.{next_field, shown_value}
use Rattle.reports.proofs.TextLemmas.{texts_all, texts_more}
use Rattle.reports.proofs.values_text.push_row.Goals as goal

pub values-preserved : goal.values-preserved
values-preserved c =
    let f : List ℕ → List ℕ = λ value. next_field (shown_value value) in
    texts_more f c.args.text.now.items c.args.values.now c.values.i [] _ _ (omega (arith, c.values-test.true, c.len-i-end.ensures)) c.values.invariant
    (c.in_ok-push_next.ensures.text ∙ ap (λ (value : List ℕ). c.values.text.items ++ f value) c.value.ensures)

pub returns-clause-text : goal.returns-clause-text
returns-clause-text c =
    texts_all (λ (value : List ℕ). next_field (shown_value value)) c.args.text.now.items c.args.values.now c.values.i _ (omega (arith, c.values-test.false)) c.values.invariant
