use Rattle.std.proofs.Common.{List, ℕ, ◌++◌, ◌∷◌, [], take, sym, ap, ◌∙◌, append_assoc, append-nil, arith}
use Rattle.std.proofs.lemmas.List.{take_more, take_all}
use Rattle.rows.specs.Rows.{Grown, with_value}
use Rattle.rows.proofs.growing.GrowingRows.push_texts.Goals as goal

pub loop-text-init : goal.loop-text-init
loop-text-init c = ap (λ xs. record { rows = c.args.self.now.rows; row = xs }) (sym (append-nil c.args.self.now.row))

pub loop-text-preserved : goal.loop-text-preserved
loop-text-preserved c =
    let texts : List (List ℕ) = c.args.texts.now in
    let begun : Grown = c.args.self.now in
    let i = c.loop-text.text-index in
    let text : List ℕ = c.text-item.result in
    let value = c.as_str.result.now in
    c.in_ok-push_value.ensures.pushed
    ∙ ap (λ g. with_value g value) c.loop-text.invariant
    ∙ ap (λ xs. record { rows = begun.rows; row = xs }) (
    append_assoc begun.row (take i texts) (value ∷ [])
    ∙ ap (λ t. begun.row ++ (take i texts ++ t ∷ [])) (c.as_str.ensures ∙ c.text-item.is)
    ∙ ap (λ xs. begun.row ++ xs) (sym (take_more texts i text c.loop-text-test.true))
    )

pub returns-in_err-push_value-clause-rows : goal.returns-in_err-push_value-clause-rows
returns-in_err-push_value-clause-rows c = ap (λ (g : Grown). g.rows) (c.in_err-push_value.ensures.stays ∙ c.loop-text.invariant)

pub returns-clause-pushed : goal.returns-clause-pushed
returns-clause-pushed c =
    let begun : Grown = c.args.self.now in
    c.loop-text.invariant
    ∙ ap (λ xs. record { rows = begun.rows; row = begun.row ++ xs }) (take_all c.loop-text.text-index c.args.texts.now (omega (arith, c.loop-text-test.false)))

pub returns-clause-rows : goal.returns-clause-rows
returns-clause-rows c = ap (λ (g : Grown). g.rows) c.loop-text.invariant
