use Rattle.std.proofs.Common.{List, ℕ, ◌++◌, ◌∷◌, [], take, sym, ap, ◌∙◌, append_assoc, append-nil, arith}
use Rattle.std.proofs.lemmas.List.{take_more}
use Rattle.rows.specs.Rows.{Grown, with_value}
use Rattle.rows.proofs.growing.GrowingRows.push_first.Goals as goal

pub loop-i-init : goal.loop-i-init
loop-i-init c = ap (λ xs. record { rows = c.args.self.now.rows; row = xs }) (sym (append-nil c.args.self.now.row))

pub loop-i-preserved : goal.loop-i-preserved
loop-i-preserved c =
    let row : List (List ℕ) = c.args.row.now in
    let begun : Grown = c.args.self.now in
    let i = c.loop-i.i in
    let value = c.value.result.now in
    c.in_ok-push_value.ensures.pushed
    ∙ ap (λ g. with_value g value) c.loop-i.invariant
    ∙ ap (λ xs. record { rows = begun.rows; row = xs }) (
    append_assoc begun.row (take i row) (value ∷ [])
    ∙ ap (λ t. begun.row ++ (take i row ++ t ∷ [])) c.value.ensures
    ∙ ap (λ xs. begun.row ++ xs) (sym (take_more row i [] (omega (arith, c.requires, c.loop-i-test.true))))
    )

pub returns-in_err-push_value-clause-rows : goal.returns-in_err-push_value-clause-rows
returns-in_err-push_value-clause-rows c = ap (λ (g : Grown). g.rows) (c.in_err-push_value.ensures.stays ∙ c.loop-i.invariant)

pub returns-clause-rows : goal.returns-clause-rows
returns-clause-rows c = ap (λ (g : Grown). g.rows) c.loop-i.invariant
