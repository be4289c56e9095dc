use Rattle.std.proofs.Common.{List, ℕ, ◌≡◌, ◌++◌, ◌∷◌, [], Some, take, sym, ap, ◌∙◌, append_assoc, arith}
use Rattle.std.specs.Prelude.{slice_get}
use Rattle.std.proofs.lemmas.List.{take_more, take_all}
use Rattle.std.proofs.lemmas.Option.{get_or_from_slice_get, slice_get_within}
use Rattle.rows.proofs.rows.Rows.push_rows.Goals as goal

pub loop-i-preserved : goal.loop-i-preserved
loop-i-preserved c =
    let rows : List (List (List ℕ)) = c.args.others.now in
    let begun : List (List (List ℕ)) = c.args.self.now in
    let i = c.loop-i.i in
    let row : List (List ℕ) = c.in-Some.row in
    let found : slice_get rows i ≡ Some row = sym c.in-Some.ensures in
    c.in_ok-push_row-in-Some.ensures.pushed
    ∙ ap (λ rs. rs ++ row ∷ []) c.loop-i.invariant
    ∙ append_assoc begun (take i rows) (row ∷ [])
    ∙ ap (λ r. begun ++ (take i rows ++ r ∷ [])) (sym (get_or_from_slice_get rows i row row found))
    ∙ ap (λ xs. begun ++ xs) (sym (take_more rows i row (slice_get_within rows i row found)))

pub returns-in_err-push_row-in-Some-clause-more : goal.returns-in_err-push_row-in-Some-clause-more
returns-in_err-push_row-in-Some-clause-more c = (take c.loop-i.i c.args.others.now, c.in_err-push_row-in-Some.ensures.stays ∙ c.loop-i.invariant)

pub returns-clause-pushed : goal.returns-clause-pushed
returns-clause-pushed c =
    c.loop-i.invariant ∙ ap (λ xs. c.args.self.now ++ xs) (take_all c.loop-i.i c.args.others.now (omega (arith, c.loop-i-test.false, c.len-i-end.ensures)))

pub returns-clause-more : goal.returns-clause-more
returns-clause-more c = (take c.loop-i.i c.args.others.now, c.loop-i.invariant)
