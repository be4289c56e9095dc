use Rattle.std.proofs.Common.{◌≡◌, ◌++◌, [], ℕ, List, OnOk, subst, sym}
use Rattle.std.proofs.lemmas.Option.{get_or_from_slice_get, slice_get_within}
use Rattle.reports.specs.StayTexts.{values_text}
use Rattle.reports.proofs.TextLemmas.{on_ok_always}
use Rattle.reports.proofs.values_text.push_values.Goals as goal

pub returns-in-Some-clause-there : goal.returns-in-Some-clause-there
returns-in-Some-clause-there g c =
    on_ok_always c.push_row.result (slice_get_within c.args.database.now.book.rows c.args.row _ (sym c.in-Some.ensures))

pub returns-in-Some-clause-text : goal.returns-in-Some-clause-text
returns-in-Some-clause-text g c =
    subst (λ (values : List (List ℕ)). OnOk c.push_row.result (c.push_row.new.text.items ≡ c.args.text.now.items ++ values_text values))
    (sym (get_or_from_slice_get c.args.database.now.book.rows c.args.row _ [] (sym c.in-Some.ensures))) c.push_row.ensures.text
