use Rattle.std.proofs.Common.{◌≡◌, ◌++◌, [], ℕ, List, OnOk, subst, sym}
use Rattle.std.proofs.lemmas.Option.{get_or_from_slice_get, slice_get_within}
use Rattle.reports.specs.StayTexts.{quoted_text}
use Rattle.reports.proofs.TextLemmas.{on_ok_always}
use Rattle.reports.proofs.moments_text.push_name.Goals as goal

pub returns-in-Some-clause-there : goal.returns-in-Some-clause-there
returns-in-Some-clause-there g c =
    on_ok_always c.push_quoted.result (slice_get_within c.args.database.now.book.names c.args.feature _ (sym c.in-Some.ensures))

pub returns-in-Some-clause-text : goal.returns-in-Some-clause-text
returns-in-Some-clause-text g c =
    subst (λ (name : List ℕ). OnOk c.push_quoted.result (c.push_quoted.new.text.items ≡ c.args.text.now.items ++ quoted_text name))
    (sym (get_or_from_slice_get c.args.database.now.book.names c.args.feature _ [] (sym c.in-Some.ensures))) c.push_quoted.ensures.text
