use Rattle.std.proofs.Common.{◌∙◌, rules, []}
use Rattle.register.proofs.SavingLemmas.{begun_text, put_text, some_text}
use Rattle.register.proofs.saving.write_chain.Goals as goal

pub returns-in-Ok-finish : goal.returns-in-Ok-finish
returns-in-Ok-finish g c =
    let put = put_text c.in-Ok.ensures.takes c.in-Ok.ensures.holds c.in_ok-write_catalogue.ensures c.finish.ensures.writes in
    let before = begun_text c.in-Ok.ensures.takes c.in-Ok.ensures.holds c.in_ok-write_catalogue.ensures in
    record { passes = put.0; tree = put.1; length = search rules; text = λ f. c.in-Ok-finish.ensures.text _ (c.in_ok-write_catalogue.ensures.holds [] c.in-Ok.ensures.holds) (some_text _) (before.0.store.faithful ∙ f); whole = search rules; only = search rules; caused = search rules }

pub returns-in-Err-finish : goal.returns-in-Err-finish
returns-in-Err-finish g c =
    let put = put_text c.in-Ok.ensures.takes c.in-Ok.ensures.holds c.in_ok-write_catalogue.ensures c.finish.ensures.writes in
    record { passes = put.0; tree = put.1; length = tt; text = tt; whole = tt; only = search rules; caused = search rules }

pub returns-in_err-write_catalogue : goal.returns-in_err-write_catalogue
returns-in_err-write_catalogue g c =
    let put = begun_text c.in-Ok.ensures.takes c.in-Ok.ensures.holds c.write_catalogue.ensures in
    record { passes = put.0; tree = put.1; length = search rules; text = search rules; whole = search rules; only = search rules; caused = search rules }
