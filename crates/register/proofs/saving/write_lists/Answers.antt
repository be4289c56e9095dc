use Rattle.std.proofs.Common.{◌∙◌}
use Rattle.register.proofs.SavingLemmas.{puts_fewer, puts_refused, puts_then}
use Rattle.register.proofs.saving.write_lists.Goals as goal

pub returns : goal.returns
returns g c =
    let features = c.in_ok-write_features.ensures (c.in_ok-features.ensures.ok ∙ c.feature_count.ensures) in
    puts_fewer (λ _. tt) (puts_then features (λ features rows. (features, rows)) _ (c.write_rows.ensures (c.in_ok-row_count.ensures.ok ∙ c.len.ensures)))

pub returns-in_err-write_features : goal.returns-in_err-write_features
returns-in_err-write_features g c =
    puts_refused (λ _. tt) c.from_residual-in_err-write_features.ensures.1 (c.in_err-write_features.ensures (c.in_ok-features.ensures.ok ∙ c.feature_count.ensures))
