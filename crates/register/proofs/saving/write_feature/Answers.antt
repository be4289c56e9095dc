use Rattle.std.proofs.Common.{◌++◌, ◌∙◌, subst, List, ℕ}
use Rattle.std.proofs.lemmas.List.{append-nil}
use Rattle.register.specs.Saving.{feature_at}
use Rattle.register.specs.Text.{kept_text, short_text, FitsKept, IsShortText}
use Rattle.register.proofs.SavingLemmas.{pushed_only, puts_same, puts_then}
use Rattle.register.proofs.saving.write_feature.Goals as goal

pub returns : goal.returns
unfolding feature_at
returns g c =
    let bytes : List ℕ = short_text c.name_at.result.now ++ kept_text c.kept_at-kept.result in
    let kept = c.kept_at-kept.ensures in
    let push = c.in_ok-push_feature.ensures in
    puts_same (append-nil bytes ∙ (λ i. short_text (c.name_at.ensures i) ++ kept_text (kept i)))
    (puts_then (pushed_only push.pushed push.whole) (λ whole _. record { name = subst IsShortText c.name_at.ensures whole.0; kept = subst FitsKept kept whole.1 }) _ c.write_text.ensures)
