use Rattle.std.proofs.lemmas.List.{append-nil}
use Rattle.register.specs.Text.{row_text}
use Rattle.register.proofs.SavingLemmas.{pushed_only, puts_same, puts_then}
use Rattle.register.proofs.saving.write_row.Goals as goal

pub returns : goal.returns
returns g c =
    let push = c.in_ok-push_row.ensures in
    puts_same (append-nil (row_text c.args.row.now)) (puts_then (pushed_only push.pushed push.whole) (λ whole _. whole) _ c.write_text.ensures)
