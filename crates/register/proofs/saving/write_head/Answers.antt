use Rattle.std.proofs.Common.{◌∷◌}
use Rattle.std.proofs.lemmas.List.{append-nil}
use Rattle.register.specs.Saved.{head_of}
use Rattle.register.specs.Text.{head_text}
use Rattle.register.proofs.SavingLemmas.{pushed_only, puts_same, puts_then}
use Rattle.register.proofs.saving.write_head.Goals as goal

pub returns : goal.returns
returns g c =
    let push = c.in_ok-push_head.ensures in
    let head = puts_then (pushed_only push.pushed push.whole) (λ whole _. whole) _ c.write_text.ensures in
    puts_same (λ i. 1 ∷ append-nil (head_text (head_of c.args.head.now)) i) (puts_then (pushed_only {whole = Unit {0}} c.in_ok-push_byte.ensures tt) (λ _ whole. whole) _ head)
