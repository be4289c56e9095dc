use Rattle.std.proofs.Common.{◌∙◌, ap, ◌++◌, ◌∷◌, [], sym, List, zero-add, map}
use Rattle.std.specs.List.{range_with_len}
use Rattle.std.proofs.lemmas.List.FromFn.{map-range_with_len_more}
use Rattle.legs.specs.Legs.{step_at, StepView}
use Rattle.legs.proofs.cutting.cut.Goals as goal

pub loop-k-preserved : goal.loop-k-preserved
loop-k-preserved c =
    c.in_ok-push.ensures.items ∙ ap (λ (xs : List StepView). xs ++ c.step_at.result ∷ []) c.loop-k.invariant
    ∙ ap (λ (x : StepView). map (step_at c.args.record.now) (range_with_len 0 c.loop-k.k) ++ x ∷ []) c.step_at.ensures ∙ sym (map-range_with_len_more (step_at c.args.record.now) 0 c.loop-k.k c.loop-k.k (zero-add _))
