use Rattle.std.proofs.Common.{ℕ, ◌+◌, ◌≡◌, ◌∙◌, ap, ◌++◌, ◌∷◌, [], sym, List, zero-add, map, append_assoc}
use Rattle.std.specs.List.{range_with_len}
use Rattle.std.proofs.lemmas.List.FromFn.{map-range_with_len_more}
use Rattle.legs.specs.Legs.{LegView, StepView, leg_of, step_at}
use Rattle.legs.proofs.draft.push_legs.Goals as goal

-- one leg more at the end
more : (f : ℕ → LegView) (old now new : List LegView) (leg : LegView) (k : ℕ) → now ≡ old ++ map f (range_with_len 0 k) → new ≡ now ++ leg ∷ [] → leg ≡ f k → new ≡ old ++ map f (range_with_len 0 (k + 1))
more f old now new leg k e n l =
    n ∙ ap (λ (xs : List LegView). xs ++ leg ∷ []) e ∙ append_assoc old (map f (range_with_len 0 k)) (leg ∷ [])
    ∙ ap (λ (x : LegView). old ++ (map f (range_with_len 0 k) ++ x ∷ [])) l ∙ ap (λ (xs : List LegView). old ++ xs) (sym (map-range_with_len_more f 0 k k (zero-add k)))

pub loop-k-preserved : goal.loop-k-preserved
loop-k-preserved c =
    more (λ k. leg_of (c.args.ordinal + k) c.args.feature c.args.row (step_at c.args.record.now k)) c.args.legs.now.items c.loop-k.legs.items c.push.new.self.items c.numbered.result c.loop-k.k
    c.loop-k.invariant c.in_ok-push.ensures.items (c.numbered.ensures ∙ ap (λ (s : StepView). leg_of (c.args.ordinal + c.loop-k.k) c.args.feature c.args.row s) c.step_at.ensures)
