-- Ends by tests.
use Rattle.std.proofs.Common.{Bool, ◌↔◌, IsTrue}
use Rattle.visiting.specs.Ends.{IsEndOf}
use Rattle.visiting.specs.declared.ends.End.{End}
use Rattle.visiting.specs.declared.ends.End.TheVariants.{Leg, Period, Edge}

-- an end by two tests is one by what they test
pub end_of : (A B : Type 0) (x y : Bool) (end : End) → IsTrue x ↔ A → IsTrue y ↔ B → IsEndOf (IsTrue x) (IsTrue y) end → IsEndOf A B end
end_of A B x y Leg f g h = f.0 h
end_of A B x y Period f g h = (λ a. h.0 (f.1 a), g.0 h.1)
end_of A B x y Edge f g h = (λ a. h.0 (f.1 a), λ b. h.1 (g.1 b))
