use Rattle.std.proofs.Common.{◌≡◌, ℕ, List, map, take}
use Rattle.writer.specs.File.{features_text}
use Rattle.writer.specs.Written.{written}
use Rattle.writer.proofs.features.features_text.Given as goal
use denote.Ref.{Bor}

-- the names so far
abbrev pub invariant-loop-name : goal.invariant-loop-name
invariant-loop-name l = l.records ≡ written (features_text (map (λ (n : Bor (List ℕ)). n.now) (take l.name-index l.names)))
