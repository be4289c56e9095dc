use Rattle.std.proofs.Common.{◌≡◌, ◌<◌, All, List, ℕ, length, map, take}
use Rattle.trajdb.specs.Answers.{feature_name}
use Rattle.trajdb.proofs.database.Core.names.Given as goal
use denote.Ref.{Bor}

-- the names so far, each of a feature of which there is one
abbrev pub invariant-loop-feature : goal.invariant-loop-feature
invariant-loop-feature g l = record {
  names : map (λ (n : Bor (List ℕ)). n.now) l.names.items ≡ map (feature_name l.self.book) (take l.feature-index l.features);
  there : All (λ feature. feature < length l.self.book.names) (take l.feature-index l.features);
}
