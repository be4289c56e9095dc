use Rattle.std.proofs.Common.{ℕ, List, ◌≡◌, ◌++◌, map, take}
use Rattle.writer.specs.File.{column_fields}
use Rattle.writer.proofs.file.push_column_fields.Given as goal
use denote.Ref.{Bor}

-- the columns so far
abbrev pub invariant-loop-column : goal.invariant-loop-column
invariant-loop-column l = map (λ (f : Bor (List ℕ)). f.now) l.fields.items ≡ map (λ (f : Bor (List ℕ)). f.now) l.initial.fields.items ++ column_fields (take l.column-index l.columns)
