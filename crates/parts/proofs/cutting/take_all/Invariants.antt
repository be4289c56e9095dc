use Rattle.std.proofs.Common.{◌≡◌, ◌++◌, map, take, drop}
use Rattle.csv.specs.Records.{fields_of}
use Rattle.parts.specs.Texts.{with_fields}
use Rattle.parts.proofs.cutting.take_all.Given as goal

-- the first texts have what stands for the record, the others are as they were
abbrev pub invariant-loop-text : goal.invariant-loop-text
invariant-loop-text l = l.texts ≡ map (with_fields l.n (fields_of l.row)) (take l.text-index l.initial.texts) ++ drop l.text-index l.initial.texts
