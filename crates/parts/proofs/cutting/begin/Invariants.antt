use Rattle.std.proofs.Common.{◌≡◌, map}
use Rattle.std.specs.List.{range_with_len}
use Rattle.parts.specs.Texts.{begun}
use Rattle.parts.proofs.cutting.begin.Given as goal

abbrev pub invariant-loop-place : goal.invariant-loop-place
invariant-loop-place l = l.texts.items ≡ map begun (range_with_len l.first l.place)
