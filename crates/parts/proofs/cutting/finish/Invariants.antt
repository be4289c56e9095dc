use Rattle.std.proofs.Common.{◌≡◌, map}
use Rattle.parts.proofs.cutting.finish.Given as goal

abbrev pub invariant-loop-part : goal.invariant-loop-part
invariant-loop-part l = map (λ text. text.items) l.texts.items ≡ map (λ a. a.text) l.yielded
