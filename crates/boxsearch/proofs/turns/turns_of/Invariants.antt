use Rattle.std.proofs.Common.{◌≡◌, ◌++◌, drop, length}
use Rattle.legs.specs.Index.{SkipNone}
use Rattle.boxsearch.specs.Turns.{opened_from, turns_from}
use Rattle.boxsearch.proofs.turns.turns_of.Given as goal

-- what is left says what all say
abbrev pub invariant-loop-place : goal.invariant-loop-place
invariant-loop-place l = record {
  turns : l.turns.items ++ turns_from l.most l.ends.items (length l.places) l.place (drop l.place l.legs) ≡ turns_from l.most (opened_from l.most 0 l.places) (length l.places) 0 l.legs;
  fit : SkipNone (length l.places) l.legs → SkipNone (length l.ends.items) (drop l.place l.legs);
}
