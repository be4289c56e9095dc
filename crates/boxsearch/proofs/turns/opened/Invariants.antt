use Rattle.std.proofs.Common.{◌≡◌, ◌++◌, drop}
use Rattle.boxsearch.specs.Turns.{opened_from}
use Rattle.boxsearch.proofs.turns.opened.Given as goal

-- what is left says what all say
abbrev pub invariant-loop-feature : goal.invariant-loop-feature
invariant-loop-feature l = l.ends.items ++ opened_from l.most l.feature (drop l.feature l.places) ≡ opened_from l.most 0 l.places
