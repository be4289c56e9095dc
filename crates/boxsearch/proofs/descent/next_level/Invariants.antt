use Rattle.boxsearch.specs.Way.{meets}
use Rattle.tbtree.specs.Descent.{children_met, HasInner}
use Rattle.boxsearch.proofs.LevelLemmas.{IsSoFar}
use Rattle.boxsearch.proofs.descent.next_level.Given as goal

abbrev pub invariant-loop-i : goal.invariant-loop-i
invariant-loop-i g l =
    IsSoFar (λ nodes p. HasInner nodes p l.level) (λ nodes p. children_met (meets l.query) nodes p) l.pages l.initial.cache l.i l.cache l.below.items
