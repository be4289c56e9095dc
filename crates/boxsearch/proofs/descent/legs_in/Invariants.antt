use Rattle.boxsearch.specs.Way.{meets}
use Rattle.legs.specs.Hull.{leg_boxes}
use Rattle.tbtree.specs.Descent.{hits}
use Rattle.tbtree.specs.Nodes.{HasLeaf}
use Rattle.boxsearch.proofs.LevelLemmas.{IsSoFar}
use Rattle.boxsearch.proofs.descent.legs_in.Given as goal

abbrev pub invariant-loop-i : goal.invariant-loop-i
invariant-loop-i g l =
    IsSoFar (λ nodes p. HasLeaf nodes p) (λ nodes p. hits leg_boxes (meets l.query) nodes p) l.pages l.initial.cache l.i l.cache l.found.items
